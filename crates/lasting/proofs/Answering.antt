-- Where a frame is taken, what is held for another router's address on the cable stays waited for: a request is answered by its
-- owner, and the response lets go of all that is held for it.
use Rattle.std.proofs.Common.{◌≡◌, inl, inr, ℕ, ◌==◌, ◌&&◌, true, List, [], ◌∷◌, ◌++◌, Option, Some, None, cond}
use Rattle.std.proofs.Common.{refl, sym, ap, ◌∙◌, subst, eq-eqb, append-nil, true≢false}
use Rattle.std.specs.Prelude.{Contains}
use Rattle.std.proofs.lemmas.Bool.{and_from}
use Rattle.aarp.specs.Choosing.{Choice, answer, wants}
use Rattle.aarp.specs.Packets.{packet, written}
use Rattle.aarp.specs.declared.packet.Function.TheVariants.{Request, Response}
use Rattle.aarp.specs.declared.packet.Packet.{Packet}
use Rattle.at_base.specs.Address.{same_address}
use Rattle.at_base.specs.Spelling.{Spells, bytes_of}
use Rattle.at_base.specs.declared.address.Addr.{Addr}
use Rattle.at_base.specs.declared.address.Hw.{Hw}
use Rattle.audit.proofs.WalkLists.{At}
use Rattle.cable_model.proofs.Counting.{contained_at}
use Rattle.cable_model.specs.Books.{HasOneSeat}
use Rattle.cable_model.specs.Logs.{Cabling, pending_on, transcript}
use Rattle.cable_model.specs.Outcomes.{cable_of, entries_of, heard_by, is_named}
use Rattle.cable_model.specs.Outgoing.{GoOut}
use Rattle.cable_model.specs.Pending.{Pair}
use Rattle.cable_model.specs.Transcript.{ArePutOnce, Entry, Put, next_stamp}
use Rattle.cable_model.specs.declared.seat.Seat.{Seat}
use Rattle.lasting.proofs.Awaiting.{IsTelling}
use Rattle.lasting.proofs.Packed.{reads}
use Rattle.lasting.proofs.Stored.{same_self}
use Rattle.live_cables.proofs.Pending.{has_any}
use Rattle.live_cables.proofs.Taken.{same_pair}
use Rattle.live_cables.specs.Finding.{Knowing, answer_of, places_of, request_for, said}
use Rattle.live_cables.specs.Holding.{Holds}
use Rattle.live_cables.specs.Putting.{IsAnswer}
use Rattle.live_cables.specs.declared.answer.Answer.{Answer}
use Rattle.live_router.specs.Living.{Living, LiveHears}
use Rattle.router.specs.Answers.{heard_kind}
use Rattle.router.specs.Holding.{Holding}
use Rattle.router.specs.Resolution.{resolved}
use Rattle.station.specs.Hearing.{Hearing}
use Rattle.station.specs.Resolution.{packet_at}
use Rattle.station.specs.declared.heard.Kind.{Kind}
use Rattle.station.specs.declared.heard.Kind.TheVariants.{Aarp}
use Rattle.station.specs.declared.output.Output.{Output}
use Rattle.station.specs.declared.output.Output.TheVariants as output

-- ---- The answer of a router

-- the response of a port to a request for its address
abbrev pub response_of : Hw → Addr → Addr → Hw → Packet
response_of mine own a theirs = record { function = Response; source_hw = mine; source = a; target_hw = theirs; target = own }

-- a settled port answers a request for its address
answered : (c : Choice) (hw : Hw) (own a : Addr) → c.is_settled ≡ true → c.tentative ≡ a
    → answer c (request_for hw own a) ≡ Some (response_of c.hw own a hw)
answered c hw own a settled is =
    let same : same_address a c.tentative ≡ true = subst (λ b. same_address a b ≡ true) (sym is) (same_self a) in
    let on : (c.is_settled && wants Request && same_address a c.tentative) ≡ true = and_from _ _ (and_from _ _ settled refl) same in
    ap (λ b. cond b (Some (response_of c.hw own c.tentative hw)) None) on ∙ ap (λ b. Some (response_of c.hw own b hw)) is

-- what a router puts out for an AARP frame
kind_outputs : (h : Holding) (x : Hearing) (k : Kind) → k ≡ Aarp → (heard_kind k h x).0 ≡ resolved h.ports x.port (packet_at x.bytes)
kind_outputs h x k is = ap (λ z. (heard_kind z h x).0) is

-- a router that hears a request for the address of a settled port puts the response
pub request_heard : (l new : Living) (p : Pair) (added : List Output) (c : Choice) (s : Seat) (a own : Addr) → p.frame.kind ≡ Aarp
    → Spells packet p.frame.bytes (written (request_for s.hw own a)) → At l.router.ports p.seat.port c → c.is_settled ≡ true → c.tentative ≡ a
    → LiveHears l (heard_by p) added new
    → added ≡ output.Wire p.seat.port s.hw (bytes_of packet (written (response_of c.hw own a s.hw))) ∷ []
request_heard l new p added c s a own kind spelled e settled is h =
    let read : packet_at p.frame.bytes ≡ Some (request_for s.hw own a) = reads p.frame.bytes _ spelled in
    let outputs : added ≡ (heard_kind p.frame.kind l.router (heard_by p)).0 = ap (λ (r : List Output × Living). r.0) h in
    outputs ∙ (kind_outputs l.router (heard_by p) p.frame.kind kind
    ∙ (ap (resolved l.router.ports p.seat.port) read
    ∙ rw e (rw (answered c s.hw own a settled is) refl)))

-- ---- What it puts out

-- the entries of a frame with an AARP packet
pub wire_told : (places : Knowing) (seats : List Seat) (station : ℕ) (t : List Entry) (port : ℕ) (to : Hw) (bytes : List ℕ) (es : List Entry)
    (ks : List (List ℕ)) (l : Knowing) → GoOut places_of Holds seats station t (output.Wire port to bytes ∷ []) places es ks l
    → es ≡ Put (record { stamp = next_stamp t; cable = cable_of seats station port; sender = station; to = to; kind = Aarp; bytes = bytes }) ∷ []
wire_told places seats station t port to bytes es ks l (first, rest, some, others, z, step, onward, split, stored) =
    let own = entries_of (places_of places) seats station (next_stamp t) (output.Wire port to bytes) in
    split ∙ (ap (λ x. x ++ rest) (step.entries ∙ (ap (λ m. own ++ m) step.held.0 ∙ append-nil own)) ∙ (ap (λ m. own ++ m) onward.0 ∙ append-nil own))

-- ---- The response

-- a frame with a response says this
pub response_said : (p : Pair) (a : Addr) (t : IsTelling a p.frame)
    → answer_of (heard_by p) ≡ Some (record { port = p.seat.port; source = a; source_hw = t.sent.source_hw })
response_said p a t =
    by (heard_by p) t.kind t.read ∙ ap (λ b. Some (record { port = p.seat.port; source = b; source_hw = t.sent.source_hw })) t.source
  where
    of : (port : ℕ) (sent : Packet) → sent.function ≡ Response
        → said port (Some sent) ≡ Some (record { port = port; source = sent.source; source_hw = sent.source_hw })
    of port sent is = rw is refl

    by : (h : Hearing) → h.kind ≡ Aarp → packet_at h.bytes ≡ Some t.sent
        → answer_of h ≡ Some (record { port = h.port; source = t.sent.source; source_hw = t.sent.source_hw })
    by h kind read = rw kind (ap (said h.port) read ∙ of h.port t.sent t.is)

-- so a station that takes it is told this
pub told_answer : (c : Cabling) (stamp station : ℕ) (o : Option Answer) → ArePutOnce (transcript c) → HasOneSeat c.seats → IsAnswer c stamp station o
    → (p : Pair) → Contains (pending_on c) p → p.frame.stamp ≡ stamp → p.seat.station ≡ station → o ≡ answer_of (heard_by p)
told_answer c stamp station o once one (inl (h, heard, is)) p there e s =
    let same : heard.pair ≡ p =
    same_pair c.seats one (transcript c) once p heard.pair there heard.was_pending (heard.of_stamp ∙ sym e) (heard.of_station ∙ sym s) in
    is ∙ (ap answer_of heard.heard ∙ ap (λ q. answer_of (heard_by q)) same)
told_answer c stamp station o once one (inr (none, is)) p there e s =
    let has = contained_at (pending_on c) p there in
    let named : is_named stamp station p ≡ true =
    and_from (stamp == p.frame.stamp) (station == p.seat.station) (eq-eqb stamp p.frame.stamp (sym e)) (eq-eqb station p.seat.station (sym s)) in
    absurd (true≢false (sym (has_any (is_named stamp station) (pending_on c) p has named) ∙ none))
