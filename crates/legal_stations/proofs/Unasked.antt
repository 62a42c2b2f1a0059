-- The entries in which a node sends a forward request or a lookup: no taking adds one.
use Rattle.std.proofs.Common.{◌≡◌, ℕ, suc, ◌+◌, Bool, true, false, not, ◌&&◌, ◌||◌, ◌==◌, cond, List, [], ◌∷◌, ◌++◌, Option, Some, None}
use Rattle.std.proofs.Common.{refl, sym, ap, ◌∙◌, arith, map}
use Rattle.std.specs.List.{AllByRecursion as Each}
use Rattle.std.proofs.lemmas.Bool.{and_right}
use Rattle.at_base.specs.Address.{same_address}
use Rattle.at_base.specs.declared.address.Hw.{Hw}
use Rattle.aarp.specs.declared.packet.Function.{Function}
use Rattle.aarp.specs.declared.packet.Function.TheVariants.{Probe, Request, Response}
use Rattle.aarp.specs.declared.packet.Packet.{Packet}
use Rattle.audit.specs.Routing.{Hand, Here, On, Nowhere, hand}
use Rattle.cable_model.proofs.Counting.{count-append}
use Rattle.cable_model.specs.Holdings.{is_open, released_frame}
use Rattle.cable_model.specs.Outcomes.{Held, Places, Sender, held_next, leg as leg_on, to_other, to_target}
use Rattle.cable_model.specs.Outgoing.{asked, held_entries, let_go, losses as lost_one}
use Rattle.cable_model.specs.Pending.{Pair}
use Rattle.cable_model.specs.Transcript.{Entry, Holding, Put, Sent, Took, count, next_stamp, stamps}
use Rattle.cable_model.specs.declared.resolve.Found.{Found}
use Rattle.cable_model.specs.declared.resolve.Found.TheVariants.{At, Nobody, Later}
use Rattle.cable_model.specs.declared.resolve.HeldBy.{HeldBy}
use Rattle.ddp.specs.Bodies.{hops, target}
use Rattle.legal_runs.proofs.Listing.{other_alone}
use Rattle.legal_runs.specs.Answers.{Answers, Expanded, LookedUp, Others, asks_here, ends_at, is_other, seeks_here}
use Rattle.legal_runs.specs.Legal.{Block, Sends, Takes, said}
use Rattle.legal_runs.specs.Legs.{Leg, fate, final, is_copy, is_unicast, leg, leg_bytes, passed, places_of, sender}
use Rattle.legal_runs.specs.Lookups.{is_unasked}
use Rattle.legal_runs.specs.Requests.{is_forward, is_lookup, request}
use Rattle.legal_runs.specs.Stations.{has_address, is_router}
use Rattle.legal_stations.proofs.Asked.{unended}
use Rattle.resolved_runs.specs.Fates.{fate_with, fate_with_by}
use Rattle.resolved_runs.specs.Mapped.{places_after}
use Rattle.resolved_runs.specs.Resolved.{answer_entries, held_by_port, resolved_leg, resolved_said}
use Rattle.resolved_runs.specs.Resolved.{resolving_by, resolving_of, waiting_entries}
use Rattle.resolved_runs.specs.ResolvedRuns as resolved
use Rattle.resolved_runs.specs.ResolvedRuns.{ResolvedBlock, resolved_fate, taking}
use Rattle.resolved_runs.proofs.Fates.{same_fate}
use Rattle.station.specs.Resolution.{packet_at}
use Rattle.station.specs.declared.output.Next.{Next}
use Rattle.station.specs.declared.output.Next.TheVariants as next
use Rattle.table_image.specs.Internet.{Internet}
use Rattle.table_image.specs.Seats.{Seat as PlaceOf}

module _ (i : Internet) where
  -- How many entries are such ones.
  abbrev pub unasked : List Entry → ℕ
  unasked es = count (is_unasked i) es

  -- ---- Legs and fates have no such entries

  either_none : (b : Bool) (xs ys : List Entry) → unasked xs ≡ 0 → unasked ys ≡ 0 → unasked (cond b xs ys) ≡ 0
  either_none true xs ys h g = h
  either_none false xs ys h g = g

  pub sent_leg : (places : Places) (s : Sender) (to : Next) (bytes : List ℕ) → unasked (leg_on places s to bytes) ≡ 0
  sent_leg places s (next.Station a) bytes = by (same_address (target bytes) a) (places.finds s.cable a)
    where
      by : (b : Bool) (f : Found) → unasked (cond b (to_target s bytes f) (to_other s bytes f)) ≡ 0
      by true (At hw) = refl
      by true Nobody = refl
      by true Later = refl
      by false (At hw) = refl
      by false Nobody = refl
      by false Later = refl
  sent_leg places s next.All bytes = either_none (places.lists (target bytes).net) _ _ refl refl
  sent_leg places s (next.Group g) bytes = refl

  leg_none : (stamp : ℕ) (l : Leg) → unasked (leg i stamp l) ≡ 0
  leg_none stamp l = sent_leg (places_of i) (sender stamp l) l.next (leg_bytes l)

  -- Whichever way its legs go out.
  module _ (leg_entries : Leg → List Entry) (none : (l : Leg) → unasked (leg_entries l) ≡ 0) where
    fate_by_none : (r : ℕ) (p : Pair) (h : Hand) → unasked (fate_with_by i leg_entries r p h) ≡ 0
    fate_by_none r p Nowhere = refl
    fate_by_none r p (Here c) =
        either_none ((target p.frame.bytes).node == 0 || has_address i r c (target p.frame.bytes)) _ _ refl
        (either_none (hops p.frame.bytes == 15) _ _ refl (none (passed r p c (final (target p.frame.bytes)))))
    fate_by_none r p (On s c a) = either_none (hops p.frame.bytes == 15) _ _ refl (none (passed r p c (next.Station a)))

    fate_none : (p : Pair) → unasked (fate_with i leg_entries p) ≡ 0
    fate_none p =
        either_none (is_copy i p) _ []
        (fate_by_none p.seat.station p (hand i p.seat.station (target p.frame.bytes).net)) refl

  -- ---- Answers

  -- The leg isn't one of a node that sends a forward request or a lookup.
  abbrev IsAsked : Leg → Type 0
  IsAsked l = is_unasked i (Sent l.station l.body) ≡ false

  said_none : (stamp : ℕ) (ls : List Leg) → Each IsAsked ls → unasked (said i stamp ls) ≡ 0
  said_none stamp [] h = refl
  said_none stamp (l ∷ ls) h =
      let first = h.0 in
      let now = leg_none stamp l in
      let rest = said_none (stamp + stamps (leg i stamp l)) ls h.1 in
      let parts = count-append (is_unasked i) (leg i stamp l) (said i (stamp + stamps (leg i stamp l)) ls) in
      let none = ap (λ b. count (λ (x : Bool). x) (b ∷ [])) first in
      omega (arith, now, rest, parts, none)

  -- A datagram that a router sends isn't sent by a node.
  by_router : (s : ℕ) → is_router i s ≡ true → (ls : List Leg) → Each (λ (l : Leg). l.station ≡ s) ls → Each IsAsked ls
  by_router s e [] h = tt
  by_router s e (l ∷ ls) h = (
    ap (λ n. not (is_router i n) && (is_forward (request l.body) || is_lookup (request l.body))) h.0
        ∙ ap (λ b. not b && (is_forward (request l.body) || is_lookup (request l.body))) e,
    by_router s e ls h.1,
  )

  neither : (a b : Bool) → a ≡ false → b ≡ false → (a || b) ≡ false
  neither true b e f = e
  neither false b e f = f

  -- A leg that is no request isn't a forward request or a lookup.
  no_request : (ls : List Leg) → Each (λ (l : Leg). is_other l.body ≡ true) ls → Each IsAsked ls
  no_request [] h = tt
  no_request (l ∷ ls) h =
      let e = other_alone l.body h.0 in
      (and_right (not (is_router i l.station)) _ (neither _ _ e.1 e.2), no_request ls h.1)

  -- Nothing ends at a node.
  no_end : (p : Pair) → is_router i p.seat.station ≡ false → ends_at i p ≡ false
  no_end p = none (is_unicast p.frame.to) (is_router i p.seat.station) _
    where
      none : (u r o : Bool) → r ≡ false → (u && r && o) ≡ false
      none true false o e = refl
      none false r o e = refl
      none true true o e = cc

  answers_asked : (p : Pair) (ls : List Leg) → Each (λ (l : Leg). l.station ≡ p.seat.station) ls → Answers i p ls
      → Each IsAsked ls
  answers_asked p ls by answers = of (is_router i p.seat.station) refl answers
    where
      apart : (b : Bool) → b ≡ true → b ≡ false → ⊥
      apart true e f = cc
      apart false e f = cc

      of : (b : Bool) → is_router i p.seat.station ≡ b → Answers i p ls → Each IsAsked ls
      of true e a = by_router p.seat.station e ls by
      of false e (Expanded here expands) = absurd (apart (asks_here i p) here (unended i p (no_end p e)).0)
      of false e (LookedUp c l here listed is looks) = absurd (apart (seeks_here i p) here (unended i p (no_end p e)).1)
      of false e (Others asks seeks other) = no_request ls other

  -- A block that begins with a taking has no such entry.
  pub block_none : (t b : List Entry) → Block i t b → (stamp s : ℕ) (others : List Entry) → b ≡ Took stamp s ∷ others → unasked b ≡ 0
  block_none t b (Sends l made own) stamp s others e = cc
  block_none t b (Takes p ls there made by answers) stamp s others e =
      let fs = fate i (stamps t) p in
      let gone = ap unasked (sym (same_fate i (stamps t) p)) ∙ fate_none (leg i (stamps t)) (leg_none (stamps t)) p in
      let rest = said_none (stamps t + stamps fs) ls (answers_asked p ls by answers) in
      let parts = count-append (is_unasked i) fs (said i (stamps t + stamps fs) ls) in
      omega (arith, gone, rest, parts)

  -- ---- Where stations ask for hardware addresses

  asking_none : (s : Sender) (ask : Option (List ℕ)) → unasked (asked s ask) ≡ 0
  asking_none s None = refl
  asking_none s (Some bytes) = refl

  let_go_none : (t : List Entry) (shed : Option ℕ) → unasked (let_go t shed) ≡ 0
  let_go_none t None = refl
  let_go_none t (Some stamp) = by (is_open t stamp)
    where
      by : (b : Bool) → unasked (lost_one (cond b (Some stamp) None)) ≡ 0
      by true = refl
      by false = refl

  held_none : (t : List Entry) (station : ℕ) (w : Held) (by : HeldBy) → unasked (held_entries t station w by) ≡ 0
  held_none t station w by =
      let gone = let_go_none t by.shed in
      let ask = asking_none (record { stamp = suc (next_stamp t); cable = w.cable; station = station }) by.ask in
      let parts = count-append (is_unasked i) (let_go t by.shed)
      (asked (record { stamp = suc (next_stamp t); cable = w.cable; station = station }) by.ask) in
      omega (arith, gone, ask, parts)

  waiting_none : (t : List Entry) (station : ℕ) (ws : List Held) → unasked (waiting_entries i t station ws) ≡ 0
  waiting_none t station [] = refl
  waiting_none t station (w ∷ ws) = held_none t station w (held_by_port i t station w)

  pub resolved_leg_none : (t : List Entry) (l : Leg) → unasked (resolved_leg i t l) ≡ 0
  resolved_leg_none t l =
      let known = leg_on (places_after i t l.station) (sender (next_stamp t) l) l.next (leg_bytes l) in
      let out = sent_leg (places_after i t l.station) (sender (next_stamp t) l) l.next (leg_bytes l) in
      let ws = held_next (places_after i t l.station) l.cable l.next (leg_bytes l) in
      let waits = waiting_none (t ++ known) l.station ws in
      let parts = count-append (is_unasked i) known (waiting_entries i (t ++ known) l.station ws) in
      omega (arith, out, waits, parts)

  resolved_said_none : (t : List Entry) (ls : List Leg) → Each IsAsked ls → unasked (resolved_said i t ls) ≡ 0
  resolved_said_none t [] h = refl
  resolved_said_none t (l ∷ ls) h =
      let u = t ++ Sent l.station l.body ∷ [] in
      let now = resolved_leg_none u l in
      let v = t ++ Sent l.station l.body ∷ resolved_leg i u l in
      let rest = resolved_said_none v ls h.1 in
      let parts = count-append (is_unasked i) (resolved_leg i u l) (resolved_said i v ls) in
      let none = ap (λ b. count (λ (x : Bool). x) (b ∷ [])) h.0 in
      omega (arith, now, rest, parts, none)

  released_none : (to : Hw) (hs : List Holding) → unasked (map (λ h. Put (released_frame h to)) hs) ≡ 0
  released_none to [] = refl
  released_none to (h ∷ hs) = let rest = released_none to hs in omega (arith, rest)

  answer_none : (t : List Entry) (cable : ℕ) (p : Packet) (ss : List PlaceOf) → unasked (answer_entries t cable p ss) ≡ 0
  answer_none t cable p [] = refl
  answer_none t cable p (s ∷ ss) = refl

  resolving_none : (t : List Entry) (p : Pair) (o : Option Packet) → unasked (resolving_of i t p o) ≡ 0
  resolving_none t p None = refl
  resolving_none t p (Some sent) = by sent.function
    where
      by : (f : Function) → unasked (resolving_by i t p.seat.station p.frame.cable sent f) ≡ 0
      by Request = answer_none t p.frame.cable sent _
      by Probe = answer_none t p.frame.cable sent _
      by Response = released_none sent.source_hw _

  -- So it is of transcripts with resolution.
  pub resolved_block_none : (t b : List Entry) → ResolvedBlock i t b → (stamp s : ℕ) (others : List Entry) → b ≡ Took stamp s ∷ others
      → unasked b ≡ 0
  resolved_block_none t b (resolved.Sends l made own) stamp s others e = cc
  resolved_block_none t b (resolved.Takes p ls there kind made by answers) stamp s others e =
      let u = t ++ taking p ∷ [] in
      let fs = resolved_fate i u p in
      let gone = fate_none (resolved_leg i u) (resolved_leg_none u) p in
      let rest = resolved_said_none (u ++ fs) ls (answers_asked p ls by answers) in
      let parts = count-append (is_unasked i) fs (resolved_said i (u ++ fs) ls) in
      omega (arith, gone, rest, parts)
  resolved_block_none t b (resolved.Resolves p there kind) stamp s others e =
      let none = resolving_none (t ++ taking p ∷ []) p (packet_at p.frame.bytes) in
      omega (arith, none)
