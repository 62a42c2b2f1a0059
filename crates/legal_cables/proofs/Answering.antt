-- The response that a station tells its cables is the one in the frame that it takes.
use Rattle.std.proofs.Common.{◌≡◌, ℕ, true, ◌&&◌, ◌==◌, inl, inr, Option, Some, None, Contains, refl, sym, ap, ◌∙◌, eq-eqb, true≢false}
use Rattle.aarp.specs.declared.packet.Function.{Function}
use Rattle.aarp.specs.declared.packet.Function.TheVariants.{Request, Response, Probe}
use Rattle.aarp.specs.declared.packet.Packet.{Packet}
use Rattle.cable_model.specs.Books.{HasOneSeat}
use Rattle.cable_model.specs.Logs.{Cabling, pending_on, transcript}
use Rattle.cable_model.specs.Outcomes.{heard_by, is_named}
use Rattle.cable_model.specs.Pending.{Pair}
use Rattle.cable_model.specs.Transcript.{ArePutOnce}
use Rattle.live_cables.specs.Finding.{answer_of, said}
use Rattle.live_cables.specs.Putting.{IsAnswer}
use Rattle.live_cables.specs.declared.answer.Answer.{Answer}
use Rattle.live_cables.proofs.Taken.{same_pair}
use Rattle.station.specs.Hearing.{Hearing}
use Rattle.station.specs.Resolution.{if_response, packet_at, response_of}
use Rattle.station.specs.declared.heard.Kind.{Kind}
use Rattle.station.specs.declared.heard.Kind.TheVariants.{Ddp, Aarp}
use Rattle.resolved_runs.proofs.Elements.{any_in, in_list}

-- What a frame says.
no_response : (port : ℕ) (o : Option Packet) → response_of Aarp o ≡ None → said port o ≡ None
no_response port None h = refl
no_response port (Some p) h = by p.function refl
  where
    by : (f : Function) → p.function ≡ f → said port (Some p) ≡ None
    by Request e = rw e refl
    by Probe e = rw e refl
    by Response e = let bad = sym (ap (if_response p) e) ∙ h in cc

the_response : (port : ℕ) (o : Option Packet) (sent : Packet) → response_of Aarp o ≡ Some sent
    → said port o ≡ Some (record { port = port; source = sent.source; source_hw = sent.source_hw })
the_response port None sent h = cc
the_response port (Some p) sent h = by p.function refl
  where
    by : (f : Function) → p.function ≡ f
        → said port (Some p) ≡ Some (record { port = port; source = sent.source; source_hw = sent.source_hw })
    by Request e = let bad = sym (ap (if_response p) e) ∙ h in cc
    by Probe e = let bad = sym (ap (if_response p) e) ∙ h in cc
    by Response e =
        let same : Some p ≡ Some sent = sym (ap (if_response p) e) ∙ h in
        let one : p ≡ sent = cc in
        rw e (ap (λ (x : Packet). Some (record { port = port; source = x.source; source_hw = x.source_hw })) one)

pub nothing_said : (h : Hearing) → response_of h.kind (packet_at h.bytes) ≡ None → answer_of h ≡ None
nothing_said h e = by h.kind refl
  where
    by : (k : Kind) → h.kind ≡ k → answer_of h ≡ None
    by Ddp is = rw is refl
    by Aarp is = rw is (no_response h.port (packet_at h.bytes) (sym (ap (λ k. response_of k (packet_at h.bytes)) is) ∙ e))

pub this_said : (h : Hearing) (sent : Packet) → response_of h.kind (packet_at h.bytes) ≡ Some sent
    → answer_of h ≡ Some (record { port = h.port; source = sent.source; source_hw = sent.source_hw })
this_said h sent e = by h.kind refl
  where
    by : (k : Kind) → h.kind ≡ k → answer_of h ≡ Some (record { port = h.port; source = sent.source; source_hw = sent.source_hw })
    by Ddp is = let bad = sym (ap (λ k. response_of k (packet_at h.bytes)) is) ∙ e in cc
    by Aarp is = rw is (the_response h.port (packet_at h.bytes) sent (sym (ap (λ k. response_of k (packet_at h.bytes)) is) ∙ e))

-- The frame that was heard is the one that is taken.
pub answer_heard : (c : Cabling) (stamp station : ℕ) (o : Option Answer) → ArePutOnce (transcript c) → HasOneSeat c.seats
    → IsAnswer c stamp station o → (p : Pair) → Contains (pending_on c) p → p.frame.stamp ≡ stamp → p.seat.station ≡ station
    → o ≡ answer_of (heard_by p)
answer_heard c stamp station o once one (inl (h, heard, is)) p there of_stamp of_station =
    let same = same_pair c.seats one (transcript c) once p heard.pair there heard.was_pending (heard.of_stamp ∙ sym of_stamp)
    (heard.of_station ∙ sym of_station) in
    is ∙ ap answer_of (heard.heard ∙ ap heard_by same)
answer_heard c stamp station o once one (inr (none, is)) p there of_stamp of_station =
    let named : is_named stamp station p ≡ true =
    ap (λ b. b && station == p.seat.station) (eq-eqb stamp p.frame.stamp (sym of_stamp))
    ∙ eq-eqb station p.seat.station (sym of_station) in
    let w = in_list (pending_on c) p there in
    absurd (true≢false (sym (any_in (is_named stamp station) (pending_on c) p w named) ∙ none))
