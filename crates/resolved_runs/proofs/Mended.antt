-- The transcripts that aren't legal are legal without their mistakes.
use Rattle.std.proofs.Common.{ℕ, List, inr, false, [], ◌∷◌, ◌++◌, refl, sym, arith, take, drop}
use Rattle.at_base.specs.Packets.{address}
use Rattle.aarp.specs.Packets.{packet}
use Rattle.ddp.specs.declared.header.Header.{Header}
use Rattle.ddp.specs.Datagram.{datagram, unsummed}
use Rattle.ddp.proofs.Shape.{bytes_laid}
use Rattle.audit.specs.Example.{addr, hardware}
use Rattle.station.specs.Resolution.{packet_at}
use Rattle.station.specs.declared.output.Next.TheVariants as next
use Rattle.cable_model.specs.Transcript.{Took}
use Rattle.legal_runs.proofs.ByHand.{fitting, frame, is_body, not_zero}
use Rattle.legal_runs.proofs.Echo.{request_leg}
use Rattle.legal_runs.specs.Answers.{ByRouter, IsBody, IsMade, Others}
use Rattle.legal_runs.specs.Example.{echo_request, framed, plain}
use Rattle.legal_runs.specs.Legs.{Leg}
use Rattle.legal_runs.specs.Requests.{request}
use Rattle.resolved_runs.specs.Example.{asking, mapped, resolved_echo, telling, unmapped}
use Rattle.resolved_runs.specs.ResolvedRuns.{Begins, Continues, IsLegalResolved, Resolves, Sends, Takes}
use Rattle.resolved_runs.specs.Illegal.{answered_for_another, asked_for_each, one_released, reached_again}
use Rattle.resolved_runs.proofs.Echo.{echo_3, first_here, frame_in, heard, node_seat, printer_seat}
use Rattle.resolved_runs.proofs.Echo.{request_is_made, request_is_own, second_here}

abbrev header : ℕ → ℕ → Header
header net node = record {
  summed = false;
  target = addr net node;
  source = addr 10 7;
  target_socket = 128;
  source_socket = 128;
  kind = 128;
}

router_is_body : IsBody (plain 0 10 1)
router_is_body =
    let h = header 10 1 in
    is_body h [] (plain 0 10 1)
    (fitting h (omega arith) (omega arith) (omega arith) (omega arith) (omega arith) (omega arith) (omega arith)) (omega arith)
    (sym (bytes_laid (unsummed h []))) refl

absent_is_body : IsBody (plain 0 30 9)
absent_is_body =
    let h = header 30 9 in
    is_body h [] (plain 0 30 9)
    (fitting h (omega arith) (omega arith) (omega arith) (omega arith) (omega arith) (omega arith) (omega arith)) (omega arith)
    (sym (bytes_laid (unsummed h []))) refl

abbrev leg_with : List ℕ → Leg
leg_with b = record { station = 2; cable = 0; next = next.Station (addr 10 1); body = b; hops = 0 }

router_is_made : IsMade unmapped (leg_with (plain 0 10 1))
router_is_made =
    record { seated = refl; whole = router_is_body; fresh = refl; goes = ByRouter (addr 10 1) 0 refl refl (not_zero 10 (omega arith)) }

absent_is_made : IsMade mapped (leg_with (plain 0 30 9))
absent_is_made =
    record { seated = refl; whole = absent_is_body; fresh = refl; goes = ByRouter (addr 10 1) 0 refl refl (not_zero 30 (omega arith)) }

-- ---- Released once

to_router_4 : IsLegalResolved unmapped (take 4 reached_again)
unfolding request datagram packet_at packet address
to_router_4 = Continues [] (take 4 reached_again) Begins (Sends (leg_with (plain 0 10 1)) router_is_made (record { by_node = refl; handed = inr (addr 10 1, 0, refl, refl) }))

to_router_6 : IsLegalResolved unmapped (take 6 reached_again)
unfolding request datagram packet_at packet address
to_router_6 = Continues (take 4 reached_again) (take 2 (drop 4 reached_again)) to_router_4 (Resolves (heard (frame_in (asking 1 0 2 5 10 7 1)) first_here) (0, omega arith, refl) refl)

pub reached_once : IsLegalResolved unmapped (take 7 reached_again ++ drop 8 reached_again)
unfolding request datagram packet_at packet address
reached_once = Continues (take 6 reached_again) (Took 2 2 ∷ framed 0 0 2 1 (plain 0 10 1) ∷ []) to_router_6 (Resolves (heard (frame_in (telling 2 0 0 1 10 1 5 7)) node_seat) (0, omega arith, refl) refl)

-- ---- Asked once, and both released

pub asked_once : IsLegalResolved unmapped (take 5 asked_for_each)
unfolding request datagram packet_at packet address
asked_once = Continues (take 3 resolved_echo) (take 2 (drop 3 asked_for_each)) echo_3 (Sends request_leg request_is_made request_is_own)

both_7 : IsLegalResolved unmapped (take 7 one_released)
unfolding request datagram packet_at packet address
both_7 = Continues (take 5 one_released) (take 2 (drop 5 one_released)) asked_once (Resolves (heard (frame_in (asking 1 0 2 5 10 7 1)) first_here) (0, omega arith, refl) refl)

pub both_released : IsLegalResolved unmapped (one_released ++ framed 2 0 2 1 (echo_request 0) ∷ [])
unfolding request datagram packet_at packet address
both_released = Continues (take 7 one_released) (Took 3 2 ∷ framed 0 0 2 1 (echo_request 0) ∷ framed 2 0 2 1 (echo_request 0) ∷ []) both_7 (Resolves (heard (frame_in (telling 3 0 0 1 10 1 5 7)) node_seat) (0, omega arith, refl) refl)

-- ---- Not answered

absent_2 : IsLegalResolved mapped (take 2 answered_for_another)
unfolding request datagram packet_at packet address
absent_2 = Continues [] (take 2 answered_for_another) Begins (Sends (leg_with (plain 0 30 9)) absent_is_made (record { by_node = refl; handed = inr (addr 10 1, 0, refl, refl) }))

absent_4 : IsLegalResolved mapped (take 4 answered_for_another)
unfolding request datagram packet_at packet address
absent_4 = Continues (take 2 answered_for_another) (take 2 (drop 2 answered_for_another)) absent_2 (Takes (heard (frame 0 0 2 (hardware 1) (plain 0 30 9)) first_here) [] (0, omega arith, refl) refl tt tt (Others refl refl tt))

absent_8 : IsLegalResolved mapped (take 8 answered_for_another)
unfolding request datagram packet_at packet address
absent_8 = Continues (take 4 answered_for_another) (take 4 (drop 4 answered_for_another)) absent_4 (Takes (heard (frame 1 1 0 (hardware 3) (plain 4 30 9)) second_here) [] (0, omega arith, refl) refl tt tt (Others refl refl tt))

pub not_answered : IsLegalResolved mapped (take 9 answered_for_another)
unfolding request datagram packet_at packet address
not_answered = Continues (take 8 answered_for_another) (take 1 (drop 8 answered_for_another)) absent_8 (Resolves (heard (frame_in (asking 3 2 1 4 30 1 9)) printer_seat) (0, omega arith, refl) refl)
