use Rattle.std.proofs.Common.{◌≤◌, ◌&&◌, ◌==◌, sym, subst, ◌∙◌}
use Rattle.cable_model.specs.Transcript.{count}
use Rattle.cable_model.specs.declared.seat.Seat.{Seat}
use Rattle.legal_runs.proofs.Seated.{one_seat}
use Rattle.run_cables.proofs.wiring.known.Goals as goal

pub new-requires-clause-one_seat : goal.new-requires-clause-one_seat
new-requires-clause-one_seat c =
    λ cable station. subst (λ l. count (λ (s : Seat). s.cable == cable && s.station == station) l ≤ 1)
    (sym (c.as_slice.ensures.value ∙ c.in_ok-seats.ensures.ok)) (one_seat c.args.image.now c.requires cable station)
