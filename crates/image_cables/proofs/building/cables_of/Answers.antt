use Rattle.std.proofs.Common.{◌≤◌, ◌&&◌, ◌==◌, ap, length, sym, subst, ◌∙◌}
use Rattle.cable_model.specs.Transcript.{count}
use Rattle.cable_model.specs.declared.seat.Seat.{Seat}
use Rattle.image_cables.proofs.Settled.{as_many_addresses, as_many_maps}
use Rattle.legal_runs.proofs.Seated.{one_seat}
use Rattle.image_cables.proofs.building.cables_of.Goals as goal

pub settled-requires-clause-one_seat : goal.settled-requires-clause-one_seat
settled-requires-clause-one_seat c =
    λ cable station. subst (λ l. count (λ (s : Seat). s.cable == cable && s.station == station) l ≤ 1)
    (sym (c.as_slice.ensures.value ∙ c.in_ok-seats.ensures.ok)) (one_seat c.args.image.now c.requires cable station)

pub settled-requires-clause-own : goal.settled-requires-clause-own
settled-requires-clause-own c =
    ap length c.in_ok-own.ensures.ok
    ∙ (as_many_addresses c.args.image.now ∙ sym (ap length (c.as_slice.ensures.value ∙ c.in_ok-seats.ensures.ok)))

pub settled-requires-clause-maps : goal.settled-requires-clause-maps
settled-requires-clause-maps c =
    ap length c.in_ok-mappers.ensures.ok
    ∙ (as_many_maps c.args.image.now ∙ sym (ap length (c.as_slice.ensures.value ∙ c.in_ok-seats.ensures.ok)))
