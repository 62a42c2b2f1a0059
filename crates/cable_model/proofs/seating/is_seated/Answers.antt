use Rattle.std.proofs.Common.{ap, ◌∙◌, ◌&&◌, ◌==◌}
use Rattle.std.specs.Prelude.{is_some}
use Rattle.cable_model.proofs.Finds.{any_find}
use Rattle.cable_model.proofs.seating.is_seated.Goals as goal

pub returns : goal.returns
returns c =
    c.is_some.ensures
    ∙ (ap is_some c.seat_on.ensures ∙ any_find (λ s. s.cable == c.args.cable && s.station == c.args.station) c.args.seats.now)
