use Rattle.std.proofs.Common.{ap, ◌∙◌}
use Rattle.cable_model.proofs.Indexed.{first_there}
use Rattle.cable_model.specs.Places.{first_at, has_key}
use Rattle.cable_model.specs.declared.seats.Key.TheVariants.{Cable, Station}
use Rattle.cable_model.proofs.seats.Seats.index_on.Goals as goal

pub returns : goal.returns
returns c =
    let ss = c.args.self.now in
    let test = has_key (Station c.args.station) in
    c.first_at.ensures
    ∙ (ap (λ ss. first_at test ss c.on.result.now) (c.as_slice.ensures.value ∙ c.self.view_is)
    ∙ (ap (first_at test ss) c.on.ensures.value ∙ first_there (has_key (Cable c.args.cable)) test ss))
