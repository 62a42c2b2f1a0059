use Rattle.std.proofs.Common.{ap, ◌∙◌}
use Rattle.cable_model.proofs.Indexed.{any_there}
use Rattle.cable_model.specs.Places.{has_key, has_some}
use Rattle.cable_model.specs.declared.seats.Key.TheVariants.{Cable}
use Rattle.cable_model.proofs.seats.Seats.has_cable.Goals as goal

pub returns : goal.returns
returns c = c.is_any.ensures ∙ (ap has_some c.on.ensures.value ∙ any_there (has_key (Cable c.args.cable)) 0 c.args.self.now)
