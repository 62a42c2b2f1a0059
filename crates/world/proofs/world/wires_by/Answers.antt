use Rattle.std.proofs.Common.{subst, sym}
use Rattle.cable_model.specs.Books.{HasOneSeat}
use Rattle.planned_stations.proofs.Seated.{plan_one}
use Rattle.world.proofs.world.wires_by.Goals as goal

pub new-requires : goal.new-requires
new-requires c = subst HasOneSeat (sym c.requires.seats) (plan_one c.args.plan.now c.recall_sound.ensures)
