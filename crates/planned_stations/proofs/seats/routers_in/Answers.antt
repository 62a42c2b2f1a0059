use Rattle.std.proofs.Common.{IsTrue, subst, sym}
use Rattle.std.specs.List.{list_all}
use Rattle.internet_file.specs.Sound.{is_router}
use Rattle.planned_stations.proofs.Bounds.{low_routers}
use Rattle.planned_stations.specs.Planning.{is_low_router}
use Rattle.planned_stations.proofs.seats.routers_in.Goals as goal

pub returns-clause-low : goal.returns-clause-low
returns-clause-low c =
    subst (λ l. IsTrue (list_all is_low_router l)) (sym c.routers.ensures.value) (low_routers c.args.plan.now c.routers.ensures.sound)
