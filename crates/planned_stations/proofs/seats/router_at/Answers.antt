use Rattle.planned_stations.proofs.Bounds.{found_holds}
use Rattle.internet_file.specs.Sound.{is_router}
use Rattle.planned_stations.specs.Planning.{is_low_router}
use Rattle.planned_stations.proofs.seats.router_at.Goals as goal

pub returns-clause-sound : goal.returns-clause-sound
returns-clause-sound c =
    found_holds (is_router c.args.plan.now.cables) c.routers_in.result.now c.args.index c.found.result c.routers_in.ensures.sound c.found.ensures

pub returns-clause-low : goal.returns-clause-low
returns-clause-low c = found_holds is_low_router c.routers_in.result.now c.args.index c.found.result c.routers_in.ensures.low c.found.ensures
