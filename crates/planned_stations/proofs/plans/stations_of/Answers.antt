use Rattle.planned_stations.proofs.Beginnings.{begun_ports}
use Rattle.planned_stations.proofs.plans.stations_of.Goals as goal

pub returns-clause-ports : goal.returns-clause-ports
returns-clause-ports g c = begun_ports c.args.plan.now _ (c.in_ok-stations.ensures {u = tt}).ok
