use Rattle.world.proofs.Begun.{begun_received}
use Rattle.world.proofs.beginning.stations_begun.Goals as goal

pub returns-clause-received : goal.returns-clause-received
returns-clause-received g c = begun_received c.args.plan.now _ (c.in_ok-stations.ensures {u = tt}).begun
