use Rattle.std.proofs.Common.{length}
use Rattle.planned_stations.proofs.plans.+put_all_zones.Given as goal

abbrev pub decreases-put_all_zones : goal.decreases-put_all_zones
decreases-put_all_zones l = length l.ports.now
