use Rattle.std.proofs.Common.{length}
use Rattle.planned_stations.proofs.plans.+put_plans.Given as goal

abbrev pub decreases-put_plans : goal.decreases-put_plans
decreases-put_plans l = length l.ports.now
