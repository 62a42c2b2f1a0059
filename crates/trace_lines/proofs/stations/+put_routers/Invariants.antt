use Rattle.std.proofs.Common.{length}
use Rattle.trace_lines.proofs.stations.+put_routers.Given as goal

abbrev pub decreases-put_routers : goal.decreases-put_routers
decreases-put_routers l = length l.routers.now
