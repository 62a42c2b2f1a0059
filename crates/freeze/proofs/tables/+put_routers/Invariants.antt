use Rattle.std.proofs.Common.{length}
use Rattle.freeze.proofs.tables.+put_routers.Given as goal

abbrev pub decreases-put_routers : goal.decreases-put_routers
decreases-put_routers g l = length l.planned.now
