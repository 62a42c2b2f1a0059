use Rattle.std.proofs.Common.{length}
use Rattle.image_cables.proofs.ranges.+put_routers.Given as goal

abbrev pub decreases-put_routers : goal.decreases-put_routers
decreases-put_routers l = length l.routers.now
