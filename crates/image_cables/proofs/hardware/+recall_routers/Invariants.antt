use Rattle.std.proofs.Common.{length}
use Rattle.image_cables.proofs.hardware.+recall_routers.Given as goal

abbrev pub decreases-recall_routers : goal.decreases-recall_routers
decreases-recall_routers l = length l.routers.now
