use Rattle.std.proofs.Common.{length}
use Rattle.image_stations.proofs.whereabouts.+among_routers.Given as goal

abbrev pub decreases-among_routers : goal.decreases-among_routers
decreases-among_routers l = length l.routers.now
