use Rattle.std.proofs.Common.{◌-◌, length}
use Rattle.image_stations.proofs.building.+put_routers.Given as goal

abbrev pub decreases-put_routers : goal.decreases-put_routers
decreases-put_routers g l = length l.image.now.routers - l.from
