use Rattle.std.proofs.Common.{◌-◌, length}
use Rattle.image_stations.proofs.building.+put_nodes.Given as goal

abbrev pub decreases-put_nodes : goal.decreases-put_nodes
decreases-put_nodes g l = length l.image.now.nodes - l.from
