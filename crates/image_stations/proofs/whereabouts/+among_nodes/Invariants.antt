use Rattle.std.proofs.Common.{length}
use Rattle.image_stations.proofs.whereabouts.+among_nodes.Given as goal

abbrev pub decreases-among_nodes : goal.decreases-among_nodes
decreases-among_nodes l = length l.nodes.now
