use Rattle.std.proofs.Common.{length}
use Rattle.image_cables.proofs.ranges.+put_nodes.Given as goal

abbrev pub decreases-put_nodes : goal.decreases-put_nodes
decreases-put_nodes l = length l.nodes.now
