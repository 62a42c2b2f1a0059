use Rattle.std.proofs.Common.{length}
use Rattle.image_cables.proofs.hardware.+recall_nodes.Given as goal

abbrev pub decreases-recall_nodes : goal.decreases-recall_nodes
decreases-recall_nodes l = length l.nodes.now
