use Rattle.std.proofs.Common.{length}
use Rattle.drawing.proofs.printing.+print_nodes.Given as goal

abbrev pub decreases-print_nodes : goal.decreases-print_nodes
decreases-print_nodes g l = length l.nodes.now
