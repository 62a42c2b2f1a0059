use Rattle.std.proofs.Common.{length}
use Rattle.freeze.proofs.tables.+put_nodes.Given as goal

abbrev pub decreases-put_nodes : goal.decreases-put_nodes
decreases-put_nodes g l = length l.planned.now
