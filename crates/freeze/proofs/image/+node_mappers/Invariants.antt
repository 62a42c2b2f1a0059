use Rattle.std.proofs.Common.{length}
use Rattle.freeze.proofs.image.+node_mappers.Given as goal

abbrev pub decreases-node_mappers : goal.decreases-node_mappers
decreases-node_mappers l = length l.planned.now
