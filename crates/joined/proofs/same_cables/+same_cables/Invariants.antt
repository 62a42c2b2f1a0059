use Rattle.std.proofs.Common.{length}
use Rattle.joined.proofs.same_cables.+same_cables.Given as goal

abbrev pub decreases-same_cables : goal.decreases-same_cables
decreases-same_cables l = length l.one.now
