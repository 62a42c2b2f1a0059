use Rattle.std.proofs.Common.{length}
use Rattle.joined.proofs.same_cables.+same_names.Given as goal

abbrev pub decreases-same_names : goal.decreases-same_names
decreases-same_names l = length l.one.now
