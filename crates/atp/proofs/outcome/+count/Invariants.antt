use Rattle.std.proofs.Common.{length}
use Rattle.atp.proofs.outcome.+count.Given as goal

abbrev pub decreases-count : goal.decreases-count
decreases-count l = length l.parts.now
