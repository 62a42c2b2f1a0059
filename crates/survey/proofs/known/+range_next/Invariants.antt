use Rattle.std.proofs.Common.{length}
use Rattle.survey.proofs.known.+range_next.Given as goal

abbrev pub decreases-range_next : goal.decreases-range_next
decreases-range_next l = length l.ranges.now
