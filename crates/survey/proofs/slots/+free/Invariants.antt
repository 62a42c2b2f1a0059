use Rattle.std.proofs.Common.{length}
use Rattle.survey.proofs.slots.+free.Given as goal

abbrev pub decreases-free : goal.decreases-free
decreases-free l = length l.slots.now
