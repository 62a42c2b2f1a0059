use Rattle.std.proofs.Common.{length}
use Rattle.survey.proofs.slots.+due.Given as goal

abbrev pub decreases-due : goal.decreases-due
decreases-due l = length l.slots.now
