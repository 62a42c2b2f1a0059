use Rattle.std.proofs.Common.{length}
use Rattle.survey.proofs.slots.+tell_all_silent.Given as goal

abbrev pub decreases-tell_all_silent : goal.decreases-tell_all_silent
decreases-tell_all_silent l = length l.slots.now
