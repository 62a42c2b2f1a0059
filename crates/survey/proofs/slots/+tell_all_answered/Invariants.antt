use Rattle.std.proofs.Common.{length}
use Rattle.survey.proofs.slots.+tell_all_answered.Given as goal

abbrev pub decreases-tell_all_answered : goal.decreases-tell_all_answered
decreases-tell_all_answered l = length l.slots.now
