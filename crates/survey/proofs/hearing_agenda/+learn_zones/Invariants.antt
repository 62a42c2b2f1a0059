use Rattle.std.proofs.Common.{length}
use Rattle.survey.proofs.hearing_agenda.+learn_zones.Given as goal

abbrev pub decreases-learn_zones : goal.decreases-learn_zones
decreases-learn_zones l = length l.slots.now
