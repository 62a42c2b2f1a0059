use Rattle.std.proofs.Common.{length}
use Rattle.survey.proofs.answering.+has_network.Given as goal

abbrev pub decreases-has_network : goal.decreases-has_network
decreases-has_network l = length l.entries.now
