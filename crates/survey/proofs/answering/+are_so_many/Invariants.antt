use Rattle.std.proofs.Common.{length}
use Rattle.survey.proofs.answering.+are_so_many.Given as goal

abbrev pub decreases-are_so_many : goal.decreases-are_so_many
decreases-are_so_many l = length l.names.now
