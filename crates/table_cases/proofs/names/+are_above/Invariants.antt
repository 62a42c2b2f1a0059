use Rattle.std.proofs.Common.{length}
use Rattle.table_cases.proofs.names.+are_above.Given as goal

abbrev pub decreases-are_above : goal.decreases-are_above
decreases-are_above l = length l.names.now
