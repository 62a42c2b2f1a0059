use Rattle.std.proofs.Common.{length}
use Rattle.table_cases.proofs.names.+may_be_all.Given as goal

abbrev pub decreases-may_be_all : goal.decreases-may_be_all
decreases-may_be_all l = length l.names.now
