use Rattle.std.proofs.Common.{length}
use Rattle.tables_file.proofs.rising.+rise.Given as goal

abbrev pub decreases-rise : goal.decreases-rise
decreases-rise g l = length l.items.now
