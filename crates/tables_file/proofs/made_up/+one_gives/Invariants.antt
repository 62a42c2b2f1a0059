use Rattle.std.proofs.Common.{length}
use Rattle.tables_file.proofs.made_up.+one_gives.Given as goal

abbrev pub decreases-one_gives : goal.decreases-one_gives
decreases-one_gives l = length l.values.now
