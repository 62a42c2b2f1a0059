use Rattle.std.proofs.Common.{length}
use Rattle.zip_zones.proofs.table.+most_in.Given as goal

abbrev pub decreases-most_in : goal.decreases-most_in
decreases-most_in l = length l.lists.now
