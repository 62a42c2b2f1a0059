use Rattle.std.proofs.Common.{length}
use Rattle.whole_files.proofs.shared.+twin_of.Given as goal

abbrev pub decreases-twin_of : goal.decreases-twin_of
decreases-twin_of l = length l.others.now
