use Rattle.std.proofs.Common.{length}
use Rattle.whole_files.proofs.shared.+first_shared.Given as goal

abbrev pub decreases-first_shared : goal.decreases-first_shared
decreases-first_shared l = length l.outputs.now
