use Rattle.std.proofs.Common.{length}
use Rattle.atp.proofs.transaction.+bitmap.Given as goal

abbrev pub decreases-bitmap : goal.decreases-bitmap
decreases-bitmap l = length l.bits.now
