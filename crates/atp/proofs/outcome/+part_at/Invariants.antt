use Rattle.std.proofs.Common.{length}
use Rattle.atp.proofs.outcome.+part_at.Given as goal

abbrev pub decreases-part_at : goal.decreases-part_at
decreases-part_at l = length l.parts.now
