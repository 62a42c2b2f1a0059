use Rattle.std.proofs.Common.{length}
use Rattle.settled.proofs.offering.+row_offering.Given as goal

abbrev pub decreases-row_offering : goal.decreases-row_offering
decreases-row_offering l = length l.rows.now
