use Rattle.std.proofs.Common.{length}
use Rattle.settled.proofs.offers.+is_offered.Given as goal

abbrev pub decreases-is_offered : goal.decreases-is_offered
decreases-is_offered l = length l.routers.now
