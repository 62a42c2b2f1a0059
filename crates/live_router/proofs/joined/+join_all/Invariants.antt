use Rattle.std.proofs.Common.{length}
use Rattle.live_router.proofs.joined.+join_all.Given as goal

abbrev pub decreases-join_all : goal.decreases-join_all
decreases-join_all g l = length l.before.now
