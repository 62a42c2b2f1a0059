use Rattle.std.proofs.Common.{length}
use Rattle.live_router.proofs.joined.+any_settles.Given as goal

abbrev pub decreases-any_settles : goal.decreases-any_settles
decreases-any_settles l = length l.before.now
