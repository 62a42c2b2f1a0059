use Rattle.std.proofs.Common.{length}
use Rattle.cabled.proofs.ticking.+lose_each.Given as goal

abbrev pub decreases-lose_each : goal.decreases-lose_each
decreases-lose_each g l = length l.addrs.now
