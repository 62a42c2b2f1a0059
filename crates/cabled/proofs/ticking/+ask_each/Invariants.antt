use Rattle.std.proofs.Common.{length}
use Rattle.cabled.proofs.ticking.+ask_each.Given as goal

abbrev pub decreases-ask_each : goal.decreases-ask_each
decreases-ask_each l = length l.addrs.now
