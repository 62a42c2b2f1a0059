use Rattle.std.proofs.Common.{length}
use Rattle.live_cables.proofs.passing.+ask_all.Given as goal

abbrev pub decreases-ask_all : goal.decreases-ask_all
decreases-ask_all l = length l.addrs.now
