use Rattle.std.proofs.Common.{length}
use Rattle.live_cables.proofs.holding.+shed_all.Given as goal

abbrev pub decreases-shed_all : goal.decreases-shed_all
decreases-shed_all l = length l.stamps.now
