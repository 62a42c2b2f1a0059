use Rattle.std.proofs.Common.{length}
use Rattle.live_cables.proofs.giving.+give_all.Given as goal

abbrev pub decreases-give_all : goal.decreases-give_all
decreases-give_all l = length l.outputs.now.items
