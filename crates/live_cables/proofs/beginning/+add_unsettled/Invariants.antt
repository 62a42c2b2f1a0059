use Rattle.std.proofs.Common.{length}
use Rattle.live_cables.proofs.beginning.+add_unsettled.Given as goal

abbrev pub decreases-add_unsettled : goal.decreases-add_unsettled
decreases-add_unsettled l = length l.seats.now
