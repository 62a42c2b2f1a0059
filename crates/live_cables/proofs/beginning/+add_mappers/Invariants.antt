use Rattle.std.proofs.Common.{length}
use Rattle.live_cables.proofs.beginning.+add_mappers.Given as goal

abbrev pub decreases-add_mappers : goal.decreases-add_mappers
decreases-add_mappers l = length l.seats.now
