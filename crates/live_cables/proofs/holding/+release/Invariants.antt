use Rattle.std.proofs.Common.{length}
use Rattle.live_cables.proofs.holding.+release.Given as goal

abbrev pub decreases-release : goal.decreases-release
decreases-release l = length l.mapper.now.held
