use Rattle.std.proofs.Common.{length}
use Rattle.cabled.proofs.told.+release_all.Given as goal

abbrev pub decreases-release_all : goal.decreases-release_all
decreases-release_all l = length l.port.now.maps.held
