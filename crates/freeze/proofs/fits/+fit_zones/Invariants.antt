use Rattle.std.proofs.Common.{length}
use Rattle.freeze.proofs.fits.+fit_zones.Given as goal

abbrev pub decreases-fit_zones : goal.decreases-fit_zones
decreases-fit_zones l = length l.zones.now
