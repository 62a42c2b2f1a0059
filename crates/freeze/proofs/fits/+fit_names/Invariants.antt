use Rattle.std.proofs.Common.{length}
use Rattle.freeze.proofs.fits.+fit_names.Given as goal

abbrev pub decreases-fit_names : goal.decreases-fit_names
decreases-fit_names l = length l.names.now
