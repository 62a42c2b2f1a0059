use Rattle.std.proofs.Common.{length}
use Rattle.freeze.proofs.fits.+fit_lists.Given as goal

abbrev pub decreases-fit_lists : goal.decreases-fit_lists
decreases-fit_lists l = length l.lists.now
