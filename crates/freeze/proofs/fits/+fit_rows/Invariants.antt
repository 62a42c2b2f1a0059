use Rattle.std.proofs.Common.{length}
use Rattle.freeze.proofs.fits.+fit_rows.Given as goal

abbrev pub decreases-fit_rows : goal.decreases-fit_rows
decreases-fit_rows l = length l.rows.now
