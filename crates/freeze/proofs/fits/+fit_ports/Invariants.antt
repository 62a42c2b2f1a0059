use Rattle.std.proofs.Common.{length}
use Rattle.freeze.proofs.fits.+fit_ports.Given as goal

abbrev pub decreases-fit_ports : goal.decreases-fit_ports
decreases-fit_ports l = length l.ports.now
