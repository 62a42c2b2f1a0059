use Rattle.std.proofs.Common.{arith}
use Rattle.freeze.proofs.fits.fit_name.Goals as goal

pub returns : goal.returns
returns c = record { socket = omega arith; enumerator = omega arith }
