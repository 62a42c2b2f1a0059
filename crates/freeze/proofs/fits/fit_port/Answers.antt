use Rattle.std.proofs.Common.{arith}
use Rattle.freeze.proofs.fits.fit_port.Goals as goal

pub returns : goal.returns
returns c =
    record { cable = omega arith; net = omega arith; node = omega arith; hardware = c.as_slice-six.ensures.six }
