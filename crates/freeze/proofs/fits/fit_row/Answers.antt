use Rattle.std.proofs.Common.{arith}
use Rattle.freeze.proofs.fits.fit_row.Goals as goal

pub returns : goal.returns
returns c =
    record {
      start = omega arith;
      end = omega arith;
      distance = omega arith;
      port = omega arith;
      net = omega arith;
      node = omega arith;
    }
