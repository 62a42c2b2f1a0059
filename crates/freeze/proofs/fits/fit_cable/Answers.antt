use Rattle.std.proofs.Common.{arith, subst}
use Rattle.std.specs.List.{AllByRecursion as Each}
use Rattle.at_base.specs.Text.{IsName}
use Rattle.freeze.proofs.fits.fit_cable.Goals as goal

pub returns : goal.returns
returns c =
    record {
      start = omega arith;
      end = omega arith;
      zones = subst (λ zs. Each IsName zs) c.as_slice.ensures c.fit_zones.ensures;
    }
