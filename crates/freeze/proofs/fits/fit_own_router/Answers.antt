use Rattle.std.proofs.Common.{arith, sym, subst}
use Rattle.at_base.specs.Spelling.{IsValue}
use Rattle.table_image.proofs.CheckedParts.{none_value, some_value}
use Rattle.table_image.specs.Spelling.{own_router_spelling}
use Rattle.freeze.proofs.fits.fit_own_router.Goals as goal

pub returns-in-Some : goal.returns-in-Some
returns-in-Some c =
    subst (λ x. IsValue own_router_spelling x) (sym c.in-Some.is) (some_value c.in-Some.addr (omega arith) (omega arith))

pub returns-in-None : goal.returns-in-None
returns-in-None c = subst (λ x. IsValue own_router_spelling x) (sym c.in-None.is) none_value
