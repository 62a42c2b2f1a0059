use Rattle.std.proofs.Common.{◌≡◌, ℕ, suc, ◌<◌, false}
use Rattle.at_base.specs.declared.error.Place.TheVariants as place
use Rattle.audit.specs.Rules.{c3}
use Rattle.audit.proofs.rows.first_lack.Given as goal

abbrev pub invariant-loop-k : goal.invariant-loop-k
invariant-loop-k l = (j : ℕ) → j < l.k → c3 l.image (place.Missing (suc l.r) (suc j)) ≡ false
