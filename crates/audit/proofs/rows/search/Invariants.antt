use Rattle.std.proofs.Common.{◌≡◌, ℕ, suc, ◌<◌, false}
use Rattle.at_base.specs.declared.error.Place.TheVariants as place
use Rattle.audit.specs.Rules.{breaks_rows}
use Rattle.audit.proofs.rows.search.Given as goal

abbrev pub invariant-loop-r : goal.invariant-loop-r
invariant-loop-r l =
    (s : ℕ) → s < l.r → (k : ℕ) → (breaks_rows l.rule l.image (place.Row (suc s) (suc k)) ≡ false)
    × (breaks_rows l.rule l.image (place.Missing (suc s) (suc k)) ≡ false)
