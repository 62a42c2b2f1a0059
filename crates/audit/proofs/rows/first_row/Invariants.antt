use Rattle.std.proofs.Common.{◌≡◌, ℕ, suc, ◌<◌, false}
use Rattle.at_base.specs.declared.error.Place.TheVariants as place
use Rattle.audit.specs.Rules.{breaks_rows}
use Rattle.audit.proofs.rows.first_row.Given as goal

abbrev pub invariant-loop-k : goal.invariant-loop-k
invariant-loop-k l = (j : ℕ) → j < l.k → breaks_rows l.rule l.image (place.Row (suc l.r) (suc j)) ≡ false
