use Rattle.std.proofs.Common.{◌≡◌, ℕ, suc, ◌<◌, false}
use Rattle.at_base.specs.declared.error.Place.TheVariants as place
use Rattle.settled.specs.Settling.{changes}
use Rattle.settled.proofs.settling.first_row.Given as goal

abbrev pub invariant-loop-k : goal.invariant-loop-k
invariant-loop-k l = (j : ℕ) → j < l.k → changes l.image (place.Row (suc l.r) (suc j)) ≡ false
