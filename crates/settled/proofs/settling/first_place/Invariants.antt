use Rattle.std.proofs.Common.{◌≡◌, ℕ, suc, ◌<◌, false}
use Rattle.at_base.specs.declared.error.Place.TheVariants as place
use Rattle.settled.specs.Settling.{changes}
use Rattle.settled.proofs.settling.first_place.Given as goal

abbrev pub invariant-loop-r : goal.invariant-loop-r
invariant-loop-r l = (s : ℕ) → s < l.r → (k : ℕ) → changes l.image (place.Row (suc s) (suc k)) ≡ false
