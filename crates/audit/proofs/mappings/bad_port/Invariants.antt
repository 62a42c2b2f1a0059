use Rattle.std.proofs.Common.{◌≡◌, ℕ, suc, ◌<◌, false}
use Rattle.at_base.specs.declared.error.Place.TheVariants as place
use Rattle.audit.specs.Rules.{c10}
use Rattle.audit.proofs.mappings.bad_port.Given as goal

abbrev pub invariant-loop-r : goal.invariant-loop-r
invariant-loop-r l = (s : ℕ) → s < l.r → (p : ℕ) → c10 l.image (place.Port (suc s) (suc p)) ≡ false
