use Rattle.std.proofs.Common.{◌≡◌, ℕ, suc, ◌<◌, false}
use Rattle.at_base.specs.declared.error.Place.TheVariants as place
use Rattle.audit.specs.Rules.{end_before, c1}
use Rattle.audit.proofs.cables.first_cable.Given as goal

abbrev pub invariant-loop-k : goal.invariant-loop-k
invariant-loop-k l =
    (l.before ≡ end_before l.image.cables l.k)
    × ((j : ℕ) → j < l.k → c1 l.image (place.Cable (suc j)) ≡ false)
