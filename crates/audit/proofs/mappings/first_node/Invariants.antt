use Rattle.std.proofs.Common.{◌≡◌, ℕ, suc, ◌<◌, false}
use Rattle.at_base.specs.declared.error.Place.TheVariants as place
use Rattle.audit.specs.Rules.{c10}
use Rattle.audit.proofs.mappings.first_node.Given as goal

abbrev pub invariant-loop-k : goal.invariant-loop-k
invariant-loop-k l = (j : ℕ) → j < l.k → c10 l.image (place.Node (suc j)) ≡ false
