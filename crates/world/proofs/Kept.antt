-- Lists that grow: the new list begins with the old one.
use Rattle.std.proofs.Common.{List, ◌++◌, ap, ◌∙◌, append_assoc}
use Rattle.world.specs.Acting.{KeepsFirst}

module _ {X : Type 0} where
  -- Growth after growth.
  pub kept_on : (old mid new : List X) → KeepsFirst old mid → KeepsFirst mid new → KeepsFirst old new
  kept_on old mid new a b = (a.0 ++ b.0, b.1 ∙ ap (λ (xs : List X). xs ++ b.0) a.1 ∙ append_assoc old a.0 b.0)
