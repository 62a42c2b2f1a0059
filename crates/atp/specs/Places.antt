-- The first item of a list that passes a test, and its index.
use Rattle.std.specs.Prelude.{◌≡◌, ℕ, ◌<◌, Bool, List, [], ◌∷◌, length, find, Some, slice_index_or, slice_set, if◌then◌else◌}

-- the list with f applied to the first item that passes
abbrev pub with_first : {X : Type 0} → (X → Bool) → (X → X) → List X → List X
with_first p f [] = []
with_first p f (x ∷ xs) = if p x then f x ∷ xs else x ∷ with_first p f xs

-- x is the first item that passes, and i its index
pub record IsPlace {X : Type 0} (p : X → Bool) (i : ℕ) (xs : List X) (x : X) : Type 0 where
  pub within : i < length xs
  pub is : (d : X) → slice_index_or xs i d ≡ x
  pub found : find p xs ≡ Some x
  pub first : (f : X → X) → with_first p f xs ≡ slice_set xs i (f x)
