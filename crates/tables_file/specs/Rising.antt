-- Lists that rise strictly.
use Rattle.std.specs.Prelude.{ℕ, ◌&&◌, Bool, true, List, [], ◌∷◌, nat_lt}

-- Each item passes on more than the item before it did, and the first one more than `low`.
abbrev pub rise : {X : Type 0} → (X → ℕ) → ℕ → List X → Bool
rise next low [] = true
rise next low (x ∷ xs) = nat_lt low (next x) && rise next (next x) xs
