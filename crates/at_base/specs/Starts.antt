-- Items in the order of their starts.
use Rattle.std.specs.Prelude.{ℕ, suc, List, [], ◌∷◌, nat_lt, if◌then◌else◌}

-- the number of items before the first one that doesn't start below a number
abbrev pub before_start : {A : Type 0} → (A → ℕ) → ℕ → List A → ℕ
before_start start_of start [] = 0
before_start start_of start (a ∷ items) = if nat_lt (start_of a) start then suc (before_start start_of start items) else 0
