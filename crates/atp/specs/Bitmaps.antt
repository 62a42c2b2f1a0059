-- Bitmaps of eight parts: bit i is part i. (Inside AppleTalk, the chapter on ATP)
use Rattle.std.specs.Prelude.{ℕ, ◌+◌, ◌*◌, ◌/◌, ◌%◌, ◌^◌, ◌==◌, Bool, List, [], ◌∷◌, map, nat_lt, if◌then◌else◌}

-- the first n of eight parts, as flags
abbrev pub first_parts : ℕ → List Bool
first_parts n = map (λ i. nat_lt i n) (0 ∷ 1 ∷ 2 ∷ 3 ∷ 4 ∷ 5 ∷ 6 ∷ 7 ∷ [])

-- the number of a bitmap's flags
abbrev pub bitmap : List Bool → ℕ
bitmap [] = 0
bitmap (b ∷ bits) = (if b then 1 else 0) + 2 * bitmap bits

-- the bit of part i is set in the number of a bitmap
abbrev pub asks_for : ℕ → ℕ → Bool
asks_for number i = number / 2 ^ i % 2 == 1
