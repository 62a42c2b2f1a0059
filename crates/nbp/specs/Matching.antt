-- Matching names with patterns. (Inside AppleTalk, the chapter on NBP)
use Rattle.std.specs.Prelude.{ℕ, ◌+◌, ◌-◌, ◌++◌, Bool, ◌&&◌, ◌||◌, ◌==◌, ◌⊎◌, IsTrue, List, [], ◌∷◌, length, take, drop, Option, Some, None}
use Rattle.std.specs.Prelude.{option_map, nat_le, if◌then◌else◌}
use Rattle.at_base.specs.Text.{is_only, same_name, SameName}

-- the bytes before the first wildcard of a pattern and those after it, if it has one
abbrev pub split_at_wildcard : List ℕ → Option (List ℕ × List ℕ)
split_at_wildcard [] = None
split_at_wildcard (b ∷ bs) = if b == 0xC5 then Some ([], bs) else option_map (λ x. (b ∷ x.0, x.1)) (split_at_wildcard bs)

-- A pattern other than `=` matches a name, given its parts before and after the first wildcard: without a wildcard the
-- pattern is the name, else the wildcard matches a run of bytes.
abbrev pub IsLike : List ℕ → List ℕ → Option (List ℕ × List ℕ) → Type 0
IsLike pattern name None = SameName pattern name
IsLike pattern name (Some x) = (run : List ℕ) × SameName (x.0 ++ run ++ x.1) name

-- A pattern matches a name, ignoring the case of ASCII letters: `=` matches every name, a pattern without a wildcard
-- matches itself, and otherwise the first wildcard matches any run of bytes.
abbrev pub Matches : List ℕ → List ℕ → Type 0
Matches pattern name = IsTrue (is_only 61 pattern) ⊎ IsLike pattern name (split_at_wildcard pattern)

-- the name begins with before, and the rest of it ends with after, ignoring case
abbrev pub is_around : List ℕ → List ℕ → List ℕ → Bool
is_around before after name =
    nat_le (length before + length after) (length name) && (same_name before (take (length before) name)
    && same_name after (drop (length name - length after) name))

-- a pattern other than `=` matches a name, as a test
abbrev pub is_like : List ℕ → List ℕ → Option (List ℕ × List ℕ) → Bool
is_like pattern name None = same_name pattern name
is_like pattern name (Some x) = is_around x.0 x.1 name

-- a pattern matches a name, as a test
abbrev pub matches : List ℕ → List ℕ → Bool
matches pattern name = is_only 61 pattern || is_like pattern name (split_at_wildcard pattern)
