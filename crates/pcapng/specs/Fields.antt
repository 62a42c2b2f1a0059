-- Fields of a capture file: numbers of two and four bytes, bytes that are always the same, and padding.
use Rattle.std.specs.Prelude.{ℕ, ◌+◌, ◌-◌, ◌*◌, ◌/◌, ◌%◌, true, ◌==◌, List, Option, Some, None, replicate, if◌then◌else◌}
use Rattle.std.specs.Int.{to_be_bytes, w16, w32}
use Rattle.at_base.specs.Grammar.{Grammar, Refusals, done, field, number, two}
use Rattle.at_base.specs.Text.{same_bytes}

-- what may be wrong with a field
pub data Wrong : Type 0 where
  -- it has another value than the only one that it may have
  other : Wrong
  -- it is a length that doesn't fit the rest
  size : Wrong

-- the refusals of who reads a capture file: nothing where it is cut, else what is wrong with a field
abbrev pub blocks : Refusals Wrong (Option Wrong)
blocks = record { cut = None; placed = λ left wrong. Some wrong }

-- the test that any value passes
abbrev pub any : {V : Type 0} → V → Option Wrong
any v = None

-- the test that only one number passes
abbrev pub only : ℕ → ℕ → Option Wrong
only value n = if n == value then None else Some other

-- the test that only these bytes pass
abbrev pub only_bytes : List ℕ → List ℕ → Option Wrong
only_bytes value bytes = if same_bytes bytes value then None else Some other

-- a number in two bytes
abbrev pub two_bytes : ℕ → List ℕ
two_bytes n = to_be_bytes w16 n

-- a number in four bytes
abbrev pub four_bytes : ℕ → List ℕ
four_bytes n = to_be_bytes w32 n

-- a number of four bytes, with a test: its high half and its low half
unfoldable pub four : (ℕ → Option Wrong) → Grammar Wrong true ℕ
four wrong =
    field (number two any) (λ n. n / 65536) (λ high.
    field (number two (λ low. wrong (high * 65536 + low))) (λ n. n % 65536) (λ low.
    done (high * 65536 + low)))

-- how many bytes are missing after so many up to a multiple of four
abbrev pub gap : ℕ → ℕ
gap n = (4 - n % 4) % 4

-- so many bytes and those up to a multiple of four
abbrev pub filled : ℕ → ℕ
filled n = n + gap n

-- the zeros after so many bytes
abbrev pub filling : ℕ → List ℕ
filling n = replicate (gap n) 0
