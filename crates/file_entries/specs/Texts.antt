-- Bytes that a text in TOML may begin with.
use Rattle.std.specs.Prelude.{ℕ, Bool, true, false, ◌||◌, ◌==◌, cond, List, fold}
use Rattle.at_base.specs.Range.{is_between}
use Rattle.file_entries.specs.declared.judge.Next.{Next}
use Rattle.file_entries.specs.declared.judge.Next.TheVariants.{Any, Tail, TailTwo, TailThree, TailE0, TailED, TailF0, TailF4, Nothing}

-- The byte is a printable character of ASCII, a tab or the end of a line.
abbrev pub is_plain : ℕ → Bool
is_plain b = is_between 0x20 0x7E b || b == 0x09 || b == 0x0A || b == 0x0D

-- What may follow the first byte of a character.
abbrev pub after_first : ℕ → Next
after_first b =
    cond (is_plain b) Any (cond (is_between 0xC2 0xDF b) Tail (cond (b == 0xE0) TailE0 (cond (b == 0xED) TailED
    (cond (is_between 0xE1 0xEF b) TailTwo (cond (b == 0xF0) TailF0 (cond (is_between 0xF1 0xF3 b) TailThree
    (cond (b == 0xF4) TailF4 Nothing)))))))

-- The given state if the byte is within these bounds, and else that nothing may follow.
abbrev pub within : ℕ → ℕ → ℕ → Next → Next
within low high b next = cond (is_between low high b) next Nothing

-- What may follow a byte, by what might stand there.
abbrev pub step : Next → ℕ → Next
step Any b = after_first b
step Tail b = within 0x80 0xBF b Any
step TailTwo b = within 0x80 0xBF b Tail
step TailThree b = within 0x80 0xBF b TailTwo
step TailE0 b = within 0xA0 0xBF b Tail
step TailED b = within 0x80 0x9F b Tail
step TailF0 b = within 0x90 0xBF b TailTwo
step TailF4 b = within 0x80 0x8F b TailTwo
step Nothing b = Nothing

-- What may follow these bytes.
abbrev pub after_bytes : Next → List ℕ → Next
after_bytes next bytes = fold step next bytes

-- Something may follow, or the text may end.
abbrev pub is_open : Next → Bool
is_open Nothing = false
is_open _ = true

-- A text in TOML may begin with these bytes.
abbrev pub may_begin : List ℕ → Bool
may_begin bytes = is_open (after_bytes Any bytes)
