-- Bytes written in digits.
use Rattle.std.specs.Prelude.{ℕ, ◌/◌, ◌%◌, true, List, [], ◌∷◌}
use Rattle.std.specs.Fmt.{digit_glyph}
use Rattle.std.specs.List.{flat_map}

-- bytes as pairs of hexadecimal digits, in upper case
abbrev pub hex_text : List ℕ → List ℕ
hex_text bytes = flat_map (λ b. digit_glyph true (b / 16) ∷ digit_glyph true (b % 16) ∷ []) bytes
