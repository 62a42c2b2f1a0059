-- The words of a script's lines.
use Rattle.std.specs.Prelude.{ℕ, Bool, true, false, ◌==◌, cond, List, [], ◌∷◌, Option, Some, None, option_map}
use Rattle.std.specs.List.{slice_split}
use Rattle.at_base.specs.Text.{is_only}
use Rattle.at_base.specs.declared.address.Addr.{Addr}
use Rattle.text.specs.Words.{address, pairs}

-- The words of a line: the parts between single spaces.
abbrev pub words : List ℕ → List (List ℕ)
words line = slice_split (λ b. b == 32) line

-- The word is a dash, which means no value.
abbrev pub is_dash : List ℕ → Bool
is_dash word = is_only 45 word

-- The address of the word, or no address for a dash.
abbrev pub via : List ℕ → Option (Option Addr)
via word = cond (is_dash word) (Some None) (option_map Some (address word))

-- The flag of the word 0 or 1.
abbrev pub flag : List ℕ → Option Bool
flag word = cond (is_only 48 word) (Some false) (cond (is_only 49 word) (Some true) None)

-- The bytes of at least one pair of hexadecimal digits, or no bytes for a dash.
abbrev pub bytes : List ℕ → Option (List ℕ)
bytes [] = None
bytes (d ∷ ds) = cond (is_dash (d ∷ ds)) (Some []) (pairs (d ∷ ds))
