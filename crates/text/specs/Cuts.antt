-- The rest of a text that is split at a byte.
use Rattle.std.specs.Prelude.{ℕ, ◌==◌, List, [], Option}
use Rattle.std.specs.Borrow.{Bor}
use Rattle.std.specs.List.{slice_split}
use Rattle.std.specs.Option.{option_map_or}

-- the parts of the rest, split at the byte; none if the text is used up
abbrev pub parts_left : ℕ → Option (Bor (List ℕ)) → List (List ℕ)
parts_left byte rest = option_map_or (λ text. slice_split (λ b. b == byte) text.now) rest []
