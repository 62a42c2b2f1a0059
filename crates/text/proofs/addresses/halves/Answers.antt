use Rattle.std.proofs.Common.{◌≡◌, ◌==◌, ℕ, Bool, List, ◌∷◌, None, refl}
use Rattle.std.specs.List.{slice_split}
use Rattle.text.specs.Words.{address}
use Rattle.text.proofs.Cutting.{first_part}
use Rattle.text.proofs.addresses.halves.Goals as goal

abbrev is_dot : ℕ → Bool
is_dot b = b == 46

-- a word with two dots is no address
three_parts : (word front rest back more : List ℕ) → slice_split is_dot word ≡ front ∷ slice_split is_dot rest
    → slice_split is_dot rest ≡ back ∷ slice_split is_dot more → address word ≡ None
three_parts word front rest back more one two = let third = first_part is_dot more in rw (one, two, third.2) refl

pub returns-in-Some-more-clause-none : goal.returns-in-Some-more-clause-none
returns-in-Some-more-clause-none c =
    let one = rw c.in-Some.is at c.cut.ensures.parts in
    let two = rw c.in-Some-more.is at c.cut-2.ensures.parts in
    three_parts c.args.word.now _ c.in-Some.rest.now _ c.in-Some-more.field-0.now one two
