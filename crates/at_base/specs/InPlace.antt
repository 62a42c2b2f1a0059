-- Items that stand in the bytes of a packet, as a list.
use Rattle.std.specs.Prelude.{◌≡◌, ◌≤◌, ℕ, true, List, [], length, Result, Ok, Err}
use Rattle.at_base.specs.Grammar.{Grammar}
use Rattle.at_base.specs.Lawful.{IsLawful}
use Rattle.at_base.specs.Spelling.{IsValue, bytes_of}

-- the formats of an item are lawful, and an item has at least one byte
abbrev pub AreItems : {W A : Type 0} → (ℕ → Grammar W true A) → Type 0
AreItems {A = A} g = ((low : ℕ) → IsLawful (g low)) × ((low : ℕ) (x : A) → IsValue (g low) x → 1 ≤ length (bytes_of (g low) x))

-- the items of a list that was read, or none
abbrev pub found : {E A : Type 0} → Result (List A × List ℕ) E → List A
found (Ok x) = x.0
found (Err e) = []

-- the reading has given a list
abbrev pub IsFound : {E A : Type 0} → Result (List A × List ℕ) E → Type 0
IsFound {A = A} reading = (rest : List ℕ) × (reading ≡ Ok (found reading, rest))
