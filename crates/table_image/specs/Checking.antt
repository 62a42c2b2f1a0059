-- Checks of a value: it is a value of its format, or else has a first flaw, at the offset where the flaw's field would
-- be if the value were written.
use Rattle.std.specs.Prelude.{◌≡◌, ℕ, ◌+◌, ◌-◌, ◌≤◌, ◌⊎◌, true, List, [], ◌∷◌, length, Some, Result, Ok, Err}
use Rattle.at_base.specs.Grammar.{Grammar, done, field, part, list, room}
use Rattle.at_base.specs.Spelling.{Fits, wrong_with, Passes, list_bytes, bytes_of, ListPasses, IsValue}
use Rattle.at_base.specs.FirstFault.{field_len}
use Rattle.table_image.specs.Flaws.{Wrong, Here, Before}
use Rattle.table_image.specs.declared.flaw.Flaw.{Flaw}

-- w is the flaw of an item, at the offset q, and the items before it pass
abbrev pub ListFlawAt : {B : Type 0} → (ℕ → B → ℕ → ℕ → Wrong → Type 0) → (ℕ → B → List ℕ) → (ℕ → B → Type 0) → (B → ℕ) → ℕ → List B → ℕ → ℕ
    → Wrong → Type 0
ListFlawAt flawed spell passes next low [] at q w = ⊥
ListFlawAt flawed spell passes next low (x ∷ xs) at q w =
    flawed low x at q w ⊎ (passes low x × ListFlawAt flawed spell passes next (next x) xs (at + length (spell low x)) q w)

-- The value's first flaw is w, and its field is at the offset q, where the value begins at `at`.
abbrev pub FlawAt : {A : Type 0} → Grammar Wrong true A → A → ℕ → ℕ → Wrong → Type 0
FlawAt (done x) y at q w = ⊥
FlawAt (field fd get after) y at q w =
    (Fits fd (get y) × (wrong_with fd (get y) ≡ Some w) × (q ≡ at)) ⊎ (Passes fd (get y) × FlawAt (after (get y)) y (at + field_len fd) q w)
FlawAt (part g get after) y at q w =
    FlawAt g (get y) at q w ⊎ (IsValue g (get y) × FlawAt (after (get y)) y (at + length (bytes_of g (get y))) q w)
FlawAt (list item next n get after) y at q w =
    (length (get y) ≡ n)
    × (ListFlawAt (λ low. FlawAt (item low)) (λ low. bytes_of (item low)) (λ low. IsValue (item low)) next 0 (get y) at q w
    ⊎ (ListPasses (λ low. IsValue (item low)) next 0 (get y) × FlawAt (after (get y)) y (at + length (list_bytes (λ low. bytes_of
    (item low)) next 0 (get y))) q w))
FlawAt (room n g) y at q w = (n ≤ length (bytes_of g y)) × FlawAt g y at q w

-- the offset at which a flaw is reported: that of its field, or so many bytes before it
abbrev pub reported : ℕ → Wrong → Flaw
reported q (Here cause) = record { place = q; cause = cause }
reported q (Before n cause) = record { place = q - n; cause = cause }

-- the result of checking a value at the offset `at`: the offset of its end, or its first flaw
abbrev pub Checks : {A : Type 0} → Grammar Wrong true A → A → ℕ → Result ℕ Flaw → Type 0
Checks g y at (Ok end) = IsValue g y × (end ≡ at + length (bytes_of g y))
Checks g y at (Err m) = (q : ℕ) × (w : Wrong) × FlawAt g y at q w × (m ≡ reported q w)

-- the result of checking items, one after the other, from the offset `at` on: the offset of their end, or the first
-- flaw
abbrev pub ChecksList : {B : Type 0} → (ℕ → Grammar Wrong true B) → (B → ℕ) → List B → ℕ → Result ℕ Flaw → Type 0
ChecksList item next xs at (Ok end) =
    ListPasses (λ low. IsValue (item low)) next 0 xs × (end ≡ at + length (list_bytes (λ low. bytes_of (item low)) next 0 xs))
ChecksList item next xs at (Err m) =
    (q : ℕ) × (w : Wrong) × ListFlawAt (λ low. FlawAt (item low)) (λ low. bytes_of (item low)) (λ low. IsValue (item low)) next 0 xs at q w
    × (m ≡ reported q w)
