-- The first fault of an input, from the left: whole fields that pass their tests, then one that isn't whole or fails
-- its test.
use Rattle.std.specs.Prelude.{◌≡◌, ℕ, zero, suc, ◌<◌, ◌≤◌, Bool, ◌⊎◌, List, [], ◌∷◌, ◌++◌, length, Some}
use Rattle.std.specs.Int.{byte_len}
use Rattle.at_base.specs.Grammar.{width, Field, number, run, Grammar, done, field, part, list, room, limit, many, Refusals}
use Rattle.at_base.specs.Spelling.{field_bytes, Fits, wrong_with, Passes, list_bytes, bytes_of, ListPasses, IsValue}

-- the number of bytes of the field
abbrev pub field_len : {W V : Type 0} → Field W V → ℕ
field_len (number size wrong) = byte_len (width size)
field_len (run len wrong) = len

-- the bytes begin with a field that isn't whole or fails its test, and f is its refusal
abbrev pub FieldFault : {W E V : Type 0} → Refusals W E → Field W V → List ℕ → E → Type 0
FieldFault {W} {E} {V} r fd bytes f =
    ((length bytes < field_len fd) × (f ≡ r.cut))
    ⊎ ((v : V) × (rest : List ℕ) × (w : W) × (bytes ≡ field_bytes fd v ++ rest) × Fits fd v × (wrong_with fd v ≡ Some w) ×
    (f ≡ r.placed (length bytes) w))

-- f is the refusal of one of n items, and the items before it pass
abbrev pub ListFault : {E B : Type 0} → (ℕ → List ℕ → E → Type 0) → (ℕ → B → List ℕ) → (ℕ → B → Type 0) → (B → ℕ) → ℕ → ℕ → List ℕ → E
    → Type 0
ListFault faulty spell passes next low zero bytes f = ⊥
ListFault {B = B} faulty spell passes next low (suc n) bytes f =
    faulty low bytes f
    ⊎ ((x : B) × (rest : List ℕ) × (bytes ≡ spell low x ++ rest) × passes low x × ListFault faulty spell passes next (next x) n rest f)

-- the number that the last of the items gives to the next item
abbrev pub low_after : {B : Type 0} → (B → ℕ) → ℕ → List B → ℕ
low_after next low [] = low
low_after next low (x ∷ xs) = low_after next (next x) xs

-- f is the first fault of the bytes, read by the format
abbrev pub FirstFault : {W E : Type 0} {s : Bool} {A : Type 0} → Refusals W E → Grammar W s A → List ℕ → E → Type 0
FirstFault r (done x) bytes f = ⊥
FirstFault r (field {V = V} fd get after) bytes f =
    FieldFault r fd bytes f ⊎ ((v : V) × (rest : List ℕ) × (bytes ≡ field_bytes fd v ++ rest) × Passes fd v × FirstFault r (after v) rest f)
FirstFault r (part {B = B} g get after) bytes f =
    FirstFault r g bytes f ⊎ ((v : B) × (rest : List ℕ) × (bytes ≡ bytes_of g v ++ rest) × IsValue g v × FirstFault r (after v) rest f)
FirstFault r (list {B = B} item next n get after) bytes f =
    ListFault (λ low. FirstFault r (item low)) (λ low. bytes_of (item low)) (λ low. IsValue (item low)) next 0 n bytes f
    ⊎ ((v : List B) × (rest : List ℕ) × (bytes ≡ list_bytes (λ low. bytes_of (item low)) next 0 v ++ rest) × (length v ≡ n)
    × ListPasses (λ low. IsValue (item low)) next 0 v × FirstFault r (after v) rest f)
FirstFault r (room n g) bytes f = ((length bytes < n) × (f ≡ r.cut)) ⊎ ((n ≤ length bytes) × FirstFault r g bytes f)
FirstFault r (limit n over g) bytes f =
    ((n < length bytes) × (f ≡ r.placed (length bytes) over)) ⊎ ((length bytes ≤ n) × FirstFault r g bytes f)
FirstFault {W} r (many {B = B} item next wrong get make) bytes f =
    ((v : List B) × (rest : List ℕ) × (bytes ≡ list_bytes (λ low. bytes_of (item low)) next 0 v ++ rest) × ListPasses
    (λ low. IsValue (item low)) next 0 v
    × (1 ≤ length rest) × FirstFault r (item (low_after next 0 v)) rest f)
    ⊎ ((v : List B) × (w : W) × (bytes ≡ list_bytes (λ low. bytes_of (item low)) next 0 v) × ListPasses (λ low. IsValue (item low)) next 0 v
    × (wrong v ≡ Some w) × (f ≡ r.placed (length bytes) w))
