-- The bytes of a value, and the values that a format has.
use Rattle.std.specs.Prelude.{◌≡◌, ℕ, ◌<◌, ◌≤◌, ◌^◌, ◌*◌, Bool, List, [], ◌∷◌, ◌++◌, length, Option, None}
use Rattle.std.specs.Int.{byte_len, to_be_bytes}
use Rattle.at_base.specs.Grammar.{width, Field, number, run, Grammar, done, field, part, list, room, limit, many}

-- the bytes of a field's value
abbrev pub field_bytes : {W V : Type 0} → Field W V → V → List ℕ
field_bytes (number size wrong) n = to_be_bytes (width size) n
field_bytes (run len wrong) s = s

-- the value fits the field
abbrev pub Fits : {W V : Type 0} → Field W V → V → Type 0
Fits (number size wrong) n = n < 2 ^ (8 * byte_len (width size))
Fits (run len wrong) s = length s ≡ len

-- the field's test: what is wrong with a value, if anything is
abbrev pub wrong_with : {W V : Type 0} → Field W V → V → Option W
wrong_with (number size wrong) = wrong
wrong_with (run len wrong) = wrong

-- the value fits the field and passes its test
abbrev pub Passes : {W V : Type 0} → Field W V → V → Type 0
Passes fd v = Fits fd v × (wrong_with fd v ≡ None)

-- the bytes of items, where each item gives a number to the next one
abbrev pub list_bytes : {B : Type 0} → (ℕ → B → List ℕ) → (B → ℕ) → ℕ → List B → List ℕ
list_bytes bytes next low [] = []
list_bytes bytes next low (x ∷ xs) = bytes low x ++ list_bytes bytes next (next x) xs

-- the bytes of a value: its fields, one after the other
abbrev pub bytes_of : {W : Type 0} {s : Bool} {A : Type 0} → Grammar W s A → A → List ℕ
bytes_of (done x) y = []
bytes_of (field fd get after) y = field_bytes fd (get y) ++ bytes_of (after (get y)) y
bytes_of (part g get after) y = bytes_of g (get y) ++ bytes_of (after (get y)) y
bytes_of (list item next n get after) y = list_bytes (λ low. bytes_of (item low)) next 0 (get y) ++ bytes_of (after (get y)) y
bytes_of (room n g) y = bytes_of g y
bytes_of (limit n over g) y = bytes_of g y
bytes_of (many item next wrong get make) y = list_bytes (λ low. bytes_of (item low)) next 0 (get y)

-- each item passes, where each item gives a number to the next one
abbrev pub ListPasses : {B : Type 0} → (ℕ → B → Type 0) → (B → ℕ) → ℕ → List B → Type 0
ListPasses passes next low [] = Unit {0}
ListPasses passes next low (x ∷ xs) = passes low x × ListPasses passes next (next x) xs

-- the format has this value: each of its fields passes its test
abbrev pub IsValue : {W : Type 0} {s : Bool} {A : Type 0} → Grammar W s A → A → Type 0
IsValue (done x) y = x ≡ y
IsValue (field fd get after) y = Passes fd (get y) × IsValue (after (get y)) y
IsValue (part g get after) y = IsValue g (get y) × IsValue (after (get y)) y
IsValue (list item next n get after) y =
    (length (get y) ≡ n) × ListPasses (λ low. IsValue (item low)) next 0 (get y) × IsValue (after (get y)) y
IsValue (room n g) y = IsValue g y
IsValue (limit n over g) y = IsValue g y
IsValue (many item next wrong get make) y =
    ListPasses (λ low. IsValue (item low)) next 0 (get y) × (wrong (get y) ≡ None) × (make (get y) ≡ y)

-- y is a value of the format, and these are its bytes
abbrev pub Spells : {W : Type 0} {s : Bool} {A : Type 0} → Grammar W s A → List ℕ → A → Type 0
Spells g bytes y = IsValue g y × (bytes ≡ bytes_of g y)

-- the bytes that may follow a value: none after items that go on to the end, else any that keep the input within its
-- limits
abbrev pub Follows : {W : Type 0} {s : Bool} {A : Type 0} → Grammar W s A → A → List ℕ → Type 0
Follows (done x) y rest = Unit {0}
Follows (field fd get after) y rest = Follows (after (get y)) y rest
Follows (part g get after) y rest = Follows (after (get y)) y rest
Follows (list item next n get after) y rest = Follows (after (get y)) y rest
Follows (room n g) y rest = Follows g y rest
Follows (limit n over g) y rest = Follows g y rest × (length (bytes_of g y ++ rest) ≤ n)
Follows (many item next wrong get make) y rest = rest ≡ []

-- the input begins with the value
abbrev pub Begins : {W : Type 0} {s : Bool} {A : Type 0} → Grammar W s A → List ℕ → A → Type 0
Begins g bytes y = (rest : List ℕ) × (bytes ≡ bytes_of g y ++ rest) × IsValue g y × Follows g y rest
