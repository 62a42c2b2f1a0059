-- Reading from left to right, as a function: the value and the bytes after it, or a refusal. The laws of reading say
-- that it returns the value spelled at the front, or else the first fault.
use Rattle.std.specs.Prelude.{◌≡◌, ℕ, zero, suc, Bool, List, [], ◌∷◌, length, take, drop, Option, Some, None, Result, Ok, Err, nat_lt}
use Rattle.std.specs.Prelude.{if◌then◌else◌}
use Rattle.std.specs.Int.{byte_len, from_be_bytes}
use Rattle.at_base.specs.Grammar.{width, Field, number, run, Grammar, done, field, part, list, room, limit, many, Refusals}
use Rattle.at_base.specs.Spelling.{Begins}
use Rattle.at_base.specs.FirstFault.{FirstFault}

infixl 10 ◌>>=◌
-- passes what was read on to f, or returns the refusal
abbrev pub ◌>>=◌ : {E A B : Type 0} → Result A E → (A → Result B E) → Result B E
(Ok x) >>= f = f x
(Err e) >>= f = Err e

-- the value, or the refusal if something is wrong with it
abbrev pub checked : {W E A : Type 0} → Refusals W E → List ℕ → Option W → A → Result A E
checked r bytes None x = Ok x
checked r bytes (Some w) x = Err (r.placed (length bytes) w)

-- the first len bytes, and the bytes after them
abbrev pub bytes_at : {E : Type 0} → E → ℕ → List ℕ → Result (List ℕ × List ℕ) E
bytes_at cut len bytes = if nat_lt (length bytes) len then Err cut else Ok (take len bytes, drop len bytes)

-- a field's value, and the bytes after it
abbrev pub field_at : {W E V : Type 0} → Refusals W E → Field W V → List ℕ → Result (V × List ℕ) E
field_at r (number size wrong) bytes =
    bytes_at r.cut (byte_len (width size)) bytes >>= λ x. checked r bytes (wrong (from_be_bytes (width size) x.0))
    (from_be_bytes (width size) x.0, x.1)
field_at r (run len wrong) bytes = bytes_at r.cut len bytes >>= λ x. checked r bytes (wrong x.0) x

-- n items, and the bytes after them
abbrev pub list_at : {E B : Type 0} → (ℕ → List ℕ → Result (B × List ℕ) E) → (B → ℕ) → ℕ → ℕ → List ℕ → Result (List B × List ℕ) E
list_at item next low zero bytes = Ok ([], bytes)
list_at item next low (suc n) bytes = item low bytes >>= λ x. list_at item next (next x.0) n x.1 >>= λ xs. Ok (x.0 ∷ xs.0, xs.1)

-- the items up to the end of the input, at most as many as a bound
abbrev pub many_at : {E B : Type 0} → (ℕ → List ℕ → Result (B × List ℕ) E) → (B → ℕ) → ℕ → ℕ → List ℕ → Result (List B) E
many_at item next low zero bytes = Ok []
many_at item next low (suc most) [] = Ok []
many_at item next low (suc most) (b ∷ bytes) = item low (b ∷ bytes) >>= λ x. many_at item next (next x.0) most x.1 >>= λ xs. Ok (x.0 ∷ xs)

-- the value that the bytes begin with, and the bytes after it
abbrev pub read : {W E : Type 0} {s : Bool} {A : Type 0} → Refusals W E → Grammar W s A → List ℕ → Result (A × List ℕ) E
read r (done x) bytes = Ok (x, bytes)
read r (field fd get after) bytes = field_at r fd bytes >>= λ x. read r (after x.0) x.1
read r (part g get after) bytes = read r g bytes >>= λ x. read r (after x.0) x.1
read r (list item next n get after) bytes = list_at (λ low. read r (item low)) next 0 n bytes >>= λ x. read r (after x.0) x.1
read r (room n g) bytes = if nat_lt (length bytes) n then Err r.cut else read r g bytes
read r (limit n over g) bytes = if nat_lt n (length bytes) then Err (r.placed (length bytes) over) else read r g bytes
read r (many item next wrong get make) bytes =
    many_at (λ low. read r (item low)) next 0 (length bytes) bytes >>= λ xs. checked r bytes (wrong xs) (make xs, [])

-- A function's result, seen through view, is the result of reading.
abbrev pub Gives : {E X Y : Type 0} → (X → Y) → Result X E → Result Y E → Type 0
Gives view (Ok x) reading = reading ≡ Ok (view x)
Gives view (Err e) reading = reading ≡ Err e

-- The contract of a reader: it returns what it keeps of the one value that the input begins with, or, where the input
-- begins with no value, the one first fault.
abbrev pub Reads : {W E : Type 0} {s : Bool} {A V X : Type 0} → Refusals W E → Grammar W s A → (A → V) → (X → V) → List ℕ → Result X E
    → Type 0
Reads {A = A} r g keep view bytes (Ok x) = (y : A) × Begins g bytes y × (keep y ≡ view x) × ((z : A) → Begins g bytes z → z ≡ y)
Reads {E = E} {A = A} r g keep view bytes (Err e) = FirstFault r g bytes e × ((f : E) → FirstFault r g bytes f → f ≡ e) ×
    ((z : A) → Begins g bytes z → ⊥)

-- the value that was read, if the reading succeeded
abbrev pub value_of : {E A B : Type 0} → Result (A × B) E → Option A
value_of (Ok x) = Some x.0
value_of (Err e) = None
