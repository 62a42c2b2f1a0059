-- The formats that the laws of reading are about: each projection gives the part that it belongs to.
use Rattle.std.specs.Prelude.{◌≡◌, ◌≤◌, ℕ, Bool, List, length}
use Rattle.at_base.specs.Grammar.{Grammar, done, field, part, list, room, limit, many}
use Rattle.at_base.specs.Spelling.{Passes, IsValue, bytes_of}

-- the projection gives v for each value of the format
abbrev pub Has : {W : Type 0} {s : Bool} {A V : Type 0} → (A → V) → V → Grammar W s A → Type 0
Has get v (done x) = get x ≡ v
Has get v (field {V = X} fd other after) = (w : X) → Passes fd w → Has get v (after w)
Has get v (part {B = B} g other after) = (w : B) → IsValue g w → Has get v (after w)
Has get v (list {B = B} item next n other after) = (w : List B) → length w ≡ n → Has get v (after w)
Has get v (room n g) = Has get v g
Has get v (limit n over g) = Has get v g
Has get v (many {B = B} item next wrong other make) = (w : List B) → get (make w) ≡ v

-- each projection gives its part, `room` asks for no more bytes than a value has, and each item of `many` has at least
-- one byte
abbrev pub IsLawful : {W : Type 0} {s : Bool} {A : Type 0} → Grammar W s A → Type 0
IsLawful (done x) = Unit {0}
IsLawful (field {V = V} fd get after) = (v : V) → Passes fd v → Has get v (after v) × IsLawful (after v)
IsLawful (part {B = B} g get after) = IsLawful g × ((v : B) → IsValue g v → Has get v (after v) × IsLawful (after v))
IsLawful (list {B = B} item next n get after) = ((low : ℕ) → IsLawful (item low)) ×
    ((v : List B) → length v ≡ n → Has get v (after v) × IsLawful (after v))
IsLawful {A = A} (room n g) = ((y : A) → IsValue g y → n ≤ length (bytes_of g y)) × IsLawful g
IsLawful (limit n over g) = IsLawful g
IsLawful (many {B = B} item next wrong get make) =
    ((low : ℕ) → IsLawful (item low)) × ((low : ℕ) (x : B) → IsValue (item low) x → 1 ≤ length (bytes_of (item low) x)) ×
    ((v : List B) → get (make v) ≡ v)
