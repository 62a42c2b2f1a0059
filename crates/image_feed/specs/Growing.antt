-- Reading in pieces: what a reader that stopped within a part reads of the bytes that follow.
use Rattle.std.specs.Prelude.{◌≡◌, ◌≢◌, ◌⊎◌, ℕ, zero, suc, ◌+◌, ◌<◌, Bool, true, false, ◌==◌, List, [], ◌∷◌, ◌++◌, length, Option, Some, None, Result, Ok, Err}
use Rattle.at_base.specs.declared.error.Cause.TheVariants.{Count}
use Rattle.at_base.specs.Grammar.{Grammar, Size, number, one}
use Rattle.at_base.specs.Reading.{◌>>=◌, field_at, list_at, read}
use Rattle.table_image.specs.Flaws.{Wrong, faults}
use Rattle.table_image.specs.Tests.{within}
use Rattle.table_image.specs.declared.flaw.Fault.{Fault}
use Rattle.image_feed.specs.declared.stop.Stop.{Stop}
use Rattle.image_feed.specs.declared.stop.Stop.TheVariants as stops

-- ---- what a step of reading says

-- Whatever follows the bytes, reading them gives what the second reader gives of the rest.
abbrev pub Leads : {R : Type 0} → (List ℕ → R) → List ℕ → (List ℕ → R) → List ℕ → Type 0
Leads first bytes second rest = (more : List ℕ) → first (bytes ++ more) ≡ second (rest ++ more)

-- the same fault, with so many more bytes left
abbrev pub later : ℕ → Fault → Fault
later n f = record { left = f.left + n; cause = f.cause }

-- Whatever follows the bytes, reading them has this fault, which isn't that they end too early.
abbrev pub Denies : {A : Type 0} → (List ℕ → Result A Fault) → List ℕ → Fault → Type 0
Denies first bytes f = (f ≢ faults.cut) × ((more : List ℕ) → first (bytes ++ more) ≡ Err (later (length more) f))

-- the bytes end within what is read
abbrev pub IsCut : {A : Type 0} → (List ℕ → Result A Fault) → List ℕ → Type 0
IsCut reads bytes = reads bytes ≡ Err faults.cut

-- These bytes end within what is read, whatever follows them, as long as all are fewer than so many.
abbrev pub Wants : {A : Type 0} → (List ℕ → Result A Fault) → List ℕ → ℕ → Type 0
Wants reads bytes n = (more : List ℕ) → length (bytes ++ more) < n → IsCut reads (bytes ++ more)

-- A reader stopped: an allocation failed, or the bytes have this fault.
abbrev pub StopsAt : {A : Type 0} → (List ℕ → Result A Fault) → List ℕ → Stop → Type 0
StopsAt first bytes stops.Memory = Unit {0}
StopsAt first bytes (stops.Refused f) = Denies first bytes f

-- A reader took what it could of the bytes, and left the rest: it is whole, or the rest is cut.
abbrev pub Advances : {A X : Type 0} → (X → List ℕ) → (List ℕ → Result A Fault) → List ℕ → (List ℕ → Result A Fault) → Bool → Result X Stop
    → Type 0
Advances view first bytes second whole (Ok x) = Leads first bytes second (view x) × ((whole ≡ true) ⊎ IsCut second (view x))
Advances view first bytes second whole (Err e) = StopsAt first bytes e

-- A reader took one part, if its bytes were there.
abbrev pub Steps : {A X : Type 0} → (X → List ℕ) → (List ℕ → Result A Fault) → List ℕ → (List ℕ → Result A Fault) → Result (Option X) Stop → Type 0
Steps view first bytes second (Ok (Some x)) = Leads first bytes second (view x)
Steps view first bytes second (Ok None) = Leads first bytes second bytes × IsCut second bytes
Steps view first bytes second (Err e) = StopsAt first bytes e

-- ---- lists of which a part was read

-- the count of this size, if it wasn't read before
abbrev pub count_on : Size → ℕ → Option ℕ → List ℕ → Result (ℕ × List ℕ) Fault
count_on size limit None bytes = field_at faults (number size (within 0 limit Count)) bytes
count_on size limit (Some left) bytes = Ok (left, bytes)

-- whether all parts were read
abbrev pub none_left : Option ℕ → Bool
none_left None = false
none_left (Some left) = left == 0

-- so many more parts, after those in front
abbrev pub items_on : {B : Type 0} → (ℕ → Grammar Wrong true B) → (B → ℕ) → List B → ℕ → ℕ → List ℕ → Result (List B × List ℕ) Fault
items_on item next front low left bytes = list_at (λ low. read faults (item low)) next low left bytes >>= λ x. Ok (front ++ x.0, x.1)

-- a counted list: the count, if it wasn't read before, and the parts after those in front
abbrev pub counted_on : {B : Type 0} → Size → ℕ → (ℕ → Grammar Wrong true B) → (B → ℕ) → Option ℕ → List B → ℕ → List ℕ
    → Result (List B × List ℕ) Fault
counted_on size limit item next left front low bytes = count_on size limit left bytes >>= λ x. items_on item next front low x.0 x.1

-- So many more parts, after those in front; the first of them was begun.
abbrev pub begun_on : {B : Type 0} → (ℕ → Grammar Wrong true B) → (B → ℕ) → (List ℕ → Result (B × List ℕ) Fault) → List B → ℕ → List ℕ
    → Result (List B × List ℕ) Fault
begun_on item next begun front zero bytes = Ok (front, bytes)
begun_on item next begun front (suc left) bytes = begun bytes >>= λ x. items_on item next (front ++ x.0 ∷ []) (next x.0) left x.1

-- a counted list, of which the part after those in front was begun
abbrev pub grown_on : {B : Type 0} → ℕ → (ℕ → Grammar Wrong true B) → (B → ℕ) → (List ℕ → Result (B × List ℕ) Fault) → Option ℕ → List B → List ℕ
    → Result (List B × List ℕ) Fault
grown_on limit item next begun left front bytes = count_on one limit left bytes >>= λ x. begun_on item next begun front x.0 x.1

-- ---- parts that begin with a head

-- the head, if it wasn't read before
abbrev pub head_on : {H : Type 0} → Grammar Wrong true H → Option H → List ℕ → Result (H × List ℕ) Fault
head_on g None bytes = read faults g bytes
head_on g (Some head) bytes = Ok (head, bytes)

-- the last part, or else the hint
abbrev pub like_of : {B : Type 0} → List B → Option B → Option B
like_of [] hint = hint
like_of (x ∷ []) hint = Some x
like_of (x ∷ y ∷ items) hint = like_of (y ∷ items) hint

-- a counted list of which a part was read, where the next part may be like the one before it
abbrev pub growth_on : {B S : Type 0} → ℕ → Grammar Wrong true B → (Option B → S → List ℕ → Result (B × List ℕ) Fault) → Option ℕ → List B → Option B
    → S → List ℕ → Result (List B × List ℕ) Fault
growth_on limit item goes_on left items hint next bytes = grown_on limit (λ low. item) (λ x. 0) (goes_on (like_of items hint) next) left items bytes
