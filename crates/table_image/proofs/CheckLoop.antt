-- Checking items in a loop.
use Rattle.std.proofs.Common.{◌≡◌, ℕ, suc, ◌+◌, ◌*◌, ◌<◌, ◌≤◌, true, Result, Ok, Err, MatchResult, List, ◌∷◌, length, get_or}
use Rattle.std.proofs.Common.{drop, refl, sym, ap, subst, ◌∙◌, arith, inl, inr}
use Rattle.std.proofs.Math.Seq.{drop-cons}
use Rattle.std.proofs.Math.Nat.{mul-le-mul_right}
use Rattle.std.proofs.lemmas.List.{length-append}
use Rattle.at_base.specs.Grammar.{Grammar}
use Rattle.at_base.specs.Spelling.{list_bytes, bytes_of, ListPasses, IsValue}
use Rattle.table_image.specs.Flaws.{Wrong}
use Rattle.table_image.specs.Checking.{ListFlawAt, FlawAt}
use Rattle.table_image.specs.declared.flaw.Flaw.{Flaw}

-- the loop is at item i, at an offset, with the number that the item before passes on
pub record Standing {B : Type 0} (item : ℕ → Grammar Wrong true B) (next : B → ℕ) (xs : List B) (start i low at : ℕ) : Type 0 where
  pub passes : ListPasses (λ low. IsValue (item low)) next low (drop i xs) → ListPasses (λ low. IsValue (item low)) next 0 xs
  pub ends : at + length (list_bytes (λ low. bytes_of (item low)) next low (drop i xs)) ≡ start + length (list_bytes (λ low. bytes_of (item
      low)) next 0 xs)
  pub flawed : (q : ℕ) (w : Wrong)
      → ListFlawAt (λ low. FlawAt (item low)) (λ low. bytes_of (item low)) (λ low. IsValue (item low)) next low (drop i xs) at q w
      → ListFlawAt (λ low. FlawAt (item low)) (λ low. bytes_of (item low)) (λ low. IsValue (item low)) next 0 xs start q w

pub begins : {B : Type 0} (item : ℕ → Grammar Wrong true B) (next : B → ℕ) (xs : List B) (start : ℕ) → Standing item next xs start 0 0 start
begins item next xs start = record { passes = λ h. h; ends = refl; flawed = λ q w h. h }

-- the list from item i on
pub from_item : {B : Type 0} (xs : List B) (i : ℕ) (x : B) → i < length xs → x ≡ get_or xs i x → drop i xs ≡ x ∷ drop (i + 1) xs
from_item {B} xs i x lt e =
    let next : suc i ≡ i + 1 = omega arith in
    drop-cons xs i x lt ∙ (ap (λ (y : B). y ∷ drop (suc i) xs) (sym e) ∙ ap (λ (n : ℕ). x ∷ drop n xs) next)

pub goes_on : {B : Type 0} (item : ℕ → Grammar Wrong true B) (next : B → ℕ) (xs : List B) (start i low at : ℕ) (x : B) (end : ℕ)
    → i < length xs → x ≡ get_or xs i x
    → IsValue (item low) x → end ≡ at + length (bytes_of (item low) x) → Standing item next xs start i low at → Standing item next xs start
    (i + 1) (next x) end
goes_on {B} item next xs start i low at x end lt e value far so_far =
    let spell = λ (low : ℕ). bytes_of (item low) in
    let here = from_item xs i x lt e in
    let ends = so_far.ends in
    let spelled : length (list_bytes (λ low. bytes_of (item low)) next low (drop i xs)) ≡ length (bytes_of (item low) x) + length
    (list_bytes (λ low. bytes_of (item low)) next (next x) (drop (i + 1) xs)) =
    ap (λ (ys : List B). length (list_bytes (λ low. bytes_of (item low)) next low ys)) here ∙ length-append (bytes_of (item low) x)
    (list_bytes (λ low. bytes_of (item low)) next (next x) (drop (i + 1) xs)) in
    record {
      passes = λ h. so_far.passes (subst (λ (ys : List B). ListPasses (λ low. IsValue (item low)) next low ys) (sym here) (value, h));
      ends = omega arith;
      flawed = λ q w h. so_far.flawed q w (subst (λ (ys : List B). ListFlawAt (λ low. FlawAt (item low)) (λ low. bytes_of (item low))
          (λ low. IsValue (item low)) next low ys at q w) (sym here)
          (inr (
            value,
            subst (λ (n : ℕ). ListFlawAt (λ low. FlawAt (item low)) (λ low. bytes_of (item low)) (λ low. IsValue (item low)) next
                (next x) (drop (i + 1) xs) n q w) far h,
          )));
    }

pub stops : {B : Type 0} (item : ℕ → Grammar Wrong true B) (next : B → ℕ) (xs : List B) (start i low at : ℕ) (x : B) (q : ℕ) (w : Wrong)
    → i < length xs → x ≡ get_or xs i x
    → FlawAt (item low) x at q w → Standing item next xs start i low at → ListFlawAt (λ low. FlawAt (item low)) (λ low. bytes_of (item low))
    (λ low. IsValue (item low)) next 0 xs start q w
stops {B} item next xs start i low at x q w lt e flaw so_far =
    so_far.flawed q w (subst (λ (ys : List B). ListFlawAt (λ low. FlawAt (item low)) (λ low. bytes_of (item low)) (λ low. IsValue
    (item low)) next low ys at q w) (sym (from_item xs i x lt e)) (inl flaw))

-- one more of n items has room, if all n have
pub room_left : (i n most : ℕ) → i < n → i * most + most ≤ n * most
room_left i n most lt = let h = mul-le-mul_right most lt in omega (arith, h)

pub within_limit : (n limit most : ℕ) → n ≤ limit → n * most ≤ limit * most
within_limit n limit most le = mul-le-mul_right most le

-- parts within the limit end within the room of the limit, after a count of so many bytes
pub near_limit : (n limit most at count : ℕ) (r : Result ℕ Flaw) → n ≤ limit
    → MatchResult r (λ end. end ≤ at + count + n * most) (λ m. m.place ≤ at + count + n * most)
    → MatchResult r (λ end. end ≤ at + (count + limit * most)) (λ m. m.place ≤ at + (count + limit * most))
near_limit n limit most at count (Ok end) few near = let h = within_limit n limit most few in omega (arith, h, near)
near_limit n limit most at count (Err m) few near = let h = within_limit n limit most few in omega (arith, h, near)
