-- The value of digits, one digit after the other.
use Rattle.std.proofs.Common.{◌≡◌, ℕ, ◌+◌, ◌-◌, ◌*◌, ◌<◌, ◌≤◌, false, cond, List, [], ◌∷◌, length, take, drop, get_or}
use Rattle.std.proofs.Common.{Some, None, refl, sym, ap, ◌∙◌, arith, fold, nat_le}
use Rattle.std.proofs.lemmas.Bool.Decides.{nat_tests}
use Rattle.std.proofs.lemmas.List.{take-append-drop}
use Rattle.std.proofs.lemmas.List.Sums.{fold-append, fold_more}
use Rattle.text.specs.Words.{value}

abbrev further : ℕ → ℕ → ℕ
further n d = n * 10 + (d - 48)

grows_from : (n : ℕ) (ds : List ℕ) → n ≤ fold further n ds
grows_from n [] = omega arith
grows_from n (d ∷ ds) = let rest = grows_from (further n d) ds in omega arith

-- the value of the first digits is at most the value of all digits
pub grows : (i : ℕ) (ds : List ℕ) → value (take i ds) ≤ value ds
grows i ds =
    let whole : value ds ≡ fold further (value (take i ds)) (drop i ds) =
    ap value (sym (take-append-drop i ds)) ∙ fold-append further 0 (take i ds) (drop i ds) in
    let more = grows_from (value (take i ds)) (drop i ds) in
    omega arith

pub one_more : (ds : List ℕ) (i : ℕ) → i < length ds → value (take (i + 1) ds) ≡ value (take i ds) * 10 + (get_or ds i 0 - 48)
one_more ds i lt = fold_more further 0 ds i 0 lt

-- if the first digits exceed the maximum, all digits do
pub exceeds : (max i : ℕ) (ds : List ℕ) → max < value (take i ds) → cond (nat_le (value ds) max) (Some (value ds)) None ≡ None
exceeds max i ds lt =
    let more = grows i ds in
    let no : nat_le (value ds) max ≡ false = grind (arith, nat_tests) in
    rw no refl
