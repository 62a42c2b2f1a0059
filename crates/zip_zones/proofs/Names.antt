-- The names of a list: their number, and that no two are equal, ignoring case.
use Rattle.std.proofs.Common.{◌≡◌, ℕ, ◌+◌, ◌≤◌, Bool, true, false, not, List, [], ◌∷◌, ◌++◌, length, fold, refl, ◌∙◌, if◌then◌else◌, arith}
use Rattle.std.specs.List.{list_any}
use Rattle.std.proofs.lemmas.Bool.{and_parts, or_parts}
use Rattle.std.proofs.lemmas.List.{length-append}
use Rattle.at_base.specs.Text.{same_name}
use Rattle.at_base.proofs.Texts.{same_name_symm}
use Rattle.zip_zones.specs.Zones.{with_name, each_once, are_distinct}

-- one more name makes the list at most one longer
pub one_longer : (names : List (List ℕ)) (name : List ℕ) → length (with_name names name) ≤ length names + 1
one_longer names name =
    elim (list_any (same_name name) names) as (λ b. length (if b then names else names ++ name ∷ []) ≤ length names + 1) [
      | true ↦ omega arith
      | false ↦ omega (arith, length-append names (name ∷ []))
    ]

pub folded_longer : (names more : List (List ℕ)) → length (fold with_name names more) ≤ length names + length more
folded_longer names [] = omega arith
folded_longer names (m ∷ more) = omega (arith, one_longer names m, folded_longer (with_name names m) more)

-- names taken once each are no more than the names
pub not_more : (names : List (List ℕ)) → length (each_once names) ≤ length names
not_more names = omega (arith, folded_longer [] names)

-- a name that no earlier one equals, ignoring case, may go last
none_last : (names : List (List ℕ)) (other name : List ℕ) → list_any (same_name other) names ≡ false → same_name other name ≡ false
    → list_any (same_name other) (names ++ name ∷ []) ≡ false
none_last [] other name h n = rw n refl
none_last (m ∷ names) other name h n =
    let o = or_parts (same_name other m) (list_any (same_name other) names) h in
    rw (o.0, none_last names other name o.1 n) refl

distinct_last : (names : List (List ℕ)) (name : List ℕ) → list_any (same_name name) names ≡ false → are_distinct names ≡ true
    → are_distinct (names ++ name ∷ []) ≡ true
distinct_last [] name none h = refl
distinct_last (m ∷ names) name none h =
    let o = or_parts (same_name name m) (list_any (same_name name) names) none in
    let p = and_parts (not (list_any (same_name m) names)) (are_distinct names) h in
    let turned : same_name m name ≡ false = same_name_symm m name ∙ o.0 in
    let first : list_any (same_name m) names ≡ false = was_not (list_any (same_name m) names) p.0 in
    rw (none_last names m name first turned, distinct_last names name o.1 p.1) refl
  where
    was_not : (b : Bool) → not b ≡ true → b ≡ false
    was_not true e = cc
    was_not false e = refl

pub distinct_with : (names : List (List ℕ)) (name : List ℕ) → are_distinct names ≡ true → are_distinct (with_name names name) ≡ true
distinct_with names name h =
    (elim (list_any (same_name name) names) as (λ b. list_any (same_name name) names ≡ b
    → are_distinct (if b then names else names ++ name ∷ []) ≡ true) [
      | true ↦ λ t. h
      | false ↦ λ t. distinct_last names name t h
    ]) refl

pub distinct_fold : (names more : List (List ℕ)) → are_distinct names ≡ true → are_distinct (fold with_name names more) ≡ true
distinct_fold names [] h = h
distinct_fold names (m ∷ more) h = distinct_fold (with_name names m) more (distinct_with names m h)
