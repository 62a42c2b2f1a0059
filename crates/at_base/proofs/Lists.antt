-- Filters of lists, and what is found in them.
use Rattle.std.proofs.Common.{◌≡◌, suc, ◌≤◌, Bool, true, false, List, [], ◌∷◌, length, filter, find, Some, refl, arith, if◌then◌else◌}
use Rattle.std.specs.List.{list_all}
use Rattle.std.proofs.lemmas.Bool.{and_parts}

pub all_filter : {A : Type 0} (q p : A → Bool) (items : List A) → list_all q items ≡ true → list_all q (filter p items) ≡ true
all_filter q p [] each = refl
all_filter q p (a ∷ items) each =
    let e = and_parts (q a) (list_all q items) each in
    let rest = all_filter q p items e.1 in
    elim (p a) as (λ b. list_all q (if b then a ∷ filter p items else filter p items) ≡ true) [
      | true ↦ rw (e.0, rest) refl
      | false ↦ rest
    ]

pub few_filter : {A : Type 0} (p : A → Bool) (items : List A) → length (filter p items) ≤ length items
few_filter p [] = omega arith
few_filter p (a ∷ items) =
    let rest = few_filter p items in
    elim (p a) as (λ b. length (if b then a ∷ filter p items else filter p items) ≤ suc (length items)) [
      | true ↦ omega (arith, rest)
      | false ↦ omega (arith, rest)
    ]

-- what holds of each item holds of one that is found
pub found_all : {A : Type 0} (q p : A → Bool) (items : List A) (x : A) → list_all q items ≡ true → find p items ≡ Some x → q x ≡ true
found_all q p [] x each found = cc
found_all q p (a ∷ items) x each found = by (p a) found (found_all q p items x)
  where
    by : (b : Bool) → (if b then Some a else find p items) ≡ Some x
        → (list_all q items ≡ true → find p items ≡ Some x → q x ≡ true) → q x ≡ true
    by true f rest = let same : a ≡ x = cc in rw (← same) (and_parts (q a) (list_all q items) each).0
    by false f rest = rest (and_parts (q a) (list_all q items) each).1 f

-- what is found passes the test
pub found_is : {A : Type 0} (p : A → Bool) (items : List A) (x : A) → find p items ≡ Some x → p x ≡ true
found_is p [] x found = cc
found_is p (a ∷ items) x found = by (p a) refl found (found_is p items x)
  where
    by : (b : Bool) → p a ≡ b → (if b then Some a else find p items) ≡ Some x → (find p items ≡ Some x → p x ≡ true) → p x ≡ true
    by true t f rest = let same : a ≡ x = cc in rw (← same) t
    by false t f rest = rest f
