-- The results of searching a list.
use Rattle.std.proofs.Common.{◌≡◌, ℕ, zero, suc, ◌+◌, ◌<◌, Bool, true, false, cond, ◌||◌, List, [], ◌∷◌, Option, Some, None, length, refl}
use Rattle.std.proofs.Common.{ap, ◌∙◌, arith, slice_get, option_map, find, position, take}
use Rattle.std.specs.List.{list_any, position_from}
use Rattle.std.proofs.lemmas.Iterator.Adapters.{position_from-zero}
use Rattle.audit.specs.Places.{index_of}

from_index : {X : Type 0} (test : X → Bool) (i : ℕ) (xs : List X) → position_from test i xs ≡ option_map (λ j. i + j) (index_of test xs)
from_index test i [] = refl
from_index test i (x ∷ xs) = one (test x) (index_of test xs) (from_index test (i + 1) xs)
  where
    later : (o : Option ℕ) → option_map (λ j. i + 1 + j) o ≡ option_map (λ j. i + j) (option_map suc o)
    later None = refl
    later (Some j) = let e : i + 1 + j ≡ i + suc j = omega arith in ap Some e

    one : (b : Bool) (o : Option ℕ) → position_from test (i + 1) xs ≡ option_map (λ j. i + 1 + j) o
        → cond b (Some i) (position_from test (i + 1) xs) ≡ option_map (λ j. i + j) (cond b (Some zero) (option_map suc o))
    one true o e = let s : i ≡ i + 0 = omega arith in ap Some s
    one false o e = e ∙ later o

-- the first index is the result of `position`
pub index_position : {X : Type 0} (test : X → Bool) (xs : List X) → position test xs ≡ index_of test xs
index_position test xs = position_from-zero test xs ∙ (from_index test 0 xs ∙ same (index_of test xs))
  where
    same : (o : Option ℕ) → option_map (λ j. 0 + j) o ≡ o
    same None = refl
    same (Some j) = let e : 0 + j ≡ j = omega arith in ap Some e

-- an index is the first one if its element passes and none before it does
pub first_index : {X : Type 0} (test : X → Bool) (xs : List X) (k : ℕ) (x : X) → slice_get xs k ≡ Some x → test x ≡ true
    → ((j : ℕ) (y : X) → j < k → slice_get xs j ≡ Some y → test y ≡ false) → index_of test xs ≡ Some k
first_index test [] k x at t before = cc
first_index test (y ∷ xs) zero x at t before =
    let here : test y ≡ true = cc in
    ap (λ b. cond b (Some zero) (option_map suc (index_of test xs))) here
first_index test (y ∷ xs) (suc k) x at t before =
    ap (λ b. cond b (Some zero) (option_map suc (index_of test xs))) (before zero y (omega arith) refl)
    ∙ ap (option_map suc) (first_index test xs k x at t (λ j z lt e. before (suc j) z (omega arith) e))

-- an element is the first that passes if it passes and none before it does
pub first_found : {X : Type 0} (test : X → Bool) (xs : List X) (k : ℕ) (x : X) → slice_get xs k ≡ Some x → test x ≡ true
    → ((j : ℕ) (y : X) → j < k → slice_get xs j ≡ Some y → test y ≡ false) → find test xs ≡ Some x
first_found test [] k x at t before = cc
first_found test (y ∷ xs) zero x at t before =
    let same : y ≡ x = cc in
    let here : test y ≡ true = cc in
    ap (λ b. cond b (Some y) (find test xs)) here ∙ ap Some same
first_found test (y ∷ xs) (suc k) x at t before =
    ap (λ b. cond b (Some y) (find test xs)) (before zero y (omega arith) refl)
    ∙ first_found test xs k x at t (λ j z lt e. before (suc j) z (omega arith) e)

-- an element that passes, of a list with one
pub any_at : {X : Type 0} (test : X → Bool) (xs : List X) → list_any test xs ≡ true → (k : ℕ) × (x : X) × (slice_get xs k ≡ Some x)
    × (test x ≡ true)
any_at test [] any = cc
any_at test (x ∷ xs) any =
    elim (test x) as (λ b. test x ≡ b → (b || list_any test xs) ≡ true → (k : ℕ) × (y : _) × (slice_get (x ∷ xs) k ≡ Some y)
    × (test y ≡ true)) [
      | true ↦ λ t e. (zero, x, refl, t)
      | false ↦ λ t e. let h = any_at test xs e in (suc h.0, h.1, h.2, h.3)
    ] refl any

-- if an element passes, the test of some element holds
pub any_from : {X : Type 0} (test : X → Bool) (xs : List X) (k : ℕ) (x : X) → slice_get xs k ≡ Some x → test x ≡ true
    → list_any test xs ≡ true
any_from test [] k x at t = cc
any_from test (y ∷ xs) zero x at t = let here : test y ≡ true = cc in ap (λ b. b || list_any test xs) here
any_from test (y ∷ xs) (suc k) x at t = by (test y) (any_from test xs k x at t)
  where
    by : (b : Bool) → list_any test xs ≡ true → (b || list_any test xs) ≡ true
    by true e = refl
    by false e = e

-- an element of a front of the list
pub at_take : {X : Type 0} (xs : List X) (n k : ℕ) (x : X) → k < n → slice_get xs k ≡ Some x → slice_get (take n xs) k ≡ Some x
at_take [] n k x lt at = cc
at_take (y ∷ xs) zero k x lt at = absurd (omega arith)
at_take (y ∷ xs) (suc n) zero x lt at = at
at_take (y ∷ xs) (suc n) (suc k) x lt at = at_take xs n k x (omega arith) at

-- the first index is within the list
pub index_within : {X : Type 0} (test : X → Bool) (xs : List X) (k : ℕ) → index_of test xs ≡ Some k → k < length xs
index_within test [] k e = cc
index_within test (x ∷ xs) k e =
    elim (test x) as (λ b. cond b (Some zero) (option_map suc (index_of test xs)) ≡ Some k → k < suc (length xs)) [
      | true ↦ λ e. let s : zero ≡ k = cc in omega arith
      | false ↦ λ e. later (index_of test xs) e (index_within test xs)
    ] e
  where
    later : (o : Option ℕ) → option_map suc o ≡ Some k → ((j : ℕ) → o ≡ Some j → j < length xs) → k < suc (length xs)
    later None e within = cc
    later (Some j) e within = let s : suc j ≡ k = cc in let h = within j refl in omega (arith, h, s)

-- an element of a front is one of the list
pub from_take : {X : Type 0} (xs : List X) (n k : ℕ) (x : X) → slice_get (take n xs) k ≡ Some x → (k < n) × (slice_get xs k ≡ Some x)
from_take xs zero k x at = cc
from_take [] (suc n) k x at = cc
from_take (y ∷ xs) (suc n) zero x at = (omega arith, at)
from_take (y ∷ xs) (suc n) (suc k) x at = let h = from_take xs n k x at in (let lt = h.0 in omega (arith, lt), h.1)
