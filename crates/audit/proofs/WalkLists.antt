-- The elements of lists by index, and the results of index_of, find and list_any.
use Rattle.std.proofs.Common.{◌≡◌, ℕ, zero, suc, ◌+◌, ◌<◌, ◌⊎◌, inl, inr, Bool, true, false, cond, ◌||◌, List, [], ◌∷◌, ◌++◌, Option, Some}
use Rattle.std.proofs.Common.{None, length, take, map, refl, sym, ap, ◌∙◌, arith, slice_get, option_map, find}
use Rattle.std.specs.List.{list_any}
use Rattle.std.proofs.lemmas.Bool.{or_parts}
use Rattle.audit.specs.Places.{index_of}
use Rattle.audit.proofs.Finding.{at_take}

-- x is the element with index k
abbrev pub At : {X : Type 0} → List X → ℕ → X → Type 0
At xs k x = slice_get xs k ≡ Some x

pub at_within : {X : Type 0} (xs : List X) (k : ℕ) (x : X) → At xs k x → k < length xs
at_within [] k x e = cc
at_within (y ∷ xs) zero x e = omega arith
at_within (y ∷ xs) (suc k) x e = let h = at_within xs k x e in omega arith

pub at_below : {X : Type 0} (xs : List X) (k : ℕ) → k < length xs → (x : X) × At xs k x
at_below [] k h = absurd (omega arith)
at_below (y ∷ xs) zero h = (y, refl)
at_below (y ∷ xs) (suc k) h = at_below xs k (omega arith)

pub at_one : {X : Type 0} (xs : List X) (k : ℕ) (x y : X) → At xs k x → At xs k y → x ≡ y
at_one xs k x y e f = cc

-- ---- the first index that passes

index_step : (o : Option ℕ) (b : Bool) (k : ℕ) → cond b (Some zero) (option_map suc o) ≡ Some k → ((b ≡ true) × (k ≡ 0))
    ⊎ ((b ≡ false) × ((j : ℕ) × (o ≡ Some j) × (k ≡ suc j)))
index_step o true k e = inl (refl, cc)
index_step None false k e = cc
index_step (Some j) false k e = inr (refl, (j, refl, cc))

-- the element at the result of index_of passes
pub index_at : {X : Type 0} (t : X → Bool) (xs : List X) (k : ℕ) → index_of t xs ≡ Some k → (x : X) × At xs k x × (t x ≡ true)
index_at t [] k e = cc
index_at t (x ∷ xs) k e =
    elim (index_step (index_of t xs) (t x) k e) as (λ _. (y : _) × At (x ∷ xs) k y × (t y ≡ true)) [
      | inl w ↦ (x, ap (slice_get (x ∷ xs)) w.1, w.0)
      | inr w ↦ let h = index_at t xs w.1.0 w.1.1 in (h.0, ap (slice_get (x ∷ xs)) w.1.2 ∙ h.1, h.2)
    ]

-- if an element passes, index_of finds an index
pub index_found : {X : Type 0} (t : X → Bool) (xs : List X) (k : ℕ) (x : X) → At xs k x → t x ≡ true → (j : ℕ) × (index_of t xs ≡ Some j)
index_found t [] k x e p = cc
index_found t (y ∷ xs) zero x e p =
    let q : t y ≡ true = cc in (zero, ap (λ b. cond b (Some zero) (option_map suc (index_of t xs))) q)
index_found t (y ∷ xs) (suc k) x e p =
    let h = index_found t xs k x e p in
    elim (t y) as (λ b. (j : ℕ) × (cond b (Some zero) (option_map suc (index_of t xs)) ≡ Some j)) [
      | true ↦ (zero, refl)
      | false ↦ (suc h.0, ap (option_map suc) h.1)
    ]

-- ---- the first element that passes

-- the element that find returns is in the list, and passes
pub find_at : {X : Type 0} (t : X → Bool) (xs : List X) (x : X) → find t xs ≡ Some x → (k : ℕ) × At xs k x × (t x ≡ true)
find_at t [] x e = cc
find_at t (y ∷ xs) x e =
    elim (t y) as (λ b. t y ≡ b → cond b (Some y) (find t xs) ≡ Some x → (k : ℕ) × At (y ∷ xs) k x × (t x ≡ true)) [
      | true ↦ λ p q. (zero, q, (let s : y ≡ x = cc in ap t (sym s) ∙ p))
      | false ↦ λ p q. let h = find_at t xs x q in (suc h.0, h.1, h.2)
    ] refl e

-- if an element passes, find returns one
pub find_found : {X : Type 0} (t : X → Bool) (xs : List X) → list_any t xs ≡ true → (x : X) × (find t xs ≡ Some x)
find_found t [] e = cc
find_found t (y ∷ xs) e =
    elim (t y) as (λ b. (b || list_any t xs) ≡ true → (x : _) × (cond b (Some y) (find t xs) ≡ Some x)) [
      | true ↦ λ q. (y, refl)
      | false ↦ λ q. find_found t xs q
    ] e

-- tests that agree for each element find the same element
pub find_agree : {X : Type 0} (p q : X → Bool) (xs : List X) → ((k : ℕ) (x : X) → At xs k x → p x ≡ q x) → find p xs ≡ find q xs
find_agree p q [] h = refl
find_agree p q (y ∷ xs) h =
    ap (λ b. cond b (Some y) (find p xs)) (h zero y refl) ∙ ap (cond (q y) (Some y)) (find_agree p q xs (λ k x e. h (suc k) x e))

-- if no element passes, find returns none
pub find_none : {X : Type 0} (t : X → Bool) (xs : List X) → ((k : ℕ) (x : X) → At xs k x → t x ≡ false) → find t xs ≡ None
find_none t [] h = refl
find_none t (y ∷ xs) h = ap (λ b. cond b (Some y) (find t xs)) (h zero y refl) ∙ find_none t xs (λ k x e. h (suc k) x e)

-- ---- whether an element passes

-- if no element passes, each element fails
pub none_passes : {X : Type 0} (t : X → Bool) (xs : List X) → list_any t xs ≡ false → (k : ℕ) (x : X) → At xs k x → t x ≡ false
none_passes t [] none k x e = cc
none_passes t (y ∷ xs) none zero x e =
    let same : y ≡ x = cc in
    ap t (sym same) ∙ (or_parts (t y) (list_any t xs) none).0
none_passes t (y ∷ xs) none (suc k) x e = none_passes t xs (or_parts (t y) (list_any t xs) none).1 k x e

-- if none of the first m elements passes, each of them fails
pub none_before : {X : Type 0} (t : X → Bool) (xs : List X) (m : ℕ) → list_any t (take m xs) ≡ false → (k : ℕ) (x : X) → k < m → At xs k x
    → t x ≡ false
none_before t xs m none k x below e = none_passes t (take m xs) none k x (at_take xs m k x below e)

-- ---- lists made of lists

-- an element of two lists, one after the other, is in the first, or in the second at the rest of its index
pub at_append : {X : Type 0} (xs ys : List X) (j : ℕ) (x : X) → At (xs ++ ys) j x → At xs j x ⊎ ((m : ℕ) × (j ≡ length xs + m) × At ys m x)
at_append [] ys j x e = inr (j, omega arith, e)
at_append (y ∷ xs) ys zero x e = inl e
at_append (y ∷ xs) ys (suc j) x e =
    elim (at_append xs ys j x e) [
      | inl h ↦ inl h
      | inr w ↦ inr (w.0, (let far = w.1 in omega arith), w.2)
    ]

-- an element of a mapped list comes from the one with its index
pub at_map : {X Y : Type 0} (f : X → Y) (xs : List X) (j : ℕ) (y : Y) → At (map f xs) j y → (x : X) × At xs j x × (y ≡ f x)
at_map f [] j y e = cc
at_map f (x ∷ xs) zero y e = (x, refl, cc)
at_map f (x ∷ xs) (suc j) y e = at_map f xs j y e
