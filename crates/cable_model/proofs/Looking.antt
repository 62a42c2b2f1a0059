-- Looking up elements of a list in order, and removing them.
use Rattle.std.proofs.Common.{◌≡◌, ℕ, zero, suc, ◌<◌, ◌≤◌, Bool, true, false, cond, not, List, [], ◌∷◌}
use Rattle.std.proofs.Common.{Option, Some, None, refl, sym, ap, ◌∙◌, arith, filter, find, length, slice_get, get_or}
use Rattle.std.proofs.Common.{if◌then◌else◌}
use Rattle.std.specs.Prelude.{insert, remove}
use Rattle.std.specs.List.{AllByRecursion as Each}
use Rattle.cable_model.proofs.Counting.{At}
use Rattle.cable_model.proofs.Order.{before_more}
use Rattle.cable_model.specs.Order.{Rises, ahead, is_before, placed}

module _ {X : Type 0} (key : X → ℕ × ℕ) where
  pub ahead_fits : (k : ℕ × ℕ) (xs : List X) → ahead key k xs ≤ length xs
  ahead_fits k [] = omega arith
  ahead_fits k (x ∷ xs) =
      let rest = ahead_fits k xs in
      elim (is_before (key x) k) as (λ b. cond b (suc (ahead key k xs)) 0 ≤ suc (length xs)) [
        | true ↦ omega (arith, rest)
        | false ↦ omega arith
      ]

  -- an element that comes before k is among those ahead
  pub ahead_over : (k : ℕ × ℕ) (xs : List X) (i : ℕ) (d : X) → Rises key xs → i < length xs
      → is_before (key (get_or xs i d)) k ≡ true → i < ahead key k xs
  ahead_over k [] i d h less e = absurd (omega (arith, less))
  ahead_over k (x ∷ xs) zero d h less e = rw e (omega arith)
  ahead_over k (x ∷ xs) (suc i) d h less e =
      let first : is_before (key x) k ≡ true =
      before_more (key x) (key (get_or xs i d)) k (each_get xs i d (omega (arith, less)) h.0) e in
      let rest = ahead_over k xs i d h.1 (omega (arith, less)) e in
      rw first (omega (arith, rest))
    where
      each_get : (xs : List X) (i : ℕ) (d : X) → i < length xs → Each (λ y. is_before (key y) (key x) ≡ false) xs
          → is_before (key (get_or xs i d)) (key x) ≡ false
      each_get [] i d less h = absurd (omega (arith, less))
      each_get (y ∷ xs) zero d less h = h.0
      each_get (y ∷ xs) (suc i) d less h = each_get xs i d (omega (arith, less)) h.1

  -- an element that doesn't come before k isn't among those ahead
  pub ahead_under : (k : ℕ × ℕ) (xs : List X) (i : ℕ) (d : X) → i < length xs
      → is_before (key (get_or xs i d)) k ≡ false → ahead key k xs ≤ i
  ahead_under k [] i d less e = absurd (omega (arith, less))
  ahead_under k (x ∷ xs) zero d less e = rw e (omega arith)
  ahead_under k (x ∷ xs) (suc i) d less e =
      let rest = ahead_under k xs i d (omega (arith, less)) e in
      elim (is_before (key x) k) as (λ b. cond b (suc (ahead key k xs)) 0 ≤ suc i) [
        | true ↦ omega (arith, rest)
        | false ↦ omega arith
      ]

  -- an element is placed behind those that don't come after it
  pub placed_is : (x : X) (k : ℕ × ℕ) (xs : List X) → ((y : X) → is_before (key y) k ≡ not (is_before (key x) (key y)))
      → placed key x xs ≡ insert xs (ahead key k xs) x
  placed_is x k [] h = refl
  placed_is x k (y ∷ xs) h =
      by (is_before (key x) (key y)) (placed_is x k xs h)
      ∙ ap (λ b. insert (y ∷ xs) (cond b (suc (ahead key k xs)) 0) x) (sym (h y))
    where
      by : (b : Bool) → placed key x xs ≡ insert xs (ahead key k xs) x
          → cond b (x ∷ y ∷ xs) (y ∷ placed key x xs) ≡ insert (y ∷ xs) (cond (not b) (suc (ahead key k xs)) 0) x
      by true rest = refl
      by false rest = ap (λ l. y ∷ l) rest

  -- the element, if it is there and passes the test
  abbrev pub passing : (X → Bool) → Option X → Option X
  passing test None = None
  passing test (Some x) = cond (test x) (Some x) None

  -- The first element that passes a test is the one that k leads to, if no element that comes before k passes it, and
  -- none does after one that doesn't come before k and fails it.
  module _ (test : X → Bool) (k : ℕ × ℕ) (early : (x : X) → is_before (key x) k ≡ true → test x ≡ false)
      (late : (x y : X) → is_before (key x) k ≡ false → test x ≡ false → is_before (key y) (key x) ≡ false → test y ≡ false) where
    none_later : (x : X) (xs : List X) → is_before (key x) k ≡ false → test x ≡ false
        → Each (λ y. is_before (key y) (key x) ≡ false) xs → find test xs ≡ None
    none_later x [] e f h = refl
    none_later x (y ∷ xs) e f h =
        ap (λ b. if b then Some y else find test xs) (late x y e f h.0) ∙ none_later x xs e f h.1

    pub found_ahead : (xs : List X) → Rises key xs → find test xs ≡ passing test (slice_get xs (ahead key k xs))
    found_ahead [] h = refl
    found_ahead (x ∷ xs) h = by (is_before (key x) k) refl (found_ahead xs h.1)
      where
        here : (b : Bool) → test x ≡ b → is_before (key x) k ≡ false
            → (if b then Some x else find test xs) ≡ cond b (Some x) None
        here true f e = refl
        here false f e = none_later x xs e f h.0

        by : (b : Bool) → is_before (key x) k ≡ b → find test xs ≡ passing test (slice_get xs (ahead key k xs))
            → find test (x ∷ xs) ≡ passing test (slice_get (x ∷ xs) (cond b (suc (ahead key k xs)) 0))
        by true e rest = ap (λ b. if b then Some x else find test xs) (early x e) ∙ rest
        by false e rest = here (test x) refl e

  -- what stays in order when an element is removed
  pub removed_rises : (xs : List X) (i : ℕ) → Rises key xs → Rises key (remove xs i)
  removed_rises [] zero h = tt
  removed_rises [] (suc i) h = tt
  removed_rises (x ∷ xs) zero h = h.1
  removed_rises (x ∷ xs) (suc i) h = (each_removed xs i h.0, removed_rises xs i h.1)
    where
      each_removed : (xs : List X) (i : ℕ) → Each (λ y. is_before (key y) (key x) ≡ false) xs
          → Each (λ y. is_before (key y) (key x) ≡ false) (remove xs i)
      each_removed [] zero h = tt
      each_removed [] (suc i) h = tt
      each_removed (y ∷ xs) zero h = h.1
      each_removed (y ∷ xs) (suc i) h = (h.0, each_removed xs i h.1)

-- removing an element that a filter leaves out
pub filter_removed : {X : Type 0} (f : X → Bool) (xs : List X) (i : ℕ) (x : X) → At xs i x → f x ≡ false
    → filter f (remove xs i) ≡ filter f xs
filter_removed f [] i x e h = cc
filter_removed f (y ∷ xs) zero x e h =
    let s : y ≡ x = cc in
    sym (ap (λ b. cond b (y ∷ filter f xs) (filter f xs)) (ap f s ∙ h))
filter_removed f (y ∷ xs) (suc i) x e h = ap (λ l. cond (f y) (y ∷ l) l) (filter_removed f xs i x e h)

-- if nothing is found, nothing is left out
pub none_left_out : {X : Type 0} (test : X → Bool) (xs : List X) → find test xs ≡ None → filter (λ x. not (test x)) xs ≡ xs
none_left_out test [] e = refl
none_left_out test (x ∷ xs) e = by (none_left_out test xs) (test x) e
  where
    by : (find test xs ≡ None → filter (λ x. not (test x)) xs ≡ xs) → (b : Bool) → (if b then Some x else find test xs) ≡ None
        → cond (not b) (x ∷ filter (λ x. not (test x)) xs) (filter (λ x. not (test x)) xs) ≡ x ∷ xs
    by rest true e = cc
    by rest false e = ap (λ l. x ∷ l) (rest e)
