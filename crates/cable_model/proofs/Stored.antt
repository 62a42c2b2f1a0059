-- Finding, adding and removing stored pairs.
use Rattle.std.proofs.Common.{◌≡◌, ℕ, zero, suc, ◌+◌, ◌<◌, ◌≤◌, Bool, true, false, cond, not, ◌==◌, List, [], ◌∷◌}
use Rattle.std.proofs.Common.{Option, Some, None, Result, Ok}
use Rattle.std.proofs.Common.{Err, OnErr, OnOk, OnSome, refl, sym, ap, ◌∙◌, arith, filter, find, length, slice_get, subst}
use Rattle.std.specs.Prelude.{is_some, remove}
use Rattle.std.specs.List.{AllByRecursion as Each}
use Rattle.cable_model.proofs.Looking.{filter_removed, found_ahead, passing, removed_rises}
use Rattle.cable_model.specs.Order.{Rises, ahead, is_before}
use Rattle.cable_model.specs.Waits.{due_key, is_at}
use Rattle.cable_model.specs.declared.due.Due.{Due}

-- what holds of a result that can't be the other one
pub when_ok : {T E : Type 0} {A P : Type 0} (r : Result T E) → OnErr r A → (A → ⊥) → OnOk r P → P
when_ok (Ok x) bad never p = p
when_ok (Err e) bad never p = absurd (never bad)

pub when_some : {T : Type 0} {P : Type 0} (r : Option T) → is_some r ≡ true → OnSome r P → P
when_some (Some x) e p = p
when_some None e p = cc

-- ---- the pair that halving leads to

early_pair : (stamp station : ℕ) (d : Due) → is_before (due_key d) (stamp, station) ≡ true → is_at stamp station d ≡ false
early_pair stamp station d h = grind arith

late_pair : (stamp station : ℕ) (d e : Due) → is_before (due_key d) (stamp, station) ≡ false → is_at stamp station d ≡ false
    → is_before (due_key e) (due_key d) ≡ false → is_at stamp station e ≡ false
late_pair stamp station d e h f g = grind arith

early_frame : (stamp : ℕ) (d : Due) → is_before (due_key d) (stamp, 0) ≡ true → (stamp == d.stamp) ≡ false
early_frame stamp d h = grind arith

late_frame : (stamp : ℕ) (d e : Due) → is_before (due_key d) (stamp, 0) ≡ false → (stamp == d.stamp) ≡ false
    → is_before (due_key e) (due_key d) ≡ false → (stamp == e.stamp) ≡ false
late_frame stamp d e h f g = grind arith

module _ (test : Due → Bool) (ds : List Due) (place : ℕ) (lead : find test ds ≡ passing due_key test (slice_get ds place)) where
  pub found_here : (d : Due) → slice_get ds place ≡ Some d → test d ≡ true → Some d ≡ find test ds
  found_here d at e = sym (lead ∙ (ap (passing due_key test) at ∙ ap (λ b. cond b (Some d) None) e))

  pub found_other : (d : Due) → slice_get ds place ≡ Some d → test d ≡ false → None ≡ find test ds
  found_other d at e = sym (lead ∙ (ap (passing due_key test) at ∙ ap (λ b. cond b (Some d) None) e))

  pub found_none : slice_get ds place ≡ None → None ≡ find test ds
  found_none at = sym (lead ∙ ap (passing due_key test) at)

pub pair_lead : (stamp station place : ℕ) (ds : List Due) → Rises due_key ds → place ≡ ahead due_key (stamp, station) ds
    → find (is_at stamp station) ds ≡ passing due_key (is_at stamp station) (slice_get ds place)
pair_lead stamp station place ds h e =
    found_ahead due_key (is_at stamp station) (stamp, station) (early_pair stamp station) (late_pair stamp station) ds h
    ∙ ap (λ k. passing due_key (is_at stamp station) (slice_get ds k)) (sym e)

pub frame_lead : (stamp place : ℕ) (ds : List Due) → Rises due_key ds → place ≡ ahead due_key (stamp, 0) ds
    → find (λ d. stamp == d.stamp) ds ≡ passing due_key (λ d. stamp == d.stamp) (slice_get ds place)
frame_lead stamp place ds h e =
    found_ahead due_key (λ d. stamp == d.stamp) (stamp, 0) (early_frame stamp) (late_frame stamp) ds h
    ∙ ap (λ k. passing due_key (λ d. stamp == d.stamp) (slice_get ds k)) (sym e)

-- the place behind those that don't come after a pair
pub behind : (x y : Due) → is_before (due_key y) (x.stamp, x.station + 1) ≡ not (is_before (due_key x) (due_key y))
behind x y = grind arith

-- what is left is not more
pub filter_few : {X : Type 0} (f : X → Bool) (xs : List X) → length (filter f xs) ≤ length xs
filter_few f [] = omega arith
filter_few f (x ∷ xs) =
    let rest = filter_few f xs in
    elim (f x) as (λ b. length (cond b (x ∷ filter f xs) (filter f xs)) ≤ suc (length xs)) [
      | true ↦ omega (arith, rest)
      | false ↦ omega (arith, rest)
    ]

-- what is left is in order
pub filter_rises : {X : Type 0} (key : X → ℕ × ℕ) (f : X → Bool) (xs : List X) → Rises key xs → Rises key (filter f xs)
filter_rises key f [] h = tt
filter_rises key f (x ∷ xs) h = by (f x) (each_left xs h.0) (filter_rises key f xs h.1)
  where
    each_left : (xs : List _) → Each (λ y. is_before (key y) (key x) ≡ false) xs
        → Each (λ y. is_before (key y) (key x) ≡ false) (filter f xs)
    each_left [] h = tt
    each_left (y ∷ ys) h = one (f y) h.0 (each_left ys h.1)
      where
        one : (b : Bool) → is_before (key y) (key x) ≡ false → Each (λ y. is_before (key y) (key x) ≡ false) (filter f ys)
            → Each (λ y. is_before (key y) (key x) ≡ false) (cond b (y ∷ filter f ys) (filter f ys))
        one true h g = (h, g)
        one false h g = g

    by : (b : Bool) → Each (λ y. is_before (key y) (key x) ≡ false) (filter f xs) → Rises key (filter f xs)
        → Rises key (cond b (x ∷ filter f xs) (filter f xs))
    by true h g = (h, g)
    by false h g = g

-- a list without one element is shorter
pub removed_length : {X : Type 0} (xs : List X) (i : ℕ) (x : X) → slice_get xs i ≡ Some x → suc (length (remove xs i)) ≡ length xs
removed_length [] i x e = cc
removed_length (y ∷ xs) zero x e = refl
removed_length (y ∷ xs) (suc i) x e = ap suc (removed_length xs i x e)

-- the queue after one of its pairs was removed, and the pairs that were to go
module _ (test : Due → Bool) (ds left : List Due) (place : ℕ) (d : Due) (at : slice_get ds place ≡ Some d)
    (is : left ≡ remove ds place) where
  pub shorter : length left < length ds
  shorter =
      let long = removed_length ds place d at in
      let same = ap length is in
      omega (arith, long, same)

  pub still_rises : Rises due_key ds → Rises due_key left
  still_rises h = subst (Rises due_key) (sym is) (removed_rises due_key ds place h)

  pub rest_left : test d ≡ true → filter (λ d. not (test d)) left ≡ filter (λ d. not (test d)) ds
  rest_left e = ap (filter (λ d. not (test d))) is ∙ filter_removed (λ d. not (test d)) ds place d at (ap not e)
