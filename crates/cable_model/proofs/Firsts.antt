-- The first of the pending pairs.
use Rattle.std.proofs.Common.{◌≡◌, ℕ, zero, suc, ◌<◌, ◌≤◌, ◌⊎◌, false, List, [], ◌∷◌, Option, Some, None, refl, sym, ap, ◌∙◌}
use Rattle.std.proofs.Common.{subst, arith, map, Contains, slice_get, length, IfSome}
use Rattle.cable_model.proofs.Books.{key_is, stamp_is}
use Rattle.cable_model.proofs.Counting.{At, contained_at, each_at, map_at}
use Rattle.cable_model.proofs.Finds.{contains_at}
use Rattle.cable_model.proofs.Order.{Has, first_least, has_in_order, in_order_has, length_all_placed}
use Rattle.cable_model.specs.Books.{IsBook, IsDue, pair_at, said}
use Rattle.cable_model.specs.Order.{Rises, in_order, is_before}
use Rattle.cable_model.specs.Outcomes.{IsLeast}
use Rattle.cable_model.specs.Pending.{Pair, pending}
use Rattle.cable_model.specs.Waits.{due_key, pair_key}
use Rattle.cable_model.specs.declared.due.Due.{Due}
use Rattle.cable_model.specs.declared.log.Log.{Log}
use Rattle.cable_model.specs.declared.seat.Seat.{Seat}

-- an element of a mapped list is that of an element
at_map : {X Y : Type 0} (f : X → Y) (xs : List X) (k : ℕ) (y : Y) → At (map f xs) k y → (x : X) × At xs k x × (f x ≡ y)
at_map f [] k y e = cc
at_map f (x ∷ xs) zero y e = let s : f x ≡ y = cc in (x, refl, s)
at_map f (x ∷ xs) (suc k) y e = at_map f xs k y e

-- what doesn't come before
up_to : (a b : ℕ × ℕ) → is_before b a ≡ false → (a.0 < b.0) ⊎ ((a.0 ≡ b.0) × (a.1 ≤ b.1))
up_to a b h = grind arith

module _ (seats : List Seat) (log : Log) (book : IsBook seats log) where
  -- a pending pair is stored
  stored : (p : Pair) → Contains (pending seats (said log)) p
      → (d : Due) × Has due_key log.due.dues d × (pair_at seats (said log) d ≡ p)
  stored p there =
      let at = contained_at (pending seats (said log)) p there in
      let h = has_in_order pair_key (pending seats (said log)) p (at.0, at.1) in
      let d = at_map (pair_at seats (said log)) log.due.dues h.0 p (subst (λ l. At l h.0 p) (sym book.pending) h.1) in
      (d.0, (h.0, d.1), d.2)

  pub first_is : (d : Due) → Rises due_key log.due.dues → slice_get log.due.dues 0 ≡ Some d
      → IsLeast (pending seats (said log)) d.stamp d.station
  first_is d rises first =
      let is : IsDue seats (said log) d = each_at (IsDue seats (said log)) log.due.dues 0 d first book.due in
      let p = pair_at seats (said log) d in
      let h = in_order_has pair_key (pending seats (said log)) p
      (0, subst (λ l. At l 0 p) book.pending (map_at (pair_at seats (said log)) log.due.dues 0 d first)) in
      record {
        there = (p, contains_at (pending seats (said log)) h.0 p h.1, stamp_is seats (said log) d is, is.station);
        first = λ q there.
            let s = stored q there in
            let last : IsDue seats (said log) s.0 =
            each_at (IsDue seats (said log)) log.due.dues s.1.0 s.0 s.1.1 book.due in
            let same : due_key s.0 ≡ pair_key q = sym (key_is seats (said log) s.0 last) ∙ ap pair_key s.2 in
            up_to (due_key d) (pair_key q)
            (subst (λ k. is_before k (due_key d) ≡ false) same (first_least due_key log.due.dues d s.0 rises first s.1));
      }

  pub none_pending : slice_get log.due.dues 0 ≡ None → pending seats (said log) ≡ []
  none_pending none =
      let same : length log.due.dues ≡ length (in_order pair_key (pending seats (said log))) =
      sym (length_mapped log.due.dues) ∙ ap length book.pending in
      let all = length_all_placed pair_key [] (pending seats (said log)) in
      let zero = is_empty log.due.dues none in
      no_elements (pending seats (said log)) (omega (arith, same, all, zero))
    where
      length_mapped : (ds : List Due) → length (map (pair_at seats (said log)) ds) ≡ length ds
      length_mapped [] = refl
      length_mapped (d ∷ ds) = ap suc (length_mapped ds)

      is_empty : (ds : List Due) → slice_get ds 0 ≡ None → length ds ≡ 0
      is_empty [] e = refl
      is_empty (d ∷ ds) e = cc

      no_elements : {X : Type 0} (xs : List X) → length xs ≡ 0 → xs ≡ []
      no_elements [] e = refl
      no_elements (x ∷ xs) e = absurd (omega (arith, e))

  pub first_some : (r : Option Due) → Rises due_key log.due.dues → r ≡ slice_get log.due.dues 0
      → IfSome r (λ d. IsLeast (pending seats (said log)) d.stamp d.station)
  first_some None rises e = tt
  first_some (Some d) rises e = first_is d rises (sym e)
