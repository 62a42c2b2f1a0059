-- Finding pairs by stamp and station.
use Rattle.std.proofs.Common.{◌≡◌, ℕ, zero, suc, Bool, true, false, ◌||◌, ◌&&◌, ◌==◌, List, [], ◌∷◌, Option, Some, None, refl}
use Rattle.std.proofs.Common.{sym, ap, ◌∙◌, subst, map, Contains, find, eq-eqb, eqb-true, if◌then◌else◌, IfSome, OnSome, slice_get}
use Rattle.std.specs.List.{list_any, AllByRecursion as Each}
use Rattle.std.specs.Prelude.{is_some}
use Rattle.std.proofs.lemmas.Bool.{and_parts}
use Rattle.std.proofs.lemmas.Option.{get_or_from_slice_get, slice_get_within}
use Rattle.cable_model.proofs.Counting.{At, each_at, map_at}
use Rattle.cable_model.proofs.Books.{stamp_is}
use Rattle.cable_model.proofs.Order.{Has, any_in_order, in_order_has}
use Rattle.cable_model.specs.Books.{IsBook, IsDue, frame_of, pair_at, said}
use Rattle.cable_model.specs.Outcomes.{has_cable, has_stamp, is_named, is_seated}
use Rattle.cable_model.specs.Pending.{Pair, pending}
use Rattle.cable_model.specs.Transcript.{Entry, Frame, Put, has_put}
use Rattle.cable_model.specs.Waits.{due_key, is_at, pair_key}
use Rattle.cable_model.specs.declared.due.Due.{Due}
use Rattle.cable_model.specs.declared.log.Log.{Log}
use Rattle.cable_model.specs.declared.seat.Seat.{Seat}

-- ---- lists

-- a test of mapped elements
pub any_map : {X Y : Type 0} (P : X → Type 0) (f : X → Y) (t : X → Bool) (u : Y → Bool) (xs : List X) → ((x : X) → P x → t x ≡ u (f x))
    → Each P xs → list_any t xs ≡ list_any u (map f xs)
any_map P f t u [] same h = refl
any_map P f t u (x ∷ xs) same h =
    ap (λ b. b || list_any t xs) (same x h.0) ∙ ap (λ b. u (f x) || b) (any_map P f t u xs same h.1)

-- an element that is found is in the list, and passes
pub find_at : {X : Type 0} (t : X → Bool) (xs : List X) (x : X) → find t xs ≡ Some x → (k : ℕ) × At xs k x × (t x ≡ true)
find_at t [] x e = cc
find_at t (y ∷ xs) x e = by (find_at t xs x) (t y) refl e
  where
    front : t y ≡ true → Some y ≡ Some x → (k : ℕ) × At (y ∷ xs) k x × (t x ≡ true)
    front p q = let s : y ≡ x = cc in (zero, q, ap t (sym s) ∙ p)

    by : (find t xs ≡ Some x → (k : ℕ) × At xs k x × (t x ≡ true)) → (b : Bool) → t y ≡ b
        → (if b then Some y else find t xs) ≡ Some x → (k : ℕ) × At (y ∷ xs) k x × (t x ≡ true)
    by rest true p q = front p q
    by rest false p q = let h = rest q in (suc h.0, h.1, h.2)

pub any_find : {X : Type 0} (t : X → Bool) (xs : List X) → is_some (find t xs) ≡ list_any t xs
any_find t [] = refl
any_find t (x ∷ xs) = by (any_find t xs) (t x)
  where
    by : is_some (find t xs) ≡ list_any t xs → (b : Bool) → is_some (if b then Some x else find t xs) ≡ (b || list_any t xs)
    by rest true = refl
    by rest false = rest

any_at : {X : Type 0} (t : X → Bool) (xs : List X) → list_any t xs ≡ true → (k : ℕ) × (x : X) × At xs k x × (t x ≡ true)
any_at t [] e = cc
any_at {X} t (x ∷ xs) e = by (any_at t xs) (t x) refl e
  where
    by : (list_any t xs ≡ true → (k : ℕ) × (y : X) × At xs k y × (t y ≡ true)) → (b : Bool) → t x ≡ b → (b || list_any t xs) ≡ true
        → (k : ℕ) × (y : X) × At (x ∷ xs) k y × (t y ≡ true)
    by rest true p q = (zero, x, refl, p)
    by rest false p q = let h = rest q in (suc h.0, h.1, h.2, h.3)

pub contains_at : {X : Type 0} (xs : List X) (k : ℕ) (x : X) → At xs k x → Contains xs x
contains_at xs k x e = (k, slice_get_within xs k x e, get_or_from_slice_get xs k x x e)

-- ---- stamps of pairs

-- a frame that an entry puts was put
put_at : (k : ℕ) (t : List Entry) (f : Frame) → At t k (Put f) → list_any (has_put f.stamp) t ≡ true
put_at k [] f e = cc
put_at zero (x ∷ t) f e =
    let s : x ≡ Put f = cc in
    ap (λ y. has_put f.stamp y || list_any (has_put f.stamp) t) s
    ∙ ap (λ b. b || list_any (has_put f.stamp) t) (eq-eqb f.stamp f.stamp refl)
put_at (suc k) (x ∷ t) f e = ap (λ b. has_put f.stamp x || b) (put_at k t f e) ∙ or_true (has_put f.stamp x)
  where
    or_true : (b : Bool) → (b || true) ≡ true
    or_true true = refl
    or_true false = refl

module _ (seats : List Seat) (log : Log) (book : IsBook seats log) where
  put_before : (d : Due) → IsDue seats (said log) d → list_any (has_put d.stamp) (said log) ≡ true
  put_before d h = subst (λ n. list_any (has_put n) (said log) ≡ true) h.stamp (put_at d.put (said log) h.frame h.put)

  -- a stored pair that passes a test of stored pairs, as a test of the pending ones
  agrees : (t : Due → Bool) (u : Pair → Bool) → ((d : Due) → IsDue seats (said log) d → t d ≡ u (pair_at seats (said log) d))
      → list_any t log.due.dues ≡ list_any u (pending seats (said log))
  agrees t u same =
      any_map (IsDue seats (said log)) (pair_at seats (said log)) t u log.due.dues same book.due
      ∙ (ap (list_any u) book.pending ∙ any_in_order pair_key u (pending seats (said log)))

  stored_at : (d : Due) → Has due_key log.due.dues d → Contains (pending seats (said log)) (pair_at seats (said log) d)
  stored_at d (k, at) =
      let h = in_order_has pair_key (pending seats (said log)) (pair_at seats (said log) d)
      (k, subst (λ l. At l k (pair_at seats (said log) d)) book.pending (map_at (pair_at seats (said log)) log.due.dues k d at)) in
      contains_at (pending seats (said log)) h.0 (pair_at seats (said log) d) h.1

  -- The facts about a search for a pair that passes a test.
  pub record IsFound (stamp : ℕ) (t : Due → Bool) (u : Pair → Bool) (r : Option Due) : Type 0 where
    pub value : is_some r ≡ list_any u (pending seats (said log))
    pub due : IfSome r (λ d. IsDue seats (said log) d)
    pub pending : IfSome r (λ d. Contains (pending seats (said log)) (pair_at seats (said log) d))
    pub put : OnSome r (list_any (has_put stamp) (said log) ≡ true)

  module _ (stamp : ℕ) (t : Due → Bool) (u : Pair → Bool)
      (same : (d : Due) → IsDue seats (said log) d → t d ≡ u (pair_at seats (said log) d))
      (of_stamp : (d : Due) → t d ≡ true → stamp ≡ d.stamp) where
    pub is_found : (r : Option Due) → r ≡ find t log.due.dues → IsFound stamp t u r
    is_found None e =
        record { value = ap is_some e ∙ (any_find t log.due.dues ∙ agrees t u same); due = tt; pending = tt; put = tt }
    is_found (Some d) e =
        let a = find_at t log.due.dues d (sym e) in
        let is = each_at (IsDue seats (said log)) log.due.dues a.0 d a.1 book.due in
        record {
          value = ap is_some e ∙ (any_find t log.due.dues ∙ agrees t u same);
          due = is;
          pending = stored_at d (a.0, a.1);
          put = subst (λ n. list_any (has_put n) (said log) ≡ true) (sym (of_stamp d a.2)) (put_before d is);
        }

  -- the tests by stamp and station, and by stamp alone
  pub at_named : (stamp station : ℕ) (d : Due) → IsDue seats (said log) d
      → is_at stamp station d ≡ is_named stamp station (pair_at seats (said log) d)
  at_named stamp station d h =
      ap (λ n. stamp == n && station == d.station) (sym (stamp_is seats (said log) d h))
      ∙ ap (λ n. stamp == (frame_of (slice_get (said log) d.put)).stamp && station == n) (sym h.station)

  pub stamp_named : (stamp : ℕ) (d : Due) → IsDue seats (said log) d
      → (stamp == d.stamp) ≡ has_stamp stamp (pair_at seats (said log) d)
  stamp_named stamp d h = ap (λ n. stamp == n) (sym (stamp_is seats (said log) d h))

-- a stored pair that passes has the stamp
pub of_stamp : (stamp station : ℕ) (d : Due) → is_at stamp station d ≡ true → stamp ≡ d.stamp
of_stamp stamp station d e = eqb-true stamp d.stamp (and_parts (stamp == d.stamp) (station == d.station) e).0

-- a pair that is found by its stamp has it
pub found_is : (stamp : ℕ) (r : Option Due) → IfSome r (λ d. (stamp == d.stamp) ≡ true) → IfSome r (λ d. stamp ≡ d.stamp)
found_is stamp None e = tt
found_is stamp (Some d) e = eqb-true stamp d.stamp e

-- what is found passes the test
pub found_passes : (t : Due → Bool) (ds : List Due) (r : Option Due) → r ≡ find t ds → IfSome r (λ d. t d ≡ true)
found_passes t ds None e = tt
found_passes t ds (Some d) e = (find_at t ds d (sym e)).2

-- ---- seats

-- on a cable without seats no station is seated
pub none_seated : (seats : List Seat) (cable station : ℕ) → has_cable seats cable ≡ false → is_seated seats cable station ≡ false
none_seated [] cable station h = refl
none_seated (s ∷ ss) cable station h = by (none_seated ss cable station) (s.cable == cable) h
  where
    by : (has_cable ss cable ≡ false → is_seated ss cable station ≡ false) → (b : Bool) → (b || has_cable ss cable) ≡ false
        → ((b && s.station == station) || is_seated ss cable station) ≡ false
    by rest true e = cc
    by rest false e = rest e
