-- A frame to one station is heard by one seat alone.
use Rattle.std.proofs.Common.{◌≡◌, ℕ, zero, suc, ◌≤◌, Bool, true, false, not, ◌&&◌, ◌==◌, cond, List, [], ◌∷◌, filter, map}
use Rattle.std.proofs.Common.{◌∙◌, ap, refl, sym, subst, arith, eq-eqb, eqb-true}
use Rattle.std.specs.List.{AllByRecursion as Each}
use Rattle.std.proofs.lemmas.Bool.{and_parts}
use Rattle.at_base.proofs.Texts.{same_bytes_is, same_bytes_self}
use Rattle.at_base.specs.Multicast.{is_all, is_group}
use Rattle.at_base.specs.Text.{same_bytes}
use Rattle.table_image.specs.Internet.{Internet}
use Rattle.table_image.specs.Seats.{Seat as PlaceOf, seats}
use Rattle.audit.specs.Rules.{Passes}
use Rattle.audit.proofs.SeatUnique.{unique}
use Rattle.audit.proofs.WalkLists.{at_one}
use Rattle.cable_model.specs.declared.seat.Seat.{Seat}
use Rattle.cable_model.specs.Pending.{Pair, is_for, is_heard, pairs, pairs_of}
use Rattle.cable_model.specs.Transcript.{ArePutOnce, Entry, Frame, Sent, Put, Took, Reached, Dropped, Lost, Hold, count, has_put, one}
use Rattle.cable_model.proofs.Counting.{At, count_at, each-append, each_at, each_map, each_more}
use Rattle.legal_runs.specs.Legs.{is_unicast}
use Rattle.legal_runs.specs.Stations.{cable_seat, cable_seats}
use Rattle.legal_runs.proofs.Requested.{HasPlace, placed}
use Rattle.legal_runs.proofs.Seated.{for_one}

-- If at most one element passes, two that pass are the same.
only_one : {X : Type 0} (t : X → Bool) (xs : List X) (j k : ℕ) (x y : X) → count t xs ≤ 1 → At xs j x → At xs k y → t x ≡ true
    → t y ≡ true → x ≡ y
only_one t [] j k x y few ex ey px py = cc
only_one t (z ∷ xs) zero zero x y few ex ey px py =
    let a : z ≡ x = cc in
    let b : z ≡ y = cc in
    sym a ∙ b
only_one t (z ∷ xs) zero (suc k) x y few ex ey px py =
    let a : z ≡ x = cc in
    let this = ap one (ap t a ∙ px) in
    let later = count_at t xs k y ey py in
    absurd (omega (arith, this, later, few))
only_one t (z ∷ xs) (suc j) zero x y few ex ey px py =
    let a : z ≡ y = cc in
    let this = ap one (ap t a ∙ py) in
    let later = count_at t xs j x ex px in
    absurd (omega (arith, this, later, few))
only_one t (z ∷ xs) (suc j) (suc k) x y few ex ey px py = only_one t xs j k x y (omega (arith, few)) ex ey px py

each_kept : {X : Type 0} (t : X → Bool) (xs : List X) → Each (λ x. t x ≡ true) (filter t xs)
each_kept t [] = tt
each_kept t (x ∷ xs) = by (each_kept t xs) (t x) refl
  where
    by : Each (λ y. t y ≡ true) (filter t xs) → (b : Bool) → t x ≡ b
        → Each (λ y. t y ≡ true) (cond b (x ∷ filter t xs) (filter t xs))
    by rest true e = (e, rest)
    by rest false e = rest

-- The frame of the pair was put.
abbrev WasPut : List Entry → Pair → Type 0
WasPut t p = (k : ℕ) × At t k (Put p.frame)

module _ (ss : List Seat) where
  -- The frame of a pair was put.
  put_before : (t : List Entry) → Each (WasPut t) (pairs ss t)
  put_before [] = tt
  put_before (e ∷ t) =
      each-append (WasPut (e ∷ t)) (pairs_of ss e) (pairs ss t) (here e)
      (each_more (WasPut t) (WasPut (e ∷ t)) (pairs ss t)
      (λ p w. (suc w.0, w.1)) (put_before t))
    where
      all : (f : Frame) (xs : List Seat) → Each (WasPut (Put f ∷ t))
          (map (λ (s : Seat). record { frame = f; seat = s }) xs)
      all f [] = tt
      all f (s ∷ xs) = ((zero, refl), all f xs)

      here : (e : Entry) → Each (WasPut (e ∷ t)) (pairs_of ss e)
      here (Put f) = all f (filter (is_heard f) ss)
      here (Sent s b) = tt
      here (Took q s) = tt
      here (Reached c s how b) = tt
      here (Dropped r cause b) = tt
      here (Lost q) = tt
      here (Hold d) = tt

  -- The seat of a pair hears its frame.
  heard_there : (t : List Entry) → Each (λ p. is_heard p.frame p.seat ≡ true) (pairs ss t)
  heard_there [] = tt
  heard_there (e ∷ t) =
      each-append (λ p. is_heard p.frame p.seat ≡ true) (pairs_of ss e) (pairs ss t) (here e) (heard_there t)
    where
      here : (e : Entry) → Each (λ p. is_heard p.frame p.seat ≡ true) (pairs_of ss e)
      here (Put f) =
          each_map (λ p. is_heard p.frame p.seat ≡ true) (λ s. record { frame = f; seat = s }) (filter (is_heard f) ss)
          (each_kept (is_heard f) ss)
      here (Sent s b) = tt
      here (Took q s) = tt
      here (Reached c s how b) = tt
      here (Dropped r cause b) = tt
      here (Lost q) = tt
      here (Hold d) = tt

  -- Pairs with the same stamp have the same frame.
  same_frame : (t : List Entry) (j k : ℕ) (p q : Pair) → ArePutOnce t → At (pairs ss t) j p → At (pairs ss t) k q
      → p.frame.stamp ≡ q.frame.stamp → p.frame ≡ q.frame
  same_frame t j k p q once ep eq same =
      let a = each_at (WasPut t) (pairs ss t) j p ep (put_before t) in
      let b = each_at (WasPut t) (pairs ss t) k q eq (put_before t) in
      let one_entry : Put p.frame ≡ Put q.frame =
      only_one (has_put p.frame.stamp) t a.0 b.0 (Put p.frame) (Put q.frame) (once p.frame.stamp) a.1 b.1
      (eq-eqb p.frame.stamp p.frame.stamp refl) (eq-eqb p.frame.stamp q.frame.stamp same) in
      cc

module _ (i : Internet) (ok : Passes i) where
  unicast_parts : (a g : Bool) → (not a && not g) ≡ true → (a ≡ false) × (g ≡ false)
  unicast_parts false false e = (refl, refl)
  unicast_parts true g e = cc
  unicast_parts false true e = cc

  -- What a seat's hearing a frame to one station says.
  heard_by_one : (f : Frame) (s : Seat) → is_unicast f.to ≡ true → is_heard f s ≡ true → (s.cable ≡ f.cable) × (s.hw.0 ≡ f.to.0)
  heard_by_one f s single e =
      let u = unicast_parts (is_all f.to) (is_group f.to) single in
      let h = and_parts (s.cable == f.cable) (is_for f.to f.sender s) e in
      (eqb-true _ _ h.0, same_bytes_is _ _ (sym (for_one i ok f.to f.sender s u.0 u.1) ∙ h.1))

  -- Two seats that hear a frame to one station are of the same station.
  one_hears : (f : Frame) (s r : Seat) → is_unicast f.to ≡ true → is_heard f s ≡ true → is_heard f r ≡ true
      → (k : ℕ) (x : PlaceOf) → At (seats i) k x → s ≡ cable_seat i x → (l : ℕ) (y : PlaceOf) → At (seats i) l y → r ≡ cable_seat i y
      → s.station ≡ r.station
  one_hears f s r single hs hr k x ex sx l y ey ry =
      let a = heard_by_one f s single hs in
      let b = heard_by_one f r single hr in
      let cable : x.cable ≡ y.cable =
      sym (ap (λ (z : Seat). z.cable) sx) ∙ (a.0 ∙ (sym b.0 ∙ ap (λ (z : Seat). z.cable) ry)) in
      let hw : x.hardware.0 ≡ y.hardware.0 =
      sym (ap (λ (z : Seat). z.hw.0) sx) ∙ (a.1 ∙ (sym b.1 ∙ ap (λ (z : Seat). z.hw.0) ry)) in
      let place : k ≡ l = (unique i ok).by_hardware k l x y ex ey cable
      (ap (λ bytes. same_bytes bytes y.hardware.0) hw ∙ same_bytes_self y.hardware.0) in
      let one_seat : x ≡ y = at_one (seats i) l x y (subst (λ n. At (seats i) n x) place ex) ey in
      ap (λ (z : Seat). z.station) sx ∙ (ap (λ (z : PlaceOf). z.station) one_seat ∙ sym (ap (λ (z : Seat). z.station) ry))

  -- Pairs of one stamp are of one station, if the frame is to one station.
  pub alone : (t : List Entry) (j k : ℕ) (p q : Pair) → ArePutOnce t → At (pairs (cable_seats i) t) j p
      → At (pairs (cable_seats i) t) k q → p.frame.stamp ≡ q.frame.stamp → is_unicast p.frame.to ≡ true
      → p.seat.station ≡ q.seat.station
  alone t j k p q once ep eq same single =
      let ss = cable_seats i in
      let frame = same_frame ss t j k p q once ep eq same in
      let hp = each_at (λ p. is_heard p.frame p.seat ≡ true) (pairs ss t) j p ep (heard_there ss t) in
      let hq = each_at (λ p. is_heard p.frame p.seat ≡ true) (pairs ss t) k q eq (heard_there ss t) in
      let a = each_at (HasPlace i) (pairs ss t) j p ep (placed i t) in
      let b = each_at (HasPlace i) (pairs ss t) k q eq (placed i t) in
      one_hears p.frame p.seat q.seat single hp (subst (λ f. is_heard f q.seat ≡ true) (sym frame) hq)
      a.0 a.1 a.2 a.3 b.0 b.1 b.2 b.3
