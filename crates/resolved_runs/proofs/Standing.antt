-- What is pending or held in a transcript that is told is pending in its plain transcript.
use Rattle.std.proofs.Common.{◌≡◌, ◌⊎◌, inl, inr, ℕ, zero, suc, ◌<◌, ◌≤◌, Bool, true, false, not, ◌||◌, ◌==◌, cond, List, [], ◌∷◌, ◌++◌, Option}
use Rattle.std.proofs.Common.{Some, None, Contains, refl, sym, ap, ◌∙◌, subst, arith, map, true≢false, eq-eqb, eqb-true, ne_eqb, is_some}
use Rattle.std.specs.List.{list_any}
use Rattle.std.proofs.lemmas.Bool.{and_parts, false_from_ne_true, or_cases}
use Rattle.table_image.specs.Internet.{Internet}
use Rattle.table_image.specs.Seats.{Seat as PlaceOf, seat_at}
use Rattle.audit.specs.Rules.{Passes}
use Rattle.audit.proofs.WalkLists.{find_none}
use Rattle.station.specs.declared.heard.Kind.{Kind}
use Rattle.station.specs.declared.heard.Kind.TheVariants.{Aarp, Ddp}
use Rattle.cable_model.specs.Books.{has_took}
use Rattle.cable_model.specs.Holdings.{has_number, holds, holds_of, released_frame, releases, still_held, was_released}
use Rattle.cable_model.specs.Pending.{Pair, ends, pairs, pairs_of, pending, was_ended}
use Rattle.cable_model.specs.Transcript.{Entry, Frame, Holding, Sent, Put, Took, Reached, Dropped, Lost, Hold, has_put, next_stamp}
use Rattle.cable_model.specs.declared.seat.Seat.{Seat}
use Rattle.cable_model.proofs.Counting.{any-append, each_at}
use Rattle.cable_model.proofs.Stamps.{held_below}
use Rattle.legal_runs.specs.Stations.{cable_seat, cable_seats}
use Rattle.legal_runs.proofs.Legs.{seat_there}
use Rattle.legal_runs.proofs.Seated.{heard_alone}
use Rattle.resolved_runs.specs.Mapped.{frame_of}
use Rattle.resolved_runs.specs.Plain.{hold_of, plain, plain_after, plain_entry, plain_hold, plain_lost, plain_put, plain_took}
use Rattle.resolved_runs.proofs.Elements.{In, any_in, contained, in_kept, in_left, in_list, in_one, in_parts, in_right, kept_in, not_true}
use Rattle.resolved_runs.proofs.Plains.{plain_one, put_direct, took_aarp, took_datagram}
use Rattle.resolved_runs.proofs.Told.{Fact, IsAarp, IsDropped, IsHeld, IsLost, IsNew, IsReached, IsReleased, IsSent, IsTold, IsTook, More}
use Rattle.resolved_runs.proofs.Told.{Nothing}

-- ---- What is held

-- What is still held was held, and no entry ended it.
pub held_in : (t : List Entry) (h : Holding) → Contains (still_held t) h → In (holds t) h × (was_released t h ≡ false)
held_in t h there =
    let w = kept_in (λ d. not (was_released t d)) (holds t) h (in_list (still_held t) h there) in
    (w.0, not_true (was_released t h) w.1)

-- No datagram was held with a new stamp.
pub hold_none : (t : List Entry) (n : ℕ) → next_stamp t ≤ n → hold_of n t ≡ None
hold_none t n le =
    find_none (has_number n) (holds t) (λ k h at.
    let lt = each_at (λ h. h.stamp < next_stamp t) (holds t) k h at (held_below t) in
    ne_eqb n h.stamp (λ e. absurd (omega (arith, e, lt, le))))

-- ---- Pairs

-- A pair is of a frame that was put.
pub pair_put : (ss : List Seat) (es : List Entry) (p : Pair) → In (pairs ss es) p → In es (Put p.frame) × In (pairs_of ss (Put p.frame)) p
pair_put ss [] p (k, e) = cc
pair_put ss (e ∷ es) p h = elim (in_parts (pairs_of ss e) (pairs ss es) p h) as
    (λ _. In (e ∷ es) (Put p.frame) × In (pairs_of ss (Put p.frame)) p) [
      | inl this ↦ here e this
      | inr later ↦ let w = pair_put ss es p later in ((suc w.0.0, w.0.1), w.1)
    ]
  where
    of_frame : (f : Frame) (xs : List Seat) → In (map (λ (s : Seat). record { frame = f; seat = s }) xs) p → p.frame ≡ f
    of_frame f [] (k, e) = cc
    of_frame f (s ∷ xs) (zero, e) = let g : record { frame = f; seat = s } ≡ p = cc in ap (λ (q : Pair). q.frame) (sym g)
    of_frame f (s ∷ xs) (suc k, e) = of_frame f xs (k, e)

    here : (e : Entry) → In (pairs_of ss e) p → In (e ∷ es) (Put p.frame) × In (pairs_of ss (Put p.frame)) p
    here (Put f) g =
        let same = of_frame f _ g in
        ((zero, ap (λ f. Some (Put f)) (sym same)), subst (λ f. In (pairs_of ss (Put f)) p) (sym same) g)
    here (Sent s b) (k, g) = cc
    here (Took n s) (k, g) = cc
    here (Reached c s w b) (k, g) = cc
    here (Dropped r c b) (k, g) = cc
    here (Lost n) (k, g) = cc
    here (Hold d) (k, g) = cc

-- The pairs of a frame that was put.
pub put_pair : (ss : List Seat) (es : List Entry) (f : Frame) (p : Pair) → In es (Put f) → In (pairs_of ss (Put f)) p → In (pairs ss es) p
put_pair ss [] f p (k, e) g = cc
put_pair ss (e ∷ es) f p (zero, at) g =
    let same : e ≡ Put f = cc in in_left (pairs_of ss e) (pairs ss es) p (subst (λ e. In (pairs_of ss e) p) (sym same) g)
put_pair ss (e ∷ es) f p (suc k, at) g = in_right (pairs_of ss e) (pairs ss es) p (put_pair ss es f p (k, at) g)

-- ---- What ends pairs

-- An entry that ends a pair takes or loses its frame.
pub ended_by : (es : List Entry) (p : Pair) → was_ended es p ≡ true
    → (list_any (has_took p.frame.stamp) es ≡ true) ⊎ (list_any (releases p.frame.stamp) es ≡ true)
ended_by [] p h = cc
ended_by (e ∷ es) p h = elim (or_cases (ends p e) (was_ended es p) h) as
    (λ _. (list_any (has_took p.frame.stamp) (e ∷ es) ≡ true) ⊎ (list_any (releases p.frame.stamp) (e ∷ es) ≡ true)) [
      | inl this ↦ here e this
      | inr later ↦ elim (ended_by es p later) as
          (λ _. (list_any (has_took p.frame.stamp) (e ∷ es) ≡ true) ⊎ (list_any (releases p.frame.stamp) (e ∷ es) ≡ true)) [
            | inl took ↦ inl (last (has_took p.frame.stamp e) took)
            | inr lost ↦ inr (last (releases p.frame.stamp e) lost)
          ]
    ]
  where
    last : (a : Bool) {b : Bool} → b ≡ true → (a || b) ≡ true
    last true h = refl
    last false h = h

    first : {a : Bool} (b : Bool) → a ≡ true → (a || b) ≡ true
    first b h = ap (λ a. a || b) h

    turn : (m n : ℕ) → (m == n) ≡ true → (n == m) ≡ true
    turn m n h = eq-eqb n m (sym (eqb-true m n h))

    here : (e : Entry) → ends p e ≡ true
        → (list_any (has_took p.frame.stamp) (e ∷ es) ≡ true) ⊎ (list_any (releases p.frame.stamp) (e ∷ es) ≡ true)
    here (Took n s) g =
        inl (first (list_any (has_took p.frame.stamp) es) (turn n p.frame.stamp (and_parts (n == p.frame.stamp) (s == p.seat.station) g).0))
    here (Lost n) g = inr (first (list_any (releases p.frame.stamp) es) (turn n p.frame.stamp g))
    here (Put f) g = cc
    here (Sent s b) g = cc
    here (Reached c s w b) g = cc
    here (Dropped r c b) g = cc
    here (Hold d) g = cc

-- A frame that was put ends the holding with its stamp.
pub put_releases : (n : ℕ) (es : List Entry) → list_any (has_put n) es ≡ true → list_any (releases n) es ≡ true
put_releases n [] h = cc
put_releases n (e ∷ es) h = elim (or_cases (has_put n e) (list_any (has_put n) es) h) as (λ _. (releases n e || list_any (releases n) es) ≡ true) [
  | inl this ↦ ap (λ a. a || list_any (releases n) es) (here e this)
  | inr later ↦ last (releases n e) (put_releases n es later)
]
  where
    last : (a : Bool) {b : Bool} → b ≡ true → (a || b) ≡ true
    last true h = refl
    last false h = h

    here : (e : Entry) → has_put n e ≡ true → releases n e ≡ true
    here (Put f) g = g
    here (Took m s) g = cc
    here (Lost m) g = cc
    here (Sent s b) g = cc
    here (Reached c s w b) g = cc
    here (Dropped r c b) g = cc
    here (Hold d) g = cc

module _ (i : Internet) where
  -- An entry of the plain transcript that ends a pair stands for one that ends it.
  one_ends : (t : List Entry) (e : Entry) (p : Pair) → was_ended (plain_entry i t e) p ≡ true → ends p e ≡ true
  one_ends t (Hold d) p h = by (seat_at i d.cable d.next) h
    where
      by : (o : Option PlaceOf) → was_ended (plain_hold d o) p ≡ true → false ≡ true
      by None g = g
      by (Some s) g = g
  one_ends t (Put f) p h = by f.kind h
    where
      inner : (b : Bool) → was_ended (cond b [] (Put f ∷ [])) p ≡ true → false ≡ true
      inner true g = g
      inner false g = g

      by : (k : Kind) → was_ended (plain_put t f k) p ≡ true → false ≡ true
      by Aarp g = g
      by Ddp g = inner (is_some (hold_of f.stamp t)) g
  one_ends t (Took n s) p h = by (frame_of n t) h
    where
      alone : (b : Bool) → (b || false) ≡ true → b ≡ true
      alone true g = refl
      alone false g = g

      kinds : (f : Frame) (k : Kind) → f.kind ≡ k → was_ended (plain_took n s (Some f)) p ≡ true → ends p (Took n s) ≡ true
      kinds f Aarp e g = absurd (true≢false (sym g ∙ ap (λ es. was_ended es p) (took_aarp n s f e)))
      kinds f Ddp e g = alone (ends p (Took n s)) (sym (ap (λ es. was_ended es p) (took_datagram n s f e)) ∙ g)

      by : (o : Option Frame) → was_ended (plain_took n s o) p ≡ true → ends p (Took n s) ≡ true
      by None g = alone (ends p (Took n s)) g
      by (Some f) g = kinds f f.kind refl g
  one_ends t (Lost n) p h = by (hold_of n t) h
    where
      alone : (b : Bool) → (b || false) ≡ true → b ≡ true
      alone true g = refl
      alone false g = g

      inner : (b : Bool) → was_ended (cond b (Lost n ∷ []) []) p ≡ true → ends p (Lost n) ≡ true
      inner true g = alone (ends p (Lost n)) g
      inner false g = cc

      by : (o : Option Holding) → was_ended (plain_lost i n o) p ≡ true → ends p (Lost n) ≡ true
      by None g = alone (ends p (Lost n)) g
      by (Some h) g = inner (is_some (seat_at i h.cable h.next)) g
  one_ends t (Reached c s w b) p h = h
  one_ends t (Sent s b) p h = h
  one_ends t (Dropped r c b) p h = h

  -- A pair that ended in the plain transcript ended.
  pub plain_ended : (u es : List Entry) (p : Pair) → was_ended (plain_after i u es) p ≡ true → was_ended es p ≡ true
  plain_ended u [] p h = h
  plain_ended u (e ∷ es) p h = elim (or_cases (was_ended (plain_entry i u e) p) (was_ended (plain_after i (u ++ e ∷ []) es) p)
      (sym (any-append (ends p) (plain_entry i u e) (plain_after i (u ++ e ∷ []) es)) ∙ h)) as (λ _. (ends p e || was_ended es p) ≡ true) [
        | inl this ↦ ap (λ a. a || was_ended es p) (one_ends u e p this)
        | inr later ↦ last (ends p e) (plain_ended (u ++ e ∷ []) es p later)
      ]
    where
      last : (a : Bool) {b : Bool} → b ≡ true → (a || b) ≡ true
      last true h = refl
      last false h = h

  -- ---- Frames

  -- The frame of a held datagram for a station stands in the plain transcript.
  pub hold_plain : (u es : List Entry) (h : Holding) (s : PlaceOf) → In (holds es) h → seat_at i h.cable h.next ≡ Some s
      → In (plain_after i u es) (Put (released_frame h s.hardware))
  hold_plain u [] h s (k, e) found = cc
  hold_plain u (e ∷ es) h s there found = elim (in_parts (holds_of e) (holds es) h there) as
      (λ _. In (plain_after i u (e ∷ es)) (Put (released_frame h s.hardware))) [
        | inl this ↦ in_left (plain_entry i u e) (plain_after i (u ++ e ∷ []) es) _ (here e this)
        | inr later ↦ in_right (plain_entry i u e) (plain_after i (u ++ e ∷ []) es) _ (hold_plain (u ++ e ∷ []) es h s later found)
      ]
    where
      same : (d : Holding) → d ≡ h → In (plain_hold d (seat_at i d.cable d.next)) (Put (released_frame h s.hardware))
      same d eq =
          subst (λ (d : Holding). In (plain_hold d (seat_at i d.cable d.next)) (Put (released_frame h s.hardware))) (sym eq)
          (subst (λ o. In (plain_hold h o) (Put (released_frame h s.hardware))) (sym found) (zero, refl))

      here : (e : Entry) → In (holds_of e) h → In (plain_entry i u e) (Put (released_frame h s.hardware))
      here (Hold d) g = same d (in_one d h g)
      here (Put f) (k, g) = cc
      here (Sent s b) (k, g) = cc
      here (Took n s) (k, g) = cc
      here (Reached c s w b) (k, g) = cc
      here (Dropped r c b) (k, g) = cc
      here (Lost n) (k, g) = cc

  -- The frame of a datagram stands in the plain transcript.
  pub put_plain : (t : List Entry) (f : Frame) → IsTold i t → In t (Put f) → f.kind ≡ Ddp → In (plain i t) (Put f)
  put_plain t f Nothing (k, e) kind = cc
  put_plain t f (More u e told fact) there kind =
      subst (λ es. In es (Put f)) (sym (plain_one i u e)) (elim (in_parts u (e ∷ []) (Put f) there) as
      (λ _. In (plain i u ++ plain_entry i u e) (Put f)) [
        | inl before ↦ in_left (plain i u) (plain_entry i u e) (Put f) (put_plain u f told before kind)
        | inr this ↦ here e fact (in_one e (Put f) this)
      ])
    where
      same_frame : (f g : Frame) → Put f ≡ Put g → f ≡ g
      same_frame f g e = cc

      here : (e : Entry) → Fact i u e → e ≡ Put f → In (plain i u ++ plain_entry i u e) (Put f)
      here e (IsNew g k fresh) eq =
          in_right (plain i u) _ (Put f)
          (subst (λ es. In es (Put f)) (sym (put_direct u g k (hold_none u g.stamp fresh)))
          (zero, ap Some eq))
      here e (IsAarp g k fresh packet) eq =
          let no : Aarp ≡ Ddp = sym k ∙ (ap (λ (x : Frame). x.kind) (same_frame g f eq) ∙ kind) in cc
      here e (IsReleased h s still found) eq =
          in_left (plain i u) _ (Put f)
          (subst (λ e. In (plain i u) e) eq (hold_plain [] u h s (held_in u h still).0 found))
      here e (IsSent s b) eq = cc
      here e (IsReached c s w b) eq = cc
      here e (IsDropped r c b) eq = cc
      here e (IsHeld h fresh) eq = cc
      here e (IsLost h still) eq = cc
      here e (IsTook p still) eq = cc

  -- ---- Pending pairs

  -- A pair that is pending is one of the pairs, and no entry ended it.
  pub pending_in : (ss : List Seat) (t : List Entry) (p : Pair) → Contains (pending ss t) p → In (pairs ss t) p × (was_ended t p ≡ false)
  pending_in ss t p there =
      let w = kept_in (λ q. not (was_ended t q)) (pairs ss t) p (in_list (pending ss t) p there) in
      (w.0, not_true (was_ended t p) w.1)

  pub is_pending : (ss : List Seat) (t : List Entry) (p : Pair) → In (pairs ss t) p → was_ended t p ≡ false → Contains (pending ss t) p
  is_pending ss t p there still = contained (pending ss t) p (in_kept (λ q. not (was_ended t q)) (pairs ss t) p there (ap not still))

  -- A datagram's frame that is pending is pending in the plain transcript.
  pub pending_plain : (t : List Entry) (p : Pair) → IsTold i t → Contains (pending (cable_seats i) t) p → p.frame.kind ≡ Ddp
      → Contains (pending (cable_seats i) (plain i t)) p
  pending_plain t p told there kind =
      let w = pending_in (cable_seats i) t p there in
      let g = pair_put (cable_seats i) t p w.0 in
      is_pending (cable_seats i) (plain i t) p
      (put_pair (cable_seats i) (plain i t) p.frame p (put_plain t p.frame told g.0 kind) g.1)
      (false_from_ne_true (was_ended (plain i t) p) (λ e. true≢false (sym (plain_ended [] t p e) ∙ w.1)))

  -- A frame that was taken was put.
  pub took_put : (t : List Entry) (n : ℕ) → IsTold i t → list_any (has_took n) t ≡ true → list_any (has_put n) t ≡ true
  took_put t n Nothing h = cc
  took_put t n (More u e told fact) h =
      any-append (has_put n) u (e ∷ []) ∙ (elim (or_cases (list_any (has_took n) u) (has_took n e || false)
      (sym (any-append (has_took n) u (e ∷ [])) ∙ h)) as (λ _. (list_any (has_put n) u || (has_put n e || false)) ≡ true) [
        | inl before ↦ ap (λ a. a || (has_put n e || false)) (took_put u n told before)
        | inr this ↦ ap (λ a. a || (has_put n e || false)) (here e fact (alone (has_took n e) this))
      ])
    where
      alone : (b : Bool) → (b || false) ≡ true → b ≡ true
      alone true g = refl
      alone false g = g

      here : (e : Entry) → Fact i u e → has_took n e ≡ true → list_any (has_put n) u ≡ true
      here e (IsTook p still) g =
          any_in (has_put n) u (Put p.frame) (pair_put (cable_seats i) u p (pending_in (cable_seats i) u p still).0).0 g
      here e (IsNew f k fresh) g = cc
      here e (IsAarp f k fresh packet) g = cc
      here e (IsReleased h s still found) g = cc
      here e (IsSent s b) g = cc
      here e (IsReached c s w b) g = cc
      here e (IsDropped r c b) g = cc
      here e (IsHeld h fresh) g = cc
      here e (IsLost h still) g = cc

  module _ (ok : Passes i) where
    -- The frame of a datagram that is held for a station is pending in the plain transcript.
    pub held_plain : (t : List Entry) (h : Holding) (s : PlaceOf) → IsTold i t → Contains (still_held t) h
        → seat_at i h.cable h.next ≡ Some s
        → Contains (pending (cable_seats i) (plain i t)) (record { frame = released_frame h s.hardware; seat = cable_seat i s })
    held_plain t h s told there found =
        let w = held_in t h there in
        let p : Pair = record { frame = released_frame h s.hardware; seat = cable_seat i s } in
        let at = seat_there i h.cable h.next s found in
        let alone = heard_alone i ok (released_frame h s.hardware) at.place s at.at at.cable_is refl in
        is_pending (cable_seats i) (plain i t) p
        (put_pair (cable_seats i) (plain i t) (released_frame h s.hardware) p (hold_plain [] t h s w.0 found)
        (subst (λ ps. In ps p) (sym alone) (zero, refl)))
        (false_from_ne_true (was_ended (plain i t) p) (λ e. never w.1 (ended_by t p (plain_ended [] t p e))))
      where
        never : was_released t h ≡ false → (list_any (has_took h.stamp) t ≡ true) ⊎ (list_any (releases h.stamp) t ≡ true) → ⊥
        never still (inl took) = true≢false (sym (put_releases h.stamp t (took_put t h.stamp told took)) ∙ still)
        never still (inr lost) = true≢false (sym lost ∙ still)
