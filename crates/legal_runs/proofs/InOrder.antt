-- In a transcript that is legal with losses, each frame's stamp is above those before it, and what is taken or lost is
-- pending.
use Rattle.std.proofs.Common.{◌≡◌, ℕ, ◌<◌, ◌≤◌, Bool, true, false, not, List, [], ◌∷◌, ◌++◌, Contains, append_assoc, append-nil, arith}
use Rattle.std.proofs.Common.{refl, subst, sym}
use Rattle.std.specs.List.{AllByRecursion as Each}
use Rattle.table_image.specs.Internet.{Internet}
use Rattle.cable_model.specs.Pending.{Pair, pairs, pending, was_ended}
use Rattle.cable_model.specs.Transcript.{ArePutOnce, Entry, Sent, Put, Took, Reached, Dropped, Lost, Hold, next_stamp}
use Rattle.cable_model.proofs.Counting.{At, contained_at, each-append, each_at, each_more, filter_at}
use Rattle.cable_model.proofs.Pairs.{EndsBelow, EndsNone, below_more}
use Rattle.cable_model.proofs.Stamps.{next_after, stamp_from_more}
use Rattle.legal_runs.specs.Losses.{Ends, Keeps, Loses, WithLosses}
use Rattle.legal_runs.specs.LossyRuns.{Begins, Continues, IsLegalWithLosses, LossyBlock, Loses as LosesOne, Sends, Takes}
use Rattle.legal_runs.specs.Stations.{cable_seats}
use Rattle.legal_runs.proofs.Lossy.{rising_with_losses}
use Rattle.legal_runs.proofs.Rises.{IsFrom, Rises, pairs_below, rises_once}
use Rattle.legal_runs.proofs.Rising.{IsRising, handled_ends_none, handled_rises, said_ends_none, said_rises}

-- A pending pair has this stamp.
pub record IsOpen (i : Internet) (t : List Entry) (stamp : ℕ) : Type 0 where
  pub pair : Pair
  pub there : Contains (pending (cable_seats i) t) pair
  pub same : pair.frame.stamp ≡ stamp

-- The entry fits after the transcript: the stamp of a frame is above those before it, and what is taken or lost is
-- pending.
abbrev pub Fits : Internet → List Entry → Entry → Type 0
Fits i t (Put frame) = next_stamp t ≤ frame.stamp
Fits i t (Took stamp station) = (w : IsOpen i t stamp) × (w.pair.seat.station ≡ station)
Fits i t (Lost stamp) = IsOpen i t stamp
Fits i t (Hold held) = ⊥
Fits i t (Sent station body) = Unit {0}
Fits i t (Reached cable station how body) = Unit {0}
Fits i t (Dropped router cause body) = Unit {0}

-- Each entry fits after those before it, the first ones being `t`.
abbrev pub AreInOrder : Internet → List Entry → List Entry → Type 0
AreInOrder i t [] = Unit {0}
AreInOrder i t (e ∷ es) = Fits i t e × AreInOrder i (t ++ e ∷ []) es

module _ (i : Internet) where
  in_order-append : (t es fs : List Entry) → AreInOrder i t es → AreInOrder i (t ++ es) fs → AreInOrder i t (es ++ fs)
  in_order-append t [] fs h g = subst (λ x. AreInOrder i x fs) (append-nil t) g
  in_order-append t (e ∷ es) fs h g =
      (h.0, in_order-append (t ++ e ∷ []) es fs h.1 (subst (λ x. AreInOrder i x fs) (sym (append_assoc t (e ∷ []) es)) g))

  fits : (t : List Entry) (e : Entry) → EndsNone e → IsFrom (next_stamp t) e → Fits i t e
  fits t (Put f) none new = new
  fits t (Took p s) none new = absurd none
  fits t (Lost p) none new = absurd none
  fits t (Hold d) none new = absurd new
  fits t (Sent s b) none new = tt
  fits t (Reached c s how b) none new = tt
  fits t (Dropped r cause b) none new = tt

  with_in_order : (t es fs : List Entry) → WithLosses i t es fs → Each EndsNone es → Rises (next_stamp t) es → AreInOrder i t fs
  with_in_order t es fs (Ends s) none rises = tt
  with_in_order t es fs (Keeps s e xs ys w) none rises = (
    fits s e none.0 rises.0,
    with_in_order (s ++ e ∷ []) xs ys w none.1 (subst (λ n. Rises n xs) (sym (next_after s e)) rises.1),
  )
  with_in_order t es fs (Loses s p xs ys there w) none rises = (
    record { pair = p; there = there; same = refl },
    with_in_order (s ++ Lost p.frame.stamp ∷ []) xs ys w none
        (subst (λ n. Rises n xs) (sym (next_after s (Lost p.frame.stamp))) rises),
  )

  block_in_order : (t block : List Entry) → LossyBlock i t block → AreInOrder i t block
  block_in_order t block (Sends l es fs made own said w) =
      with_in_order t es fs w (said_ends_none i (next_stamp t) (l ∷ []) es said) (said_rises i (next_stamp t) (l ∷ []) es said)
  block_in_order t block (Takes p ls es fs there made its answers handled w) =
      let took = Took p.frame.stamp p.seat.station in (
        (record { pair = p; there = there; same = refl }, refl),
        with_in_order (t ++ took ∷ []) es fs w (handled_ends_none i (next_stamp t) p ls es handled)
            (subst (λ n. Rises n es) (sym (next_after t took)) (handled_rises i (next_stamp t) p ls es handled)),
      )
  block_in_order t block (LosesOne p there) = (record { pair = p; there = there; same = refl }, tt)

  pub are_in_order : (t : List Entry) → IsLegalWithLosses i t → AreInOrder i [] t
  are_in_order t Begins = tt
  are_in_order t (Continues front block legal b) = in_order-append [] front block (are_in_order front legal) (block_in_order front block b)

  -- ---- What ends pairs is below the next stamp

  not_true : (b : Bool) → not b ≡ true → b ≡ false
  not_true true h = cc
  not_true false h = refl

  -- What a pending pair is.
  pub record Opened (t : List Entry) (p : Pair) : Type 0 where
    pub place : ℕ
    pub at : At (pairs (cable_seats i) t) place p
    pub still : was_ended t p ≡ false
    pub below : p.frame.stamp < next_stamp t

  pub opened : (t : List Entry) (stamp : ℕ) (w : IsOpen i t stamp) → Opened t w.pair
  opened t stamp w =
      let at = contained_at (pending (cable_seats i) t) w.pair w.there in
      let v = filter_at (λ q. not (was_ended t q)) (pairs (cable_seats i) t) at.0 w.pair at.1 in
      record {
        place = v.0;
        at = v.1;
        still = not_true (was_ended t w.pair) v.2;
        below = each_at (λ q. q.frame.stamp < next_stamp t) (pairs (cable_seats i) t) v.0 w.pair v.1 (pairs_below (cable_seats i) 0 t);
      }

  this_below : (t : List Entry) (e : Entry) → Fits i t e → EndsBelow (next_stamp (t ++ e ∷ [])) e
  this_below t (Put f) fits = tt
  this_below t (Hold d) fits = absurd fits
  this_below t (Sent s b) fits = tt
  this_below t (Reached c s how b) fits = tt
  this_below t (Dropped r cause b) fits = tt
  this_below t (Took stamp station) fits =
      let lt = (opened t stamp fits.0).below in
      let same = fits.0.same in
      let next = next_after t (Took stamp station) in
      omega (arith, lt, same, next)
  this_below t (Lost stamp) fits =
      let lt = (opened t stamp fits).below in
      let same = fits.same in
      let next = next_after t (Lost stamp) in
      omega (arith, lt, same, next)

  -- One more entry that fits.
  pub below_step : (t : List Entry) (e : Entry) → Fits i t e → Each (EndsBelow (next_stamp t)) t
      → Each (EndsBelow (next_stamp (t ++ e ∷ []))) (t ++ e ∷ [])
  below_step t e fits old =
      let more = stamp_from_more (next_stamp t) (e ∷ []) in
      let next = next_after t e in
      each-append (EndsBelow (next_stamp (t ++ e ∷ []))) t (e ∷ [])
      (each_more (EndsBelow (next_stamp t)) (EndsBelow (next_stamp (t ++ e ∷ []))) t
      (λ x h. below_more (next_stamp t) (next_stamp (t ++ e ∷ [])) (omega (arith, more, next)) x h) old)
      (this_below t e fits, tt)

  order_below : (t es : List Entry) → AreInOrder i t es → Each (EndsBelow (next_stamp t)) t
      → Each (EndsBelow (next_stamp (t ++ es))) (t ++ es)
  order_below t [] h old = subst (λ x. Each (EndsBelow (next_stamp x)) x) (sym (append-nil t)) old
  order_below t (e ∷ es) h old =
      subst (λ x. Each (EndsBelow (next_stamp x)) x) (append_assoc t (e ∷ []) es)
      (order_below (t ++ e ∷ []) es h.1 (below_step t e h.0 old))

  -- ---- Stamps rise

  fits_from : (t : List Entry) (e : Entry) → Fits i t e → IsFrom (next_stamp t) e
  fits_from t (Put f) fits = fits
  fits_from t (Hold d) fits = absurd fits
  fits_from t (Sent s b) fits = tt
  fits_from t (Took p s) fits = tt
  fits_from t (Reached c s how b) fits = tt
  fits_from t (Dropped r cause b) fits = tt
  fits_from t (Lost p) fits = tt

  order_rises : (t es : List Entry) → AreInOrder i t es → Rises (next_stamp t) es
  order_rises t [] h = tt
  order_rises t (e ∷ es) h =
      (fits_from t e h.0, subst (λ n. Rises n es) (next_after t e) (order_rises (t ++ e ∷ []) es h.1))

  -- No two frames of a transcript that is legal with losses have the same stamp.
  pub stamps_once : (t : List Entry) → IsLegalWithLosses i t → ArePutOnce t
  stamps_once t legal = rises_once 0 t (order_rises [] t (are_in_order t legal))

  -- The stamps of a transcript without losses rise, and what was taken is below the next one.
  pub rising_rises : (t : List Entry) → IsRising i t → Rises 0 t
  rising_rises t rising = order_rises [] t (are_in_order t (rising_with_losses i t rising))

  pub rising_below : (t : List Entry) → IsRising i t → Each (EndsBelow (next_stamp t)) t
  rising_below t rising = order_below [] t (are_in_order t (rising_with_losses i t rising)) tt

  pub rising_once : (t : List Entry) → IsRising i t → ArePutOnce t
  rising_once t rising = rises_once 0 t (rising_rises t rising)

  -- What was taken is below the next stamp after a station took a pending frame, too.
  pub took_below : (t : List Entry) (p : Pair) → IsRising i t → Contains (pending (cable_seats i) t) p
      → Each (EndsBelow (next_stamp (t ++ Took p.frame.stamp p.seat.station ∷ []))) (t ++ Took p.frame.stamp p.seat.station ∷ [])
  took_below t p rising there =
      below_step t (Took p.frame.stamp p.seat.station) (record { pair = p; there = there; same = refl }, refl) (rising_below t rising)
