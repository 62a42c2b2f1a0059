-- Losses change no count, no chain and no pending frame of other frames: so what holds without them holds with them.
use Rattle.std.proofs.Common.{◌≡◌, ℕ, zero, suc, ◌+◌, Bool, true, false, cond, not, ◌||◌, List, [], ◌∷◌, ◌++◌, Contains}
use Rattle.std.proofs.Common.{◌∙◌, Some, append-nil, ap, refl, subst, arith, filter, slice_get}
use Rattle.std.specs.List.{list_any}
use Rattle.std.proofs.lemmas.Bool.{or_parts}
use Rattle.std.proofs.lemmas.Option.{get_or_from_slice_get, slice_get_within}
use Rattle.table_image.specs.Internet.{Internet}
use Rattle.cable_model.specs.declared.seat.Seat.{Seat}
use Rattle.cable_model.specs.Pending.{Pair, ends, pairs, pairs_of, pending, was_ended}
use Rattle.cable_model.specs.Transcript.{Entry, Sent, Put, Took, Reached, Dropped, Lost, Hold, count, one}
use Rattle.cable_model.specs.Transcript.{stamp_after, stamp_from}
use Rattle.cable_model.proofs.Counting.{At, contained_at, filter_at}
use Rattle.legal_runs.specs.Carriage.{AreByHand, AreCarried, AreTakenThere, Chains, Stamped, after}
use Rattle.legal_runs.specs.Losses.{Ends, Handled, Keeps, Loses, Said, WithLosses}
use Rattle.legal_runs.specs.LossyRuns.{Begins, Continues, IsLegalWithLosses, LossyBlock, Loses as LosesOne, Sends, Takes}
use Rattle.legal_runs.specs.Stations.{cable_seats}
use Rattle.legal_runs.proofs.Rising.{GoesOn, IsRising, RisingBlock, SendsOne, Starts, TakesOne}

-- The second entries are the first with losses among them.
pub data Lossy : List Entry → List Entry → Type 0 where
  Empty : Lossy [] []
  Kept : (e : Entry) (es fs : List Entry) → Lossy es fs → Lossy (e ∷ es) (e ∷ fs)
  Gone : (stamp : ℕ) (es fs : List Entry) → Lossy es fs → Lossy es (Lost stamp ∷ fs)

pub lossy-append : (es fs gs hs : List Entry) → Lossy es fs → Lossy gs hs → Lossy (es ++ gs) (fs ++ hs)
lossy-append es fs gs hs Empty l = l
lossy-append es fs gs hs (Kept e xs ys k) l = Kept e (xs ++ gs) (ys ++ hs) (lossy-append xs ys gs hs k l)
lossy-append es fs gs hs (Gone s xs ys k) l = Gone s (xs ++ gs) (ys ++ hs) (lossy-append xs ys gs hs k l)

-- ---- Counts

module _ (test : Entry → Bool) (never : (stamp : ℕ) → test (Lost stamp) ≡ false) where
  -- A test that no loss passes counts as many entries.
  pub lossy_count : (es fs : List Entry) → Lossy es fs → count test fs ≡ count test es
  lossy_count es fs Empty = refl
  lossy_count es fs (Kept e xs ys k) = ap (λ n. one (test e) + n) (lossy_count xs ys k)
  lossy_count es fs (Gone s xs ys k) =
      let none = ap one (never s) in
      let rest = lossy_count xs ys k in
      omega (arith, none, rest)

  -- A test that no loss passes is passed by some entry as before.
  pub lossy_any : (es fs : List Entry) → Lossy es fs → list_any test fs ≡ list_any test es
  lossy_any es fs Empty = refl
  lossy_any es fs (Kept e xs ys k) = ap (λ b. test e || b) (lossy_any xs ys k)
  lossy_any es fs (Gone s xs ys k) = ap (λ b. b || list_any test ys) (never s) ∙ lossy_any xs ys k

-- Losses have no pairs.
pub lossy_pairs : (seats : List Seat) (es fs : List Entry) → Lossy es fs → pairs seats fs ≡ pairs seats es
lossy_pairs seats es fs Empty = refl
lossy_pairs seats es fs (Kept e xs ys k) = ap (λ l. pairs_of seats e ++ l) (lossy_pairs seats xs ys k)
lossy_pairs seats es fs (Gone s xs ys k) = lossy_pairs seats xs ys k

-- Losses leave the next stamp as it is.
lossy_next : (n : ℕ) (es fs : List Entry) → Lossy es fs → stamp_from n fs ≡ stamp_from n es
lossy_next n es fs Empty = refl
lossy_next n es fs (Kept e xs ys k) = lossy_next (stamp_after n e) xs ys k
lossy_next n es fs (Gone s xs ys k) = lossy_next n xs ys k

-- ---- Pending pairs

-- A pair that no entry ended was not ended without the losses either.
lossy_open : (p : Pair) (es fs : List Entry) → Lossy es fs → was_ended fs p ≡ false → was_ended es p ≡ false
lossy_open p es fs Empty h = h
lossy_open p es fs (Kept e xs ys k) h =
    let parts = or_parts (ends p e) (was_ended ys p) h in
    ap (λ b. b || was_ended xs p) parts.0 ∙ lossy_open p xs ys k parts.1
lossy_open p es fs (Gone s xs ys k) h = lossy_open p xs ys k (or_parts (ends p (Lost s)) (was_ended ys p) h).1

-- An element that passes is among those that a filter keeps.
filter_in : {X : Type 0} (t : X → Bool) (xs : List X) (k : ℕ) (x : X) → At xs k x → t x ≡ true → (j : ℕ) × At (filter t xs) j x
filter_in t [] k x e h = cc
filter_in t (y ∷ xs) zero x e h =
    let s : y ≡ x = cc in
    (zero, ap (λ b. slice_get (cond b (y ∷ filter t xs) (filter t xs)) zero) (ap t s ∙ h) ∙ ap Some s)
filter_in t (y ∷ xs) (suc k) x e h =
    let w = filter_in t xs k x e h in
    elim (t y) as (λ b. (j : ℕ) × At (cond b (y ∷ filter t xs) (filter t xs)) j x) [
      | true ↦ (suc w.0, w.1)
      | false ↦ w
    ]

not_true : (b : Bool) → not b ≡ true → b ≡ false
not_true true h = cc
not_true false h = refl

-- A pair that is pending was pending without the losses too.
pub lossy_pending : (seats : List Seat) (es fs : List Entry) (p : Pair) → Lossy es fs → Contains (pending seats fs) p
    → Contains (pending seats es) p
lossy_pending seats es fs p l there =
    let at = contained_at (pending seats fs) p there in
    let w = filter_at (λ q. not (was_ended fs q)) (pairs seats fs) at.0 p at.1 in
    let same = subst (λ ps. At ps w.0 p) (lossy_pairs seats es fs l) w.1 in
    let still = lossy_open p es fs l (not_true (was_ended fs p) w.2) in
    let v = filter_in (λ q. not (was_ended es q)) (pairs seats es) w.0 p same (ap not still) in
    (v.0, slice_get_within (pending seats es) v.0 p v.1, get_or_from_slice_get (pending seats es) v.0 p p v.1)

-- ---- Chains

module _ (i : Internet) where
  pub lossy_carried : (es fs : List Entry) (w : Chains) → Lossy es fs → AreCarried i w es → AreCarried i w fs
  lossy_carried es fs w Empty h = h
  lossy_carried es fs w (Kept e xs ys k) h = (h.0, lossy_carried xs ys (after e w) k h.1)
  lossy_carried es fs w (Gone s xs ys k) h = (tt, lossy_carried xs ys w k h)

  pub lossy_taken_there : (es fs : List Entry) (w : List (Stamped ℕ)) → Lossy es fs → AreTakenThere i w es → AreTakenThere i w fs
  lossy_taken_there es fs w Empty h = h
  lossy_taken_there es fs w (Gone s xs ys k) h = lossy_taken_there xs ys w k h
  lossy_taken_there es fs w (Kept (Put f) xs ys k) h =
      lossy_taken_there xs ys (w ++ record { stamp = f.stamp; value = f.cable } ∷ []) k h
  lossy_taken_there es fs w (Kept (Took p s) xs ys k) h = (h.0, lossy_taken_there xs ys w k h.1)
  lossy_taken_there es fs w (Kept (Sent s b) xs ys k) h = lossy_taken_there xs ys w k h
  lossy_taken_there es fs w (Kept (Reached c s how b) xs ys k) h = lossy_taken_there xs ys w k h
  lossy_taken_there es fs w (Kept (Dropped r cause b) xs ys k) h = lossy_taken_there xs ys w k h
  lossy_taken_there es fs w (Kept (Lost p) xs ys k) h = lossy_taken_there xs ys w k h
  lossy_taken_there es fs w (Kept (Hold d) xs ys k) h = lossy_taken_there xs ys w k h

  pub lossy_by_hand : (es fs : List Entry) (on : Bool) → Lossy es fs → AreByHand i on es → AreByHand i on fs
  lossy_by_hand es fs on Empty h = h
  lossy_by_hand es fs on (Gone s xs ys k) h = lossy_by_hand xs ys on k h
  lossy_by_hand es fs on (Kept (Put f) xs ys k) h = (h.0, lossy_by_hand xs ys on k h.1)
  lossy_by_hand es fs on (Kept (Took p s) xs ys k) h = lossy_by_hand xs ys true k h
  lossy_by_hand es fs on (Kept (Sent s b) xs ys k) h = lossy_by_hand xs ys false k h
  lossy_by_hand es fs on (Kept (Reached c s how b) xs ys k) h = lossy_by_hand xs ys on k h
  lossy_by_hand es fs on (Kept (Dropped r cause b) xs ys k) h = lossy_by_hand xs ys on k h
  lossy_by_hand es fs on (Kept (Lost p) xs ys k) h = lossy_by_hand xs ys on k h
  lossy_by_hand es fs on (Kept (Hold d) xs ys k) h = lossy_by_hand xs ys on k h

  -- ---- Transcripts

  with_lossy : (t es fs : List Entry) → WithLosses i t es fs → Lossy es fs
  with_lossy t es fs (Ends s) = Empty
  with_lossy t es fs (Keeps s e xs ys w) = Kept e xs ys (with_lossy (s ++ e ∷ []) xs ys w)
  with_lossy t es fs (Loses s p xs ys there w) =
      Gone p.frame.stamp xs ys (with_lossy (s ++ Lost p.frame.stamp ∷ []) xs ys w)

  -- A legal transcript without losses, of which this is one with losses.
  pub record Whole (t : List Entry) : Type 0 where
    pub entries : List Entry
    pub lossy : Lossy entries t
    pub rising : IsRising i entries

  whole_more : (front block whole : List Entry) → Lossy whole front → IsRising i whole → LossyBlock i front block
      → Whole (front ++ block)
  whole_more front block whole l rising (Sends leg es fs made own said w) = record {
    entries = whole ++ es;
    lossy = lossy-append whole front es fs l (with_lossy front es fs w);
    rising =
        GoesOn whole es rising
        (SendsOne leg es made own (subst (λ n. Said i n (leg ∷ []) es) (lossy_next 0 whole front l) said));
  }
  whole_more front block whole l rising (Takes p ls es fs there made its answers handled w) = record {
    entries = whole ++ Took p.frame.stamp p.seat.station ∷ es;
    lossy =
        lossy-append whole front (Took p.frame.stamp p.seat.station ∷ es) (Took p.frame.stamp p.seat.station ∷ fs) l
        (Kept (Took p.frame.stamp p.seat.station) es fs (with_lossy (front ++ Took p.frame.stamp p.seat.station ∷ []) es fs w));
    rising =
        GoesOn whole (Took p.frame.stamp p.seat.station ∷ es) rising
        (TakesOne p ls es (lossy_pending (cable_seats i) whole front p l there) made its answers
        (subst (λ n. Handled i n p ls es) (lossy_next 0 whole front l) handled));
  }
  whole_more front block whole l rising (LosesOne p there) = record {
    entries = whole;
    lossy =
        subst (λ es. Lossy es (front ++ Lost p.frame.stamp ∷ [])) (append-nil whole)
        (lossy-append whole front [] (Lost p.frame.stamp ∷ []) l (Gone p.frame.stamp [] [] Empty));
    rising = rising;
  }

  -- Without its losses, a transcript that is legal with losses is legal.
  pub whole_is : (t : List Entry) → IsLegalWithLosses i t → Whole t
  whole_is t Begins = record { entries = []; lossy = Empty; rising = Starts }
  whole_is t (Continues front block legal b) =
      let w = whole_is front legal in whole_more front block w.entries w.lossy w.rising b

  -- ---- Transcripts without losses are legal with losses

  pub all_kept : (t es : List Entry) → WithLosses i t es es
  all_kept t [] = Ends t
  all_kept t (e ∷ es) = Keeps t e es es (all_kept (t ++ e ∷ []) es)

  rising_block : (t block : List Entry) → RisingBlock i t block → LossyBlock i t block
  rising_block t block (SendsOne l es made own said) = Sends l es es made own said (all_kept t es)
  rising_block t block (TakesOne p ls es there made its answers handled) =
      Takes p ls es es there made its answers handled (all_kept (t ++ Took p.frame.stamp p.seat.station ∷ []) es)

  pub rising_with_losses : (t : List Entry) → IsRising i t → IsLegalWithLosses i t
  rising_with_losses t Starts = Begins
  rising_with_losses t (GoesOn front block rising b) =
      Continues front block (rising_with_losses front rising) (rising_block front block b)
