-- A frame to one station that was lost was not taken: so what was lost and what is pending are together what would be
-- pending without the losses.
use Rattle.std.proofs.Common.{◌≡◌, ℕ, suc, ◌+◌, ◌≤◌, Bool, true, false, not, ◌&&◌, ◌||◌, ◌==◌, List, [], ◌∷◌, ◌++◌}
use Rattle.std.proofs.Common.{◌∙◌, append-nil, append_assoc, ap, refl, sym, subst, arith, eqb-true, true≢false}
use Rattle.std.specs.List.{list_any, AllByRecursion as Each}
use Rattle.std.proofs.lemmas.Bool.{and_left, and_right, and_parts}
use Rattle.table_image.specs.Internet.{Internet}
use Rattle.audit.specs.Rules.{Passes}
use Rattle.cable_model.specs.declared.seat.Seat.{Seat}
use Rattle.cable_model.specs.Pending.{Pair, pairs, pairs_of, pending, was_ended}
use Rattle.cable_model.specs.Transcript.{ArePutOnce, Entry, Frame, Sent, Put, Took, Reached, Dropped, Lost, Hold, count, next_stamp, one}
use Rattle.cable_model.proofs.Counting.{At, any-append, each-append, each_all, each_map, each_more}
use Rattle.cable_model.proofs.Pairs.{EndsBelow, not_ended_yet, pairs-append, pending_is}
use Rattle.cable_model.proofs.Stamps.{once_front}
use Rattle.legal_runs.specs.Legs.{is_unicast}
use Rattle.legal_runs.specs.LossCounts.{is_lost, was_lost}
use Rattle.legal_runs.specs.Lookups.{is_taken, was_taken}
use Rattle.legal_runs.specs.LossyRuns.{IsLegalWithLosses}
use Rattle.legal_runs.specs.Stations.{cable_seats}
use Rattle.legal_runs.proofs.Alone.{alone}
use Rattle.legal_runs.proofs.Ended.{ended_is, neither}
use Rattle.legal_runs.proofs.InOrder.{AreInOrder, Fits, IsOpen, are_in_order, below_step, opened, stamps_once}
use Rattle.legal_runs.proofs.Lossy.{Lossy, lossy_any, lossy_pairs}
use Rattle.legal_runs.proofs.Seated.{one_seat}

or_nothing : (b : Bool) → (b || (false || false)) ≡ b
or_nothing true = refl
or_nothing false = refl

-- The entry takes no frame and loses none.
abbrev IsMute : Entry → Type 0
IsMute (Took stamp station) = ⊥
IsMute (Lost stamp) = ⊥
IsMute (Put frame) = Unit {0}
IsMute (Sent station body) = Unit {0}
IsMute (Reached cable station how body) = Unit {0}
IsMute (Dropped router cause body) = Unit {0}
IsMute (Hold held) = Unit {0}

-- The pair was not both lost and taken.
abbrev IsApart : List Entry → Pair → Type 0
IsApart t p = is_unicast p.frame.to ≡ true → (was_lost t p && was_taken t p) ≡ false

-- Another entry that neither takes nor loses leaves what was lost and what was taken.
mute_apart : (t : List Entry) (e : Entry) (p : Pair) → IsMute e → IsApart t p → IsApart (t ++ e ∷ []) p
mute_apart t e p mute h single =
    ap (λ b. b && was_taken (t ++ e ∷ []) p)
    (any-append (is_lost p.frame.stamp) t (e ∷ []) ∙ (ap (λ b. was_lost t p || (b || false)) (lost e mute) ∙ or_nothing (was_lost t p)))
    ∙ (ap (λ b. was_lost t p && b)
    (any-append (is_taken p.frame.stamp p.seat.station) t (e ∷ [])
    ∙ (ap (λ b. was_taken t p || (b || false)) (taken e mute) ∙ or_nothing (was_taken t p)))
    ∙ h single)
  where
    lost : (e : Entry) → IsMute e → is_lost p.frame.stamp e ≡ false
    lost (Took q s) m = absurd m
    lost (Lost q) m = absurd m
    lost (Put f) m = refl
    lost (Sent s b) m = refl
    lost (Reached c s how b) m = refl
    lost (Dropped r cause b) m = refl
    lost (Hold d) m = refl

    taken : (e : Entry) → IsMute e → is_taken p.frame.stamp p.seat.station e ≡ false
    taken (Took q s) m = absurd m
    taken (Lost q) m = absurd m
    taken (Put f) m = refl
    taken (Sent s b) m = refl
    taken (Reached c s how b) m = refl
    taken (Dropped r cause b) m = refl
    taken (Hold d) m = refl

module _ (i : Internet) (ok : Passes i) where
  -- The pairs are those before, where the entry puts no frame.
  old_pairs : (t : List Entry) (e : Entry) (P : Pair → Type 0) → pairs_of (cable_seats i) e ≡ [] → Each P (pairs (cable_seats i) t)
      → Each P (pairs (cable_seats i) (t ++ e ∷ []))
  old_pairs t e P none h =
      subst (Each P) (sym (pairs-append (cable_seats i) t (e ∷ []) ∙ (ap (λ l. pairs (cable_seats i) t ++ (l ++ [])) none
      ∙ append-nil (pairs (cable_seats i) t)))) h

  -- No frame to one station was both lost and taken.
  abbrev AreApart : List Entry → Type 0
  AreApart t = Each (IsApart t) (pairs (cable_seats i) t)

  mute_step : (t : List Entry) (e : Entry) → IsMute e → pairs_of (cable_seats i) e ≡ [] → AreApart t → AreApart (t ++ e ∷ [])
  mute_step t e mute none apart =
      old_pairs t e (IsApart (t ++ e ∷ [])) none
      (each_more (IsApart t) (IsApart (t ++ e ∷ [])) (pairs (cable_seats i) t) (λ p h. mute_apart t e p mute h) apart)

  -- A pair that a pending pair has the stamp of was not lost.
  same_lost : (t : List Entry) (p q : Pair) → p.frame.stamp ≡ q.frame.stamp → was_ended t q ≡ false → was_lost t p ≡ false
  same_lost t p q same still = ap (λ s. list_any (is_lost s) t) same ∙ (neither t q still).1

  same_taken : (t : List Entry) (p q : Pair) → p.frame.stamp ≡ q.frame.stamp → p.seat.station ≡ q.seat.station
      → was_ended t q ≡ false → was_taken t p ≡ false
  same_taken t p q same station still =
      ap (λ s. list_any (is_taken s p.seat.station) t) same
      ∙ (ap (λ s. list_any (is_taken q.frame.stamp s) t) station ∙ (neither t q still).0)

  took_apart : (t : List Entry) (p q : Pair) → was_ended t q ≡ false → IsApart t p → IsApart
      (t ++ Took q.frame.stamp q.seat.station ∷ []) p
  took_apart t p q still h single =
      let took = Took q.frame.stamp q.seat.station in
      let this = q.frame.stamp == p.frame.stamp && q.seat.station == p.seat.station in
      ap (λ b. b && was_taken (t ++ took ∷ []) p) (any-append (is_lost p.frame.stamp) t (took ∷ []) ∙ or_nothing (was_lost t p))
      ∙ (ap (λ b. was_lost t p && b) (any-append (is_taken p.frame.stamp p.seat.station) t (took ∷ []))
      ∙ by this refl)
    where
      by : (b : Bool) → (q.frame.stamp == p.frame.stamp && q.seat.station == p.seat.station) ≡ b
          → (was_lost t p && (was_taken t p || (b || false))) ≡ false
      by true e =
          let named = and_parts (q.frame.stamp == p.frame.stamp) (q.seat.station == p.seat.station) e in
          and_left (was_lost t p) _ (same_lost t p q (sym (eqb-true _ _ named.0)) still)
      by false e = ap (λ b. was_lost t p && b) (or_nothing (was_taken t p)) ∙ h single

  lost_apart : (t : List Entry) (j k : ℕ) (p q : Pair) → ArePutOnce t → At (pairs (cable_seats i) t) j p
      → At (pairs (cable_seats i) t) k q → was_ended t q ≡ false → IsApart t p → IsApart (t ++ Lost q.frame.stamp ∷ []) p
  lost_apart t j k p q once ep eq still h single =
      let lost = Lost q.frame.stamp in
      ap (λ b. was_lost (t ++ lost ∷ []) p && b)
      (any-append (is_taken p.frame.stamp p.seat.station) t (lost ∷ []) ∙ or_nothing (was_taken t p))
      ∙ (ap (λ b. b && was_taken t p) (any-append (is_lost p.frame.stamp) t (lost ∷ []))
      ∙ by (q.frame.stamp == p.frame.stamp) refl)
    where
      by : (b : Bool) → (q.frame.stamp == p.frame.stamp) ≡ b → ((was_lost t p || (b || false)) && was_taken t p) ≡ false
      by true e =
          let same : p.frame.stamp ≡ q.frame.stamp = sym (eqb-true _ _ e) in
          and_right (was_lost t p || (true || false)) (was_taken t p)
          (same_taken t p q same (alone i ok t j k p q once ep eq same single) still)
      by false e = ap (λ b. b && was_taken t p) (or_nothing (was_lost t p)) ∙ h single

  -- A property of each element, where the element's place may be used.
  each_placed : {X : Type 0} (P Q : X → Type 0) (xs : List X) → ((k : ℕ) (x : X) → At xs k x → P x → Q x) → Each P xs → Each Q xs
  each_placed P Q [] f h = tt
  each_placed P Q (x ∷ xs) f h = (f 0 x refl h.0, each_placed P Q xs (λ k y at g. f (suc k) y at g) h.1)

  took_step : (t : List Entry) (stamp station : ℕ) (w : IsOpen i t stamp) → w.pair.seat.station ≡ station → AreApart t
      → AreApart (t ++ Took stamp station ∷ [])
  took_step t stamp station w by apart =
      subst (λ n. AreApart (t ++ Took n station ∷ [])) w.same (subst (λ n. AreApart (t ++ Took w.pair.frame.stamp n ∷ [])) by
      (let took = Took w.pair.frame.stamp w.pair.seat.station in
      old_pairs t took (IsApart (t ++ took ∷ [])) refl
      (each_more (IsApart t) (IsApart (t ++ took ∷ [])) (pairs (cable_seats i) t)
      (λ p h. took_apart t p w.pair (opened i t stamp w).still h) apart)))

  lost_step : (t : List Entry) (stamp : ℕ) → ArePutOnce t → IsOpen i t stamp → AreApart t → AreApart (t ++ Lost stamp ∷ [])
  lost_step t stamp once w apart =
      subst (λ n. AreApart (t ++ Lost n ∷ [])) w.same
      (let v = opened i t stamp w in
      let lost = Lost w.pair.frame.stamp in
      old_pairs t lost (IsApart (t ++ lost ∷ [])) refl
      (each_placed (IsApart t) (IsApart (t ++ lost ∷ [])) (pairs (cable_seats i) t)
      (λ k p at h. lost_apart t k v.place p w.pair once at v.at v.still h) apart))

  put_step : (t : List Entry) (f : Frame) → next_stamp t ≤ f.stamp → Each (EndsBelow (next_stamp t)) t → AreApart t
      → AreApart (t ++ Put f ∷ [])
  put_step t f fits below apart =
      let all = pairs-append (cable_seats i) t (Put f ∷ []) in
      let after = t ++ Put f ∷ [] in
      subst (Each (IsApart after)) (sym all)
      (each-append (IsApart after) (pairs (cable_seats i) t) (pairs (cable_seats i) (Put f ∷ []))
      (each_more (IsApart t) (IsApart after) (pairs (cable_seats i) t) (λ p h. mute_apart t (Put f) p tt h) apart)
      (subst (Each (IsApart after)) (sym (append-nil (pairs_of (cable_seats i) (Put f))))
      (each_map (IsApart after) (λ (s : Seat). record { frame = f; seat = s }) _ (each_all _ _ (λ s.
      mute_apart t (Put f) (record { frame = f; seat = s }) tt
      (λ single. and_left (was_lost t (record { frame = f; seat = s })) _
      (neither t (record { frame = f; seat = s }) (not_ended_yet (next_stamp t) t (record { frame = f; seat = s }) below fits)).1))))))

  step : (t : List Entry) (e : Entry) → ArePutOnce t → Fits i t e → Each (EndsBelow (next_stamp t)) t → AreApart t
      → AreApart (t ++ e ∷ [])
  step t (Sent s b) once fits below apart = mute_step t (Sent s b) tt refl apart
  step t (Reached c s how b) once fits below apart = mute_step t (Reached c s how b) tt refl apart
  step t (Dropped r cause b) once fits below apart = mute_step t (Dropped r cause b) tt refl apart
  step t (Hold d) once fits below apart = absurd fits
  step t (Put f) once fits below apart = put_step t f fits below apart
  step t (Took stamp station) once fits below apart = took_step t stamp station fits.0 fits.1 apart
  step t (Lost stamp) once fits below apart = lost_step t stamp once fits apart

  steps : (t es : List Entry) → ArePutOnce (t ++ es) → AreInOrder i t es → Each (EndsBelow (next_stamp t)) t → AreApart t
      → AreApart (t ++ es)
  steps t [] once h below apart = subst AreApart (sym (append-nil t)) apart
  steps t (e ∷ es) once h below apart =
      let same = append_assoc t (e ∷ []) es in
      subst AreApart same
      (steps (t ++ e ∷ []) es (subst ArePutOnce (sym same) once) h.1 (below_step i t e h.0 below)
      (step t e (once_front t (e ∷ es) once) h.0 below apart))

  -- No frame to one station was lost and taken.
  are_apart : (t : List Entry) → IsLegalWithLosses i t → AreApart t
  are_apart t legal = steps [] t (stamps_once i t legal) (are_in_order i t legal) tt tt

  -- ---- What would be pending without losses

  module _ (f : Pair → Bool) (single : (p : Pair) → f p ≡ true → is_unicast p.frame.to ≡ true) where
    -- A pair that would be pending is pending or was lost.
    one_of : (es fs : List Entry) (p : Pair) → Lossy es fs → was_lost es p ≡ false → IsApart fs p
        → one (not (was_ended es p) && f p) ≡ one (not (was_ended fs p) && f p) + one (was_lost fs p && f p)
    one_of es fs p l kept apart =
        let before : was_ended es p ≡ was_taken fs p =
        ended_is es p
        ∙ (ap (λ b. was_taken es p || b) kept
        ∙ (or_false (was_taken es p) ∙ sym (lossy_any (is_taken p.frame.stamp p.seat.station) (λ s. refl) es fs l))) in
        let a = ap (λ b. one (not b && f p)) before in
        let b = ap (λ b. one (not b && f p)) (ended_is fs p) in
        let c = by (was_taken fs p) (was_lost fs p) (f p) (λ e. apart (single p e)) in
        omega (arith, a, b, c)
      where
        or_false : (b : Bool) → (b || false) ≡ b
        or_false true = refl
        or_false false = refl

        by : (taken lost passes : Bool) → (passes ≡ true → (lost && taken) ≡ false)
            → one (not taken && passes) ≡ one (not (taken || lost) && passes) + one (lost && passes)
        by true true true h = absurd (true≢false (h refl))
        by true true false h = refl
        by true false true h = refl
        by true false false h = refl
        by false true true h = refl
        by false true false h = refl
        by false false true h = refl
        by false false false h = refl

    sum_of : (es fs : List Entry) (ps : List Pair) → Lossy es fs → ((p : Pair) → was_lost es p ≡ false) → Each (IsApart fs) ps
        → count (λ p. not (was_ended es p) && f p) ps
        ≡ count (λ p. not (was_ended fs p) && f p) ps + count (λ p. was_lost fs p && f p) ps
    sum_of es fs [] l kept apart = refl
    sum_of es fs (p ∷ ps) l kept apart =
        let this = one_of es fs p l (kept p) apart.0 in
        let rest = sum_of es fs ps l kept apart.1 in
        omega (arith, this, rest)

    -- What would be pending without losses is pending or was lost.
    pub pending_or_lost : (es fs : List Entry) → Lossy es fs → ((p : Pair) → was_lost es p ≡ false) → IsLegalWithLosses i fs
        → count f (pending (cable_seats i) es)
        ≡ count f (pending (cable_seats i) fs) + count (λ p. was_lost fs p && f p) (pairs (cable_seats i) fs)
    pending_or_lost es fs l kept legal =
        let ss = cable_seats i in
        let a = pending_is ss (one_seat i ok) f es in
        let b = pending_is ss (one_seat i ok) f fs in
        let same = ap (count (λ p. not (was_ended es p) && f p)) (lossy_pairs ss es fs l) in
        let c = sum_of es fs (pairs ss fs) l kept (are_apart fs legal) in
        omega (arith, a, b, same, c)
