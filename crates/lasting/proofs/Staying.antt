-- Pending frames stay pending while entries are added that end no pair.
use Rattle.std.proofs.Common.{◌≡◌, ◌⊎◌, inl, inr, ℕ, zero, suc, ◌+◌, ◌≤◌, ◌==◌, Bool, true, false, not, ◌||◌, ◌&&◌, List, [], ◌∷◌, ◌++◌, Some}
use Rattle.std.proofs.Common.{refl, sym, ap, ◌∙◌, subst, append-nil, append_assoc, eqb-true, true≢false, arith}
use Rattle.std.specs.List.{list_any, AllByRecursion as Each}
use Rattle.std.proofs.lemmas.Bool.{and_parts, cases_Bool, not-true}
use Rattle.cable_model.proofs.Counting.{At, any-append, count_at, each-append, each_all, each_at, each_map, filter_at}
use Rattle.cable_model.proofs.Pairs.{pairs-append}
use Rattle.cable_model.proofs.Stamps.{open_not_put}
use Rattle.cable_model.specs.Pending.{Pair, ends, pairs, pairs_of, pending, was_ended}
use Rattle.cable_model.specs.Transcript.{ArePutOnce, Entry, Frame, Sent, Put, Took, Reached, Dropped, Lost, Hold, count, has_put, one}
use Rattle.cable_model.specs.declared.seat.Seat.{Seat}
use Rattle.live_cables.proofs.Pending.{Has, has_kept, put_of_pending}
use Rattle.live_cables.specs.Steps.{are_calm, is_calm}

has_left : {X : Type 0} (xs ys : List X) (k : ℕ) (x : X) → At xs k x → At (xs ++ ys) k x
has_left [] ys k x h = cc
has_left (y ∷ xs) ys zero x h = h
has_left (y ∷ xs) ys (suc k) x h = has_left xs ys k x h

module _ (seats : List Seat) where
  -- a pending pair that the next entry doesn't end
  one_more : (t : List Entry) (e : Entry) (p : Pair) → Has (pending seats t) p → ends p e ≡ false → Has (pending seats (t ++ e ∷ [])) p
  one_more t e p h none =
      let w = filter_at (λ p. not (was_ended t p)) (pairs seats t) h.0 p h.1 in
      let there : Has (pairs seats (t ++ e ∷ [])) p =
      (w.0, subst (λ l. At l w.0 p) (sym (pairs-append seats t (e ∷ []))) (has_left (pairs seats t) (pairs seats (e ∷ [])) w.0 p w.1)) in
      let off : was_ended (t ++ e ∷ []) p ≡ false =
      any-append (ends p) t (e ∷ []) ∙ (ap (λ b. b || (ends p e || false)) (not-true (was_ended t p) w.2) ∙ ap (λ b. b || false) none) in
      has_kept (λ p. not (was_ended (t ++ e ∷ []) p)) (pairs seats (t ++ e ∷ [])) p there (ap not off)

  calm_ends : (t : List Entry) (e : Entry) (p : Pair) → Has (pending seats t) p → is_calm t e ≡ true → ends p e ≡ false
  calm_ends t (Sent s x) p h c = refl
  calm_ends t (Put f) p h c = refl
  calm_ends t (Took q s) p h c = cc
  calm_ends t (Reached a s w x) p h c = refl
  calm_ends t (Dropped r a x) p h c = refl
  calm_ends t (Hold d) p h c = refl
  calm_ends t (Lost stamp) p h c =
      elim (cases_Bool (stamp == p.frame.stamp)) [
        | inr off ↦ off
        | inl on ↦
            let same : stamp ≡ p.frame.stamp = eqb-true stamp p.frame.stamp on in
            let put : list_any (has_put stamp) t ≡ true = subst (λ n. list_any (has_put n) t ≡ true) (sym same) (put_of_pending seats t p h) in
            absurd (true≢false (sym put ∙ open_not_put t stamp c))
      ]

  -- it stays pending
  pub calm_stays : (t es : List Entry) (p : Pair) → Has (pending seats t) p → are_calm t es ≡ true → Has (pending seats (t ++ es)) p
  calm_stays t [] p h c = subst (λ l. Has (pending seats l) p) (sym (append-nil t)) h
  calm_stays t (e ∷ es) p h c =
      let parts = and_parts (is_calm t e) (are_calm (t ++ e ∷ []) es) c in
      subst (λ l. Has (pending seats l) p) (append_assoc t (e ∷ []) es)
      (calm_stays (t ++ e ∷ []) es p (one_more t e p h (calm_ends t e p h parts.0)) parts.1)

  -- where a frame is taken, it is this pair, or it stays pending
  pub take_stays : (t rest : List Entry) (stamp station : ℕ) (p : Pair) → Has (pending seats t) p
      → are_calm (t ++ Took stamp station ∷ []) rest ≡ true
      → ((p.frame.stamp ≡ stamp) × (p.seat.station ≡ station)) ⊎ Has (pending seats (t ++ Took stamp station ∷ rest)) p
  take_stays t rest stamp station p h c =
      elim (cases_Bool (ends p (Took stamp station))) [
        | inl on ↦
            let parts = and_parts (stamp == p.frame.stamp) (station == p.seat.station) on in
            inl (sym (eqb-true _ _ parts.0), sym (eqb-true _ _ parts.1))
        | inr off ↦
            inr (subst (λ l. Has (pending seats l) p) (append_assoc t (Took stamp station ∷ []) rest)
            (calm_stays (t ++ Took stamp station ∷ []) rest p (one_more t (Took stamp station) p h off) c))
      ]

  -- ---- One frame for each stamp

  put_at : (e : Entry) → Each (λ (p : Pair). e ≡ Put p.frame) (pairs_of seats e)
  put_at (Put f) = each_map (λ (p : Pair). Put f ≡ Put p.frame) (λ s. record { frame = f; seat = s }) _ (each_all _ _ (λ s. refl))
  put_at (Sent s x) = tt
  put_at (Took p s) = tt
  put_at (Reached c s w x) = tt
  put_at (Dropped r c x) = tt
  put_at (Lost p) = tt
  put_at (Hold g) = tt

  -- the frame of a pair is that of an entry
  frame_at : (t : List Entry) → Each (λ (p : Pair). (k : ℕ) × At t k (Put p.frame)) (pairs seats t)
  frame_at [] = tt
  frame_at (e ∷ es) =
      each-append (λ (p : Pair). (k : ℕ) × At (e ∷ es) k (Put p.frame)) (pairs_of seats e) (pairs seats es)
      (Rattle.cable_model.proofs.Counting.each_more (λ (p : Pair). e ≡ Put p.frame) (λ (p : Pair). (k : ℕ) × At (e ∷ es) k (Put p.frame)) (pairs_of seats e)
      (λ p is. (zero, ap (λ z. Some z) is)) (put_at e))
      (Rattle.cable_model.proofs.Counting.each_more (λ (p : Pair). (k : ℕ) × At es k (Put p.frame)) (λ (p : Pair). (k : ℕ) × At (e ∷ es) k (Put p.frame)) (pairs seats es)
      (λ p w. (suc w.0, w.1)) (frame_at es))

  pub same_frame : (t : List Entry) (p q : Pair) → ArePutOnce t → Has (pending seats t) p → Has (pending seats t) q
      → p.frame.stamp ≡ q.frame.stamp → p.frame ≡ q.frame
  same_frame t p q once hp hq same =
      let wp = filter_at (λ p. not (was_ended t p)) (pairs seats t) hp.0 p hp.1 in
      let wq = filter_at (λ p. not (was_ended t p)) (pairs seats t) hq.0 q hq.1 in
      let a = each_at (λ (p : Pair). (k : ℕ) × At t k (Put p.frame)) (pairs seats t) wp.0 p wp.1 (frame_at t) in
      let b = each_at (λ (p : Pair). (k : ℕ) × At t k (Put p.frame)) (pairs seats t) wq.0 q wq.1 (frame_at t) in
      by t a.0 b.0 p.frame q.frame a.1 b.1 p.frame.stamp (once p.frame.stamp) refl same
    where
      passes : (f : Frame) (n : ℕ) → f.stamp ≡ n → has_put n (Put f) ≡ true
      passes f n e = Rattle.std.proofs.Common.eq-eqb n f.stamp (sym e)

      by : (t : List Entry) (a b : ℕ) (f g : Frame) → At t a (Put f) → At t b (Put g) → (n : ℕ) → count (has_put n) t ≤ 1 → f.stamp ≡ n → n ≡ g.stamp → f ≡ g
      by [] a b f g ea eb n few e h = cc
      by (x ∷ t) zero zero f g ea eb n few e h = cc
      by (x ∷ t) zero (suc b) f g ea eb n few e h =
          let is : x ≡ Put f = cc in
          let here : one (has_put n x) ≡ 1 = ap one (ap (has_put n) is ∙ passes f n e) in
          let later = count_at (has_put n) t b (Put g) eb (passes g n (sym h)) in
          absurd (omega (arith, few, here, later))
      by (x ∷ t) (suc a) zero f g ea eb n few e h =
          let is : x ≡ Put g = cc in
          let here : one (has_put n x) ≡ 1 = ap one (ap (has_put n) is ∙ passes g n (sym h)) in
          let later = count_at (has_put n) t a (Put f) ea (passes f n e) in
          absurd (omega (arith, few, here, later))
      by (x ∷ t) (suc a) (suc b) f g ea eb n few e h =
          by t a b f g ea eb n (omega (arith, few)) e h
