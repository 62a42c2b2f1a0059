-- Entries that are allowed in parts are allowed as a whole.
use Rattle.std.proofs.Common.{◌≡◌, ℕ, Bool, true, false, not, ◌||◌, ◌==◌, cond, IsTrue, List, [], ◌∷◌}
use Rattle.std.proofs.Common.{◌++◌, refl, sym, ap, ◌∙◌, subst, append-nil, append_assoc, eq-eqb, eqb-true, true≢false}
use Rattle.std.specs.List.{list_any}
use Rattle.std.proofs.lemmas.Bool.{and_parts, false_from_ne_true, not-true}
use Rattle.cable_model.specs.declared.seat.Seat.{Seat}
use Rattle.cable_model.specs.Holdings.{is_open}
use Rattle.cable_model.specs.Outcomes.{is_named}
use Rattle.cable_model.specs.Pending.{Pair, pairs, pending}
use Rattle.cable_model.specs.Transcript.{ArePutOnce, Entry, Sent, Put, Took, Reached, Dropped, Lost, Hold, has_put}
use Rattle.cable_model.proofs.Counting.{any-append}
use Rattle.cable_model.proofs.Stamps.{once_apart, once_front}
use Rattle.live_cables.proofs.Pending.{both, Has, any_has, has_any, none_any, or_first, or_second, pending_before, pending_since}
use Rattle.live_cables.proofs.Pending.{put_of_pending}
use Rattle.live_cables.specs.Playing.{AreDue, IsDueThen, IsPlayed, are_allowed, are_lost, is_in, losses, may_be}

-- ---- Losses

module _ (losing : ℕ → Bool) where
  pub losses-append : (a b : List Entry) → losses losing (a ++ b) ≡ losses losing a ++ losses losing b
  losses-append [] b = refl
  losses-append (Sent s x ∷ a) b = losses-append a b
  losses-append (Took p s ∷ a) b = losses-append a b
  losses-append (Reached c s w x ∷ a) b = losses-append a b
  losses-append (Dropped r c x ∷ a) b = losses-append a b
  losses-append (Lost p ∷ a) b = losses-append a b
  losses-append (Hold d ∷ a) b = losses-append a b
  losses-append (Put f ∷ a) b = by (losing f.cable) (losses-append a b)
    where
      by : (t : Bool) → losses losing (a ++ b) ≡ losses losing a ++ losses losing b
          → cond t (f.stamp ∷ losses losing (a ++ b)) (losses losing (a ++ b))
          ≡ cond t (f.stamp ∷ losses losing a) (losses losing a) ++ losses losing b
      by true h = ap (λ l. f.stamp ∷ l) h
      by false h = h

  -- The frames that are lost were put in these entries.
  pub losses_put : (es : List Entry) (s : ℕ) → is_in (losses losing es) s ≡ true → list_any (has_put s) es ≡ true
  losses_put [] s h = cc
  losses_put (Sent p x ∷ es) s h = losses_put es s h
  losses_put (Took p q ∷ es) s h = losses_put es s h
  losses_put (Reached c p w x ∷ es) s h = losses_put es s h
  losses_put (Dropped r c x ∷ es) s h = losses_put es s h
  losses_put (Lost p ∷ es) s h = losses_put es s h
  losses_put (Hold d ∷ es) s h = losses_put es s h
  losses_put (Put f ∷ es) s h = by (losses_put es s) (losing f.cable) h
    where
      first : (is_in (losses losing es) s ≡ true → list_any (has_put s) es ≡ true) → (b : Bool) → (f.stamp == s) ≡ b
          → (b || is_in (losses losing es) s) ≡ true → ((s == f.stamp) || list_any (has_put s) es) ≡ true
      first rest true e g = or_first (s == f.stamp) (list_any (has_put s) es) (eq-eqb s f.stamp (sym (eqb-true f.stamp s e)))
      first rest false e g = or_second (s == f.stamp) (list_any (has_put s) es) (rest g)

      by : (is_in (losses losing es) s ≡ true → list_any (has_put s) es ≡ true) → (b : Bool)
          → is_in (cond b (f.stamp ∷ losses losing es) (losses losing es)) s ≡ true
          → ((s == f.stamp) || list_any (has_put s) es) ≡ true
      by rest true g = first rest (f.stamp == s) refl g
      by rest false g = or_second (s == f.stamp) (list_any (has_put s) es) (rest g)

-- ---- Entries that are allowed

in_either : (xs ys : List ℕ) (s : ℕ) → is_in xs s ≡ false → is_in ys s ≡ false → is_in (xs ++ ys) s ≡ false
in_either xs ys s x y = any-append (λ n. n == s) xs ys ∙ (ap (λ b. b || is_in ys s) x ∙ y)

in_first : (xs ys : List ℕ) (s : ℕ) → is_in xs s ≡ true → is_in (xs ++ ys) s ≡ true
in_first xs ys s x = any-append (λ n. n == s) xs ys ∙ ap (λ b. b || is_in ys s) x

in_second : (xs ys : List ℕ) (s : ℕ) → is_in ys s ≡ true → is_in (xs ++ ys) s ≡ true
in_second xs ys s y = any-append (λ n. n == s) xs ys ∙ or_second (is_in xs s) (is_in ys s) y

-- Either of the first disjuncts stays.
lost_stays : (a b o : Bool) → (a || o) ≡ true → (a ≡ true → b ≡ true) → (b || o) ≡ true
lost_stays true b o h f = or_first b o (f refl)
lost_stays false b o h f = or_second b o h

not_in : (xs : List ℕ) (s : ℕ) → (is_in xs s ≡ true → ⊥) → is_in xs s ≡ false
not_in xs s f = by (is_in xs s) refl
  where
    by : (b : Bool) → is_in xs s ≡ b → b ≡ false
    by true e = absurd (f e)
    by false e = refl

module _ (seats : List Seat) where
  -- The pair that a take ends.
  taken : (t : List Entry) (stamp station : ℕ) → IsDueThen seats t (Took stamp station)
      → (p : Pair) × Has (pending seats t) p × (stamp ≡ p.frame.stamp)
  taken t stamp station h =
      let w = any_has (is_named stamp station) (pending seats t) h in
      (w.0, w.1, eqb-true _ _ (and_parts (stamp == w.0.frame.stamp) (station == w.0.seat.station) w.2).0)

  -- The earlier entries stay allowed if more frames are lost later.
  first_stay : (t a : List Entry) (xs ys : List ℕ) → AreDue seats t a
      → ((s : ℕ) → is_in ys s ≡ true → list_any (has_put s) (t ++ a) ≡ false) → are_allowed xs t a ≡ true
      → are_allowed (xs ++ ys) t a ≡ true
  first_stay t [] xs ys due later h = refl
  first_stay t (e ∷ a) xs ys due later h =
      let split = sym (append_assoc t (e ∷ []) a) in
      let parts = and_parts (may_be xs t e) (are_allowed xs (t ++ e ∷ []) a) h in
      both (may_be (xs ++ ys) t e) (are_allowed (xs ++ ys) (t ++ e ∷ []) a) (here e due.0 parts.0)
      (first_stay (t ++ e ∷ []) a xs ys due.1 (λ s g. subst (λ l. list_any (has_put s) l ≡ false) split (later s g)) parts.1)
    where
      here : (e : Entry) → IsDueThen seats t e → may_be xs t e ≡ true → may_be (xs ++ ys) t e ≡ true
      here (Sent s x) d m = refl
      here (Put f) d m = refl
      here (Reached c s w x) d m = refl
      here (Dropped r c x) d m = refl
      here (Hold h) d m = refl
      here (Lost p) d m = lost_stays (is_in xs p) (is_in (xs ++ ys) p) (is_open t p) m (in_first xs ys p)
      here (Took stamp station) d m =
          let w = taken t stamp station d in
          let there : list_any (has_put stamp) t ≡ true =
          subst (λ s. list_any (has_put s) t ≡ true) (sym w.2) (put_of_pending seats t w.0 w.1) in
          ap not (in_either xs ys stamp (not-true (is_in xs stamp) m)
          (not_in ys stamp (λ g.
          true≢false (sym (any-append (has_put stamp) t (e ∷ a)
          ∙ or_first (list_any (has_put stamp) t) (list_any (has_put stamp) (e ∷ a)) there) ∙ later stamp g))))

  -- The later entries stay allowed if the frames that were lost before aren't pending.
  later_stay : (t m b : List Entry) (xs ys : List ℕ) → ArePutOnce ((t ++ m) ++ b) → AreDue seats (t ++ m) b
      → ((s : ℕ) → is_in xs s ≡ true → list_any (has_put s) t ≡ true)
      → ((p : Pair) → Has (pending seats t) p → is_in xs p.frame.stamp ≡ true → ⊥)
      → are_allowed ys (t ++ m) b ≡ true → are_allowed (xs ++ ys) (t ++ m) b ≡ true
  later_stay t m [] xs ys n due there gone h = refl
  later_stay t m (e ∷ b) xs ys n due there gone h =
      let split = sym (append_assoc (t ++ m) (e ∷ []) b) in
      let inner = append_assoc t m (e ∷ []) in
      let parts = and_parts (may_be ys (t ++ m) e) (are_allowed ys ((t ++ m) ++ e ∷ []) b) h in
      both (may_be (xs ++ ys) (t ++ m) e) (are_allowed (xs ++ ys) ((t ++ m) ++ e ∷ []) b) (here e due.0 parts.0)
      (subst (λ l. are_allowed (xs ++ ys) l b ≡ true) (sym inner)
      (later_stay t (m ++ e ∷ []) b xs ys (subst (λ l. ArePutOnce (l ++ b)) inner (subst ArePutOnce split n))
      (subst (λ l. AreDue seats l b) inner due.1) there gone (subst (λ l. are_allowed ys l b ≡ true) inner parts.1)))
    where
      here : (e : Entry) → IsDueThen seats (t ++ m) e → may_be ys (t ++ m) e ≡ true → may_be (xs ++ ys) (t ++ m) e ≡ true
      here (Sent s x) d h = refl
      here (Put f) d h = refl
      here (Reached c s w x) d h = refl
      here (Dropped r c x) d h = refl
      here (Hold g) d h = refl
      here (Lost p) d h = lost_stays (is_in ys p) (is_in (xs ++ ys) p) (is_open (t ++ m) p) h (in_second xs ys p)
      here (Took stamp station) d h =
          let w = taken (t ++ m) stamp station d in
          let front = once_front (t ++ m) (e ∷ b) n in
          ap not (in_either xs ys stamp
          (not_in xs stamp (λ g.
          let g2 = subst (λ s. is_in xs s ≡ true) w.2 g in
          gone w.0 (pending_before seats t m w.0 front (there w.0.frame.stamp g2) w.1) g2))
          (not-true (is_in ys stamp) h))

  pub due_append : (t a b : List Entry) → AreDue seats t a → AreDue seats (t ++ a) b → AreDue seats t (a ++ b)
  due_append t [] b h g = subst (λ l. AreDue seats l b) (append-nil t) g
  due_append t (e ∷ a) b h g =
      (h.0, due_append (t ++ e ∷ []) a b h.1 (subst (λ l. AreDue seats l b) (sym (append_assoc t (e ∷ []) a)) g))

-- Entries that are allowed one part after the other are allowed as a whole.
pub allowed_append : (lost : List ℕ) (t a b : List Entry) → are_allowed lost t a ≡ true → are_allowed lost (t ++ a) b ≡ true
    → are_allowed lost t (a ++ b) ≡ true
allowed_append lost t [] b h g = subst (λ l. are_allowed lost l b ≡ true) (append-nil t) g
allowed_append lost t (e ∷ a) b h g =
    let parts = and_parts (may_be lost t e) (are_allowed lost (t ++ e ∷ []) a) h in
    both (may_be lost t e) (are_allowed lost (t ++ e ∷ []) (a ++ b)) parts.0
    (allowed_append lost (t ++ e ∷ []) a b parts.1 (subst (λ l. are_allowed lost l b ≡ true) (sym (append_assoc t (e ∷ []) a)) g))

-- ---- The whole

module _ (seats : List Seat) (losing : ℕ → Bool) where
  -- No frame that was put on a cable that loses frames is pending.
  pub not_pending : (t a : List Entry) → IsTrue (are_lost seats losing t a)
      → (p : Pair) → Has (pending seats (t ++ a)) p → is_in (losses losing a) p.frame.stamp ≡ true → ⊥
  not_pending t a h p g e =
      true≢false (sym (has_any (λ (p : Pair). is_in (losses losing a) p.frame.stamp) (pending seats (t ++ a)) p g e)
      ∙ not-true (list_any (λ (p : Pair). is_in (losses losing a) p.frame.stamp) (pending seats (t ++ a))) h)

  pub are_gone : (t a : List Entry)
      → ((p : Pair) → Has (pending seats (t ++ a)) p → is_in (losses losing a) p.frame.stamp ≡ true → ⊥)
      → IsTrue (are_lost seats losing t a)
  are_gone t a f = ap not (none_any (λ (p : Pair). is_in (losses losing a) p.frame.stamp) (pending seats (t ++ a)) f)

  -- Nothing of a lost frame is pending after further entries that put no frame.
  pub lost_after : (t a b : List Entry) → losses losing b ≡ [] → pairs seats b ≡ [] → IsTrue (are_lost seats losing t a)
      → IsTrue (are_lost seats losing t (a ++ b))
  lost_after t a b no_losses no_pairs lost =
      are_gone t (a ++ b) (λ p g e.
      not_pending t a lost p
      (pending_since seats (t ++ a) b p (λ h. not_empty (pairs seats b) p no_pairs h)
      (subst (λ l. Has (pending seats l) p) (sym (append_assoc t a b)) g))
      (subst (λ l. is_in l p.frame.stamp ≡ true)
      (losses-append losing a b ∙ (ap (λ l. losses losing a ++ l) no_losses ∙ append-nil (losses losing a))) e))
    where
      not_empty : (ps : List Pair) (p : Pair) → ps ≡ [] → Has ps p → ⊥
      not_empty [] p e h = let g = h.1 in cc
      not_empty (q ∷ ps) p e h = cc

  module _ (t a b : List Entry) (once : ArePutOnce ((t ++ a) ++ b)) where
    lost_there : (s : ℕ) → is_in (losses losing a) s ≡ true → list_any (has_put s) (t ++ a) ≡ true
    lost_there s g =
        any-append (has_put s) t a ∙ or_second (list_any (has_put s) t) (list_any (has_put s) a) (losses_put losing a s g)

    lost_later : (s : ℕ) → is_in (losses losing b) s ≡ true → list_any (has_put s) (t ++ a) ≡ false
    lost_later s g =
        false_from_ne_true (list_any (has_put s) (t ++ a))
        (λ h. true≢false (sym (losses_put losing b s g) ∙ once_apart s (t ++ a) b once h))

    pub played_then : IsPlayed seats losing t a → IsTrue (are_lost seats losing t a) → IsPlayed seats losing (t ++ a) b
        → IsPlayed seats losing t (a ++ b)
    played_then x lost y = record {
      due = due_append seats t a b x.due y.due;
      each =
          subst (λ l. IsTrue (are_allowed l t (a ++ b))) (sym (losses-append losing a b))
          (allowed_append (losses losing a ++ losses losing b) t a b
          (first_stay seats t a (losses losing a) (losses losing b) x.due lost_later x.each) later);
    }
      where
        same : (t ++ a) ++ [] ≡ t ++ a
        same = append-nil (t ++ a)

        later : are_allowed (losses losing a ++ losses losing b) (t ++ a) b ≡ true
        later =
            subst (λ l. are_allowed (losses losing a ++ losses losing b) l b ≡ true) same
            (later_stay seats (t ++ a) [] b (losses losing a) (losses losing b) (subst (λ l. ArePutOnce (l ++ b)) (sym same) once)
            (subst (λ l. AreDue seats l b) (sym same) y.due) lost_there (not_pending t a lost)
            (subst (λ l. are_allowed (losses losing b) l b ≡ true) (sym same) y.each))

    pub lost_then : IsTrue (are_lost seats losing t a) → IsTrue (are_lost seats losing (t ++ a) b)
        → IsTrue (are_lost seats losing t (a ++ b))
    lost_then x y =
        are_gone t (a ++ b)
        (λ p g e. split p (subst (λ l. Has (pending seats l) p) (sym (append_assoc t a b)) g) (is_in (losses losing a) p.frame.stamp) refl
        (sym (any-append (λ n. n == p.frame.stamp) (losses losing a) (losses losing b))
        ∙ subst (λ l. is_in l p.frame.stamp ≡ true) (losses-append losing a b) e))
      where
        split : (p : Pair) → Has (pending seats ((t ++ a) ++ b)) p → (c : Bool) → is_in (losses losing a) p.frame.stamp ≡ c
            → (is_in (losses losing a) p.frame.stamp || is_in (losses losing b) p.frame.stamp) ≡ true → ⊥
        split p g true e h =
            not_pending t a x p (pending_before seats (t ++ a) b p once (lost_there p.frame.stamp e) g) e
        split p g false e h =
            not_pending (t ++ a) b y p g (sym (ap (λ c. c || is_in (losses losing b) p.frame.stamp) e) ∙ h)

  pub nothing_played : (t : List Entry) → IsPlayed seats losing t []
  nothing_played t = record { due = tt; each = refl }

  pub nothing_lost : (t : List Entry) → IsTrue (are_lost seats losing t [])
  nothing_lost t = are_gone t [] (λ p g e. true≢false (sym e))
