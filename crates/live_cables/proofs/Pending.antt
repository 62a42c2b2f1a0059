-- Pending pairs after further entries.
use Rattle.std.proofs.Common.{◌≡◌, ◌⊎◌, inl, inr, ℕ, zero, suc, Bool, true, false, not, ◌||◌, ◌==◌, cond}
use Rattle.std.proofs.Common.{List, [], ◌∷◌, ◌++◌}
use Rattle.std.proofs.Common.{ap, eq-eqb, filter, refl, subst, sym, true≢false, ◌&&◌, ◌∙◌}
use Rattle.std.specs.List.{list_any}
use Rattle.std.proofs.lemmas.Bool.{not-true}
use Rattle.cable_model.specs.declared.seat.Seat.{Seat}
use Rattle.cable_model.specs.Pending.{Pair, ends, pairs, pairs_of, pending, was_ended}
use Rattle.cable_model.specs.Transcript.{ArePutOnce, Entry, Sent, Put, Took, Reached, Dropped, Lost, Hold, has_put}
use Rattle.cable_model.proofs.Counting.{At, any-append, each_all, each_at, each_map, filter_at}
use Rattle.cable_model.proofs.Pairs.{pairs-append}
use Rattle.cable_model.proofs.Stamps.{once_apart}

-- ---- Tests and elements

pub both : (a b : Bool) → a ≡ true → b ≡ true → (a && b) ≡ true
both true true x y = refl
both true false x y = cc
both false b x y = cc

-- The list has the element.
abbrev pub Has : {X : Type 0} → List X → X → Type 0
Has xs x = (k : ℕ) × At xs k x

pub any_has : {X : Type 0} (t : X → Bool) (xs : List X) → list_any t xs ≡ true → (x : X) × Has xs x × (t x ≡ true)
any_has t [] h = cc
any_has t (x ∷ xs) h = by t x xs (any_has t xs) (t x) refl h
  where
    by : {X : Type 0} (t : X → Bool) (x : X) (xs : List X)
        → (list_any t xs ≡ true → (y : X) × Has xs y × (t y ≡ true)) → (b : Bool) → t x ≡ b → (b || list_any t xs) ≡ true
        → (y : X) × Has (x ∷ xs) y × (t y ≡ true)
    by t x xs rest true e g = (x, (zero, refl), e)
    by t x xs rest false e g = let r = rest g in (r.0, (suc r.1.0, r.1.1), r.2)

pub has_any : {X : Type 0} (t : X → Bool) (xs : List X) (x : X) → Has xs x → t x ≡ true → list_any t xs ≡ true
has_any t xs x h e = at xs h.0 h.1
  where
    at : (xs : List _) (k : ℕ) → At xs k x → list_any t xs ≡ true
    at [] k a = cc
    at (y ∷ ys) zero a = let s : y ≡ x = cc in ap (λ b. b || list_any t ys) (ap t s ∙ e)
    at (y ∷ ys) (suc k) a = by (t y) (at ys k a)
      where
        by : (b : Bool) → list_any t ys ≡ true → (b || list_any t ys) ≡ true
        by true g = refl
        by false g = g

-- No element passes the test.
pub none_any : {X : Type 0} (t : X → Bool) (xs : List X) → ((x : X) → Has xs x → t x ≡ true → ⊥) → list_any t xs ≡ false
none_any t xs f = by (list_any t xs) refl
  where
    by : (b : Bool) → list_any t xs ≡ b → b ≡ false
    by true e = let h = any_has t xs e in absurd (f h.0 h.1 h.2)
    by false e = refl

pub has_one_of : {X : Type 0} (xs ys : List X) (x : X) → Has (xs ++ ys) x → Has xs x ⊎ Has ys x
has_one_of xs ys x h = at xs h.0 h.1
  where
    at : (xs : List _) (k : ℕ) → At (xs ++ ys) k x → Has xs x ⊎ Has ys x
    at [] k a = inr (k, a)
    at (y ∷ zs) zero a = inl (zero, a)
    at (y ∷ zs) (suc k) a = on (at zs k a)
      where
        on : Has zs x ⊎ Has ys x → Has (y ∷ zs) x ⊎ Has ys x
        on (inl h) = inl (suc h.0, h.1)
        on (inr h) = inr h

pub has_kept : {X : Type 0} (t : X → Bool) (xs : List X) (x : X) → Has xs x → t x ≡ true → Has (filter t xs) x
has_kept t xs x h e = at xs h.0 h.1
  where
    at : (xs : List _) (k : ℕ) → At xs k x → Has (filter t xs) x
    at [] k a = cc
    at (y ∷ ys) zero a =
        let s : y ≡ x = cc in
        subst (λ b. Has (cond b (y ∷ filter t ys) (filter t ys)) x) (sym (ap t s ∙ e)) (zero, a)
    at (y ∷ ys) (suc k) a = by (t y) (at ys k a)
      where
        by : (b : Bool) → Has (filter t ys) x → Has (cond b (y ∷ filter t ys) (filter t ys)) x
        by true g = (suc g.0, g.1)
        by false g = g

-- ---- Pending pairs

pub or_first : (a b : Bool) → a ≡ true → (a || b) ≡ true
or_first true b e = refl
or_first false b e = cc

pub or_second : (a b : Bool) → b ≡ true → (a || b) ≡ true
or_second true b e = refl
or_second false b e = e

either_false : (a b : Bool) → (a || b) ≡ false → (a ≡ false) × (b ≡ false)
either_false true b e = cc
either_false false b e = (refl, e)

module _ (seats : List Seat) where
  -- The frame of a pair was put.
  pub put_of_pair : (es : List Entry) (p : Pair) → Has (pairs seats es) p → list_any (has_put p.frame.stamp) es ≡ true
  put_of_pair [] p h = let g = h.1 in cc
  put_of_pair (e ∷ es) p h = on (has_one_of (pairs_of seats e) (pairs seats es) p h) (put_of_pair es p)
    where
      here : (e : Entry) → Has (pairs_of seats e) p → has_put p.frame.stamp e ≡ true
      here (Put f) g =
          each_at (λ (p : Pair). has_put p.frame.stamp (Put f) ≡ true) (pairs_of seats (Put f)) g.0 p g.1
          (each_map (λ (p : Pair). has_put p.frame.stamp (Put f) ≡ true) (λ s. record { frame = f; seat = s }) _
          (each_all _ _ (λ s. eq-eqb f.stamp f.stamp refl)))
      here (Sent s x) g = let a = g.1 in cc
      here (Took q s) g = let a = g.1 in cc
      here (Reached c s w x) g = let a = g.1 in cc
      here (Dropped r c x) g = let a = g.1 in cc
      here (Lost q) g = let a = g.1 in cc
      here (Hold d) g = let a = g.1 in cc

      on : Has (pairs_of seats e) p ⊎ Has (pairs seats es) p
          → (Has (pairs seats es) p → list_any (has_put p.frame.stamp) es ≡ true)
          → (has_put p.frame.stamp e || list_any (has_put p.frame.stamp) es) ≡ true
      on (inl g) rest = or_first (has_put p.frame.stamp e) (list_any (has_put p.frame.stamp) es) (here e g)
      on (inr g) rest = or_second (has_put p.frame.stamp e) (list_any (has_put p.frame.stamp) es) (rest g)

  -- The frame of a pending pair was put.
  pub put_of_pending : (t : List Entry) (p : Pair) → Has (pending seats t) p → list_any (has_put p.frame.stamp) t ≡ true
  put_of_pending t p h =
      let w = filter_at (λ p. not (was_ended t p)) (pairs seats t) h.0 p h.1 in
      put_of_pair t p (w.0, w.1)

  -- A pair that is pending later and wasn't put since was pending before.
  pub pending_since : (t b : List Entry) (p : Pair) → (Has (pairs seats b) p → ⊥) → Has (pending seats (t ++ b)) p → Has (pending seats t) p
  pending_since t b p new h =
      let w = filter_at (λ p. not (was_ended (t ++ b) p)) (pairs seats (t ++ b)) h.0 p h.1 in
      let ended = either_false (was_ended t p) (was_ended b p) (sym (any-append (ends p) t b) ∙ not-true (was_ended (t ++ b) p) w.2) in
      on (has_one_of (pairs seats t) (pairs seats b) p (w.0, subst (λ l. At l w.0 p) (pairs-append seats t b) w.1)) ended.0
    where
      on : Has (pairs seats t) p ⊎ Has (pairs seats b) p → was_ended t p ≡ false → Has (pending seats t) p
      on (inl g) e = has_kept (λ p. not (was_ended t p)) (pairs seats t) p g (ap not e)
      on (inr g) e = absurd (new g)

  -- A pending pair whose frame was put before was pending before.
  pub pending_before : (t b : List Entry) (p : Pair) → ArePutOnce (t ++ b) → list_any (has_put p.frame.stamp) t ≡ true
      → Has (pending seats (t ++ b)) p → Has (pending seats t) p
  pending_before t b p once there h =
      pending_since t b p (λ g. true≢false (sym (put_of_pair b p g) ∙ once_apart p.frame.stamp t b once there)) h

  -- A frame that is lost isn't pending for any station, whatever follows.
  pub lost_ends : (t b : List Entry) (stamp : ℕ) (p : Pair) → p.frame.stamp ≡ stamp
      → Has (pending seats ((t ++ Lost stamp ∷ []) ++ b)) p → ⊥
  lost_ends t b stamp p e h =
      let whole = (t ++ Lost stamp ∷ []) ++ b in
      let w = filter_at (λ p. not (was_ended whole p)) (pairs seats whole) h.0 p h.1 in
      let first = either_false (was_ended (t ++ Lost stamp ∷ []) p) (was_ended b p)
      (sym (any-append (ends p) (t ++ Lost stamp ∷ []) b) ∙ not-true (was_ended whole p) w.2) in
      let this = either_false (was_ended t p) (was_ended (Lost stamp ∷ []) p)
      (sym (any-append (ends p) t (Lost stamp ∷ [])) ∙ first.0) in
      let s : (stamp == p.frame.stamp) ≡ false = (either_false (stamp == p.frame.stamp) false this.1).0 in
      let y : (stamp == p.frame.stamp) ≡ true = subst (λ n. (n == p.frame.stamp) ≡ true) e (eq-eqb p.frame.stamp p.frame.stamp refl) in
      true≢false (sym y ∙ s)
