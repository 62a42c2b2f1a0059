-- The effect of entries on the pending pairs, on cables where a station has at most one seat.
use Rattle.std.proofs.Common.{Bool, List, [], ap, false, inl, inr, not, refl, sym, true, ℕ, ◌&&◌, ◌++◌, ◌+◌, ◌<◌, ◌||◌, ◌∷◌, ◌≡◌, ◌≤◌}
use Rattle.std.proofs.Common.{◌∙◌, subst, arith, filter, eqb-true, eq-eqb, ne_eqb, ◌==◌, append-nil, append_assoc}
use Rattle.std.specs.List.{AllByRecursion as Each}
use Rattle.std.proofs.lemmas.Bool.{and_parts, and_left, cases_Bool}
use Rattle.cable_model.specs.declared.seat.Seat.{Seat}
pub use Rattle.cable_model.specs.Books.{EndsBelow}
use Rattle.cable_model.specs.Pending.{Pair, ends, is_for, is_heard, pairs, pairs_of, pending, was_ended}
use Rattle.cable_model.specs.Transcript.{Entry, Frame, Sent, Put, Took, Reached, Dropped, Lost, Hold, AreNumbered, ArePutOnce, HasStamp}
use Rattle.cable_model.specs.Transcript.{count, has_put, is_put, one, stamps}
use Rattle.cable_model.proofs.Counting.{At, any-append, count-append, count-filter, count-map, count_agree, count_le, count_none}
use Rattle.cable_model.proofs.Counting.{count_without, each-append, each_all, each_map, each_more, filter_at}

-- ---- stamps

pub numbered-append : (k : ℕ) (es fs : List Entry) → AreNumbered k es → AreNumbered (k + stamps es) fs → AreNumbered k (es ++ fs)
numbered-append k [] fs h g = let e : k + 0 ≡ k = omega arith in subst (λ n. AreNumbered n fs) e g
numbered-append k (e ∷ es) fs h g =
    let same : k + (one (is_put e) + stamps es) ≡ (one (is_put e) + k) + stamps es = omega arith in
    (h.0, numbered-append (one (is_put e) + k) es fs h.1 (subst (λ n. AreNumbered n fs) same g))

-- the entry ends no pair
abbrev pub EndsNone : Entry → Type 0
EndsNone (Took stamp station) = ⊥
EndsNone (Lost stamp) = ⊥
EndsNone _ = Unit {0}

pub none_below : (n : ℕ) (e : Entry) → EndsNone e → EndsBelow n e
none_below n (Put f) h = tt
none_below n (Sent s b) h = tt
none_below n (Took p s) h = absurd h
none_below n (Reached c s w b) h = tt
none_below n (Dropped r c b) h = tt
none_below n (Lost p) h = absurd h
none_below n (Hold d) h = tt

pub below_more : (n m : ℕ) → n ≤ m → (e : Entry) → EndsBelow n e → EndsBelow m e
below_more n m le (Put f) h = tt
below_more n m le (Sent s b) h = tt
below_more n m le (Took p s) h = omega arith
below_more n m le (Reached c s w b) h = tt
below_more n m le (Dropped r c b) h = tt
below_more n m le (Lost p) h = omega arith
below_more n m le (Hold d) h = tt

ends_none : (p : Pair) (e : Entry) → EndsNone e → ends p e ≡ false
ends_none p (Put f) h = refl
ends_none p (Sent s b) h = refl
ends_none p (Took q s) h = absurd h
ends_none p (Reached c s w b) h = refl
ends_none p (Dropped r c b) h = refl
ends_none p (Lost q) h = absurd h
ends_none p (Hold d) h = refl

none_ended : (es : List Entry) (p : Pair) → Each EndsNone es → was_ended es p ≡ false
none_ended [] p h = refl
none_ended (e ∷ es) p h = ap (λ b. b || was_ended es p) (ends_none p e h.0) ∙ none_ended es p h.1

pub not_ended_yet : (n : ℕ) (es : List Entry) (p : Pair) → Each (EndsBelow n) es → n ≤ p.frame.stamp → was_ended es p ≡ false
not_ended_yet n [] p h le = refl
not_ended_yet n (e ∷ es) p h le = ap (λ b. b || was_ended es p) (this_one e h.0) ∙ not_ended_yet n es p h.1 le
  where
    this_one : (e : Entry) → EndsBelow n e → ends p e ≡ false
    this_one (Put f) h = refl
    this_one (Sent s b) h = refl
    this_one (Took q s) h = and_left (q == p.frame.stamp) _ (ne_eqb _ _ (λ e. absurd (omega (arith, e, h, le))))
    this_one (Reached c s w b) h = refl
    this_one (Dropped r c b) h = refl
    this_one (Lost q) h = ne_eqb _ _ (λ e. absurd (omega (arith, e, h, le)))
    this_one (Hold d) h = refl

module _ (seats : List Seat) where
  pub pairs-append : (es fs : List Entry) → pairs seats (es ++ fs) ≡ pairs seats es ++ pairs seats fs
  pairs-append [] fs = refl
  pairs-append (e ∷ es) fs =
      ap (λ l. pairs_of seats e ++ l) (pairs-append es fs) ∙ sym (append_assoc (pairs_of seats e) (pairs seats es) (pairs seats fs))

  -- the pairs of numbered frames have the stamps of those frames
  pub stamps_from : (k : ℕ) (es : List Entry) → AreNumbered k es → Each (λ p. k ≤ p.frame.stamp) (pairs seats es)
  stamps_from k [] h = tt
  stamps_from k (e ∷ es) h =
      each-append (λ p. k ≤ p.frame.stamp) (pairs_of seats e) (pairs seats es) (here e h.0)
      (each_more (λ p. one (is_put e) + k ≤ p.frame.stamp) (λ p. k ≤ p.frame.stamp) (pairs seats es) (λ p g. omega arith)
      (stamps_from (one (is_put e) + k) es h.1))
    where
      here : (e : Entry) → HasStamp k e → Each (λ p. k ≤ p.frame.stamp) (pairs_of seats e)
      here (Put f) g = each_map (λ p. k ≤ p.frame.stamp) (λ s. record { frame = f; seat = s }) _ (each_all _ _ (λ s. omega arith))
      here (Sent s b) g = tt
      here (Took q s) g = tt
      here (Reached c s w b) g = tt
      here (Dropped r c b) g = tt
      here (Lost q) g = tt
      here (Hold d) g = absurd g

  pub stamps_below : (k : ℕ) (es : List Entry) → AreNumbered k es → Each (λ p. p.frame.stamp < k + stamps es) (pairs seats es)
  stamps_below k [] h = tt
  stamps_below k (e ∷ es) h =
      each-append (λ p. p.frame.stamp < k + stamps (e ∷ es)) (pairs_of seats e) (pairs seats es) (here e h.0)
      (each_more (λ p. p.frame.stamp < (one (is_put e) + k) + stamps es) (λ p. p.frame.stamp < k + stamps (e ∷ es)) (pairs seats es)
      (λ p g. omega arith) (stamps_below (one (is_put e) + k) es h.1))
    where
      here : (e : Entry) → HasStamp k e → Each (λ p. p.frame.stamp < k + (one (is_put e) + stamps es)) (pairs_of seats e)
      here (Put f) g =
          each_map (λ p. p.frame.stamp < k + (1 + stamps es)) (λ s. record { frame = f; seat = s }) _ (each_all _ _ (λ s. omega arith))
      here (Sent s b) g = tt
      here (Took q s) g = tt
      here (Reached c s w b) g = tt
      here (Dropped r c b) g = tt
      here (Lost q) g = tt
      here (Hold d) g = absurd g

  -- the pair has this stamp and this station
  abbrev names : ℕ → ℕ → Pair → Bool
  names stamp station p = stamp == p.frame.stamp && station == p.seat.station

  module _ (one_seat : (cable station : ℕ) → count (λ s. s.cable == cable && s.station == station) seats ≤ 1) where
    -- a frame has at most one pair with a station
    one_pair : (stamp station : ℕ) (f : Frame)
        → count (λ s. names stamp station (record { frame = f; seat = s })) (filter (is_heard f) seats) ≤ 1
    one_pair stamp station f =
        let inside = count-filter (λ s. names stamp station (record { frame = f; seat = s })) (is_heard f) seats in
        let few = one_seat f.cable station in
        let le = count_le (λ s. is_heard f s && names stamp station (record { frame = f; seat = s }))
        (λ s. s.cable == f.cable && s.station == station) seats
        (λ s e.
        let a = and_parts (is_heard f s) (names stamp station (record { frame = f; seat = s })) e in
        let b = and_parts (s.cable == f.cable) (is_for f.to f.sender s) a.0 in
        let c = and_parts (stamp == f.stamp) (station == s.station) a.1 in
        ap (λ b. b && s.station == station) b.0 ∙ eq-eqb _ _ (sym (eqb-true _ _ c.1))) in
        omega (arith, inside, few, le)

    -- there are no more pairs with a stamp and a station than frames with that stamp
    few_named : (stamp station : ℕ) (es : List Entry) → count (names stamp station) (pairs seats es) ≤ count (has_put stamp) es
    few_named stamp station [] = omega arith
    few_named stamp station (e ∷ es) =
        here e (count-append (names stamp station) (pairs_of seats e) (pairs seats es)) (few_named stamp station es)
      where
        here : (e : Entry)
            → count (names stamp station) (pairs_of seats e ++ pairs seats es)
            ≡ count (names stamp station) (pairs_of seats e) + count (names stamp station) (pairs seats es)
            → count (names stamp station) (pairs seats es) ≤ count (has_put stamp) es
            → count (names stamp station) (pairs_of seats e ++ pairs seats es) ≤ one (has_put stamp e) + count (has_put stamp) es
        here (Sent s b) sum rest = omega (arith, rest)
        here (Took q s) sum rest = omega (arith, rest)
        here (Reached c s w b) sum rest = omega (arith, rest)
        here (Dropped r c b) sum rest = omega (arith, rest)
        here (Lost q) sum rest = omega (arith, rest)
        here (Hold d) sum rest = omega (arith, rest)
        here (Put f) sum rest =
            let mapped = count-map (names stamp station) (λ s. record { frame = f; seat = s }) (filter (is_heard f) seats) in
            elim (cases_Bool (stamp == f.stamp)) as (λ _. count (names stamp station) (pairs_of seats (Put f) ++ pairs seats es)
            ≤ one (stamp == f.stamp) + count (has_put stamp) es) [
              | inl same ↦
                  let s = ap one same in
                  let few = one_pair stamp station f in
                  omega (arith, sum, mapped, s, few, rest)
              | inr other ↦
                  let none = count_none (λ s. names stamp station (record { frame = f; seat = s })) (filter (is_heard f) seats)
                  (each_all _ _ (λ s. and_left (stamp == f.stamp) _ other)) in
                  omega (arith, sum, mapped, none, rest)
            ]

    -- at most one pair has a given stamp and station
    unique : (stamp station : ℕ) (es : List Entry) → ArePutOnce es → count (names stamp station) (pairs seats es) ≤ 1
    unique stamp station es once =
        let few = few_named stamp station es in
        let le = once stamp in
        omega (arith, few, le)

    -- the count of pending pairs that pass, over all pairs
    pub pending_is : (f : Pair → Bool) (t : List Entry)
        → count f (pending seats t) ≡ count (λ p. not (was_ended t p) && f p) (pairs seats t)
    pending_is f t = count-filter f (λ p. not (was_ended t p)) (pairs seats t)

    -- entries that end no pair add their pairs
    pub pending_more : (f : Pair → Bool) (t es : List Entry) → Each (EndsBelow (stamps t)) t → Each EndsNone es → AreNumbered (stamps t) es
        → count f (pending seats (t ++ es)) ≡ count f (pending seats t) + count f (pairs seats es)
    pending_more f t es old plain new =
        let test = λ (l : List Entry) (p : Pair). not (was_ended l p) && f p in
        let split = ap (count (test (t ++ es))) (pairs-append t es) in
        let sum = count-append (test (t ++ es)) (pairs seats t) (pairs seats es) in
        let ended : (p : Pair) → was_ended (t ++ es) p ≡ was_ended t p =
        λ p. any-append (ends p) t es ∙ (ap (λ b. was_ended t p || b) (none_ended es p plain) ∙ or_none (was_ended t p)) in
        let same = count_agree (test (t ++ es)) (test t) (pairs seats t) (each_all _ _ (λ p. ap (λ b. not b && f p) (ended p))) in
        let late = count_agree (test (t ++ es)) f (pairs seats es) (each_more (λ p. stamps t ≤ p.frame.stamp)
        (λ p. test (t ++ es) p ≡ f p) (pairs seats es) (λ p le. ap (λ b. not b && f p)
        (ended p ∙ not_ended_yet (stamps t) t p old le)) (stamps_from (stamps t) es new)) in
        pending_is f (t ++ es)
        ∙ (split
        ∙ (sum
        ∙ (ap (λ n. n + count (test (t ++ es)) (pairs seats es)) (same ∙ sym (pending_is f t)) ∙ ap
        (λ n. count f (pending seats t) + n) late)))
      where
        or_none : (b : Bool) → (b || false) ≡ b
        or_none true = refl
        or_none false = refl

    -- an entry Took of a pending pair ends it, and no other pair
    pub pending_less : (f : Pair → Bool) (t : List Entry) (p : Pair) (k : ℕ) → ArePutOnce t → At (pending seats t) k p
        → count f (pending seats (t ++ Took p.frame.stamp p.seat.station ∷ [])) + one (f p) ≡ count f (pending seats t)
    pending_less f t p k once at =
        let took = Took p.frame.stamp p.seat.station in
        let test = λ (l : List Entry) (q : Pair). not (was_ended l q) && f q in
        let w = filter_at (λ q. not (was_ended t q)) (pairs seats t) k p at in
        let whole = pending_is f (t ++ took ∷ []) in
        let front = pending_is f t in
        let split : pairs seats (t ++ took ∷ []) ≡ pairs seats t = pairs-append t (took ∷ []) ∙ append-nil (pairs seats t) in
        let same = count_agree (test (t ++ took ∷ [])) (λ q. not (names p.frame.stamp p.seat.station q) && test t q) (pairs seats t)
        (each_all _ _ (λ q.
        ap (λ b. not b && f q) (any-append (ends q) t (took ∷ [])) ∙ shuffle (was_ended t q) (names p.frame.stamp p.seat.station q)
        (f q))) in
        let mine : names p.frame.stamp p.seat.station p ≡ true =
        ap (λ b. b && p.seat.station == p.seat.station) (eq-eqb p.frame.stamp _ refl) ∙ eq-eqb p.seat.station _ refl in
        let gone = count_without (names p.frame.stamp p.seat.station) (test t) (pairs seats t) w.0 p
        (unique p.frame.stamp p.seat.station t once) w.1 mine in
        let value = ap one (ap (λ b. b && f p) w.2) in
        let moved = whole ∙ (ap (count (test (t ++ took ∷ []))) split ∙ same) in
        omega (arith, moved, gone, value, front)
      where
        shuffle : (a b c : Bool) → (not (a || (b || false)) && c) ≡ (not b && (not a && c))
        shuffle true true c = refl
        shuffle true false c = refl
        shuffle false true c = refl
        shuffle false false c = refl
