-- Stamps that rise without being consecutive.
use Rattle.std.proofs.Common.{◌≡◌, ℕ, suc, ◌+◌, ◌<◌, ◌≤◌, Bool, true, false, cond, not, ◌&&◌, ◌||◌, ◌==◌, nat_lt, List, []}
use Rattle.std.proofs.Common.{◌∷◌, ◌++◌, ltb-true, ltb-false}
use Rattle.std.proofs.Common.{◌∙◌, ap, refl, sym, subst, arith, inl, inr, ne_eqb, eqb-true}
use Rattle.std.specs.List.{list_any, AllByRecursion as Each}
use Rattle.std.proofs.lemmas.Bool.{cases_Bool, or_from}
use Rattle.cable_model.specs.declared.seat.Seat.{Seat}
use Rattle.cable_model.specs.Pending.{Pair, ends, pairs, pairs_of, pending, was_ended}
use Rattle.cable_model.specs.Transcript.{Entry, Sent, Put, Took, Reached, Dropped, Lost, Hold, AreNumbered, ArePutOnce, HasStamp}
use Rattle.cable_model.specs.Transcript.{above, count, has_put, is_put, one, stamp_after, stamp_from, stamps}
use Rattle.cable_model.proofs.Counting.{any-append, count-append, count_agree, count_any_none, each-append, each_all, each_map}
use Rattle.cable_model.proofs.Counting.{each_more}
use Rattle.cable_model.proofs.Pairs.{EndsBelow, EndsNone, not_ended_yet, pairs-append, pending_is}
use Rattle.cable_model.proofs.Stamps.{above_more, above_next, above_this, numbered_next, stamp_from_more}

-- The frame, if the entry puts one, has a stamp of at least n; and the entry holds no datagram.
abbrev pub IsFrom : ℕ → Entry → Type 0
IsFrom n (Put frame) = n ≤ frame.stamp
IsFrom n (Hold held) = ⊥
IsFrom n (Sent station body) = Unit {0}
IsFrom n (Took stamp station) = Unit {0}
IsFrom n (Reached cable station how body) = Unit {0}
IsFrom n (Dropped router cause body) = Unit {0}
IsFrom n (Lost stamp) = Unit {0}

-- The stamps of the frames are at least n and rise, and no datagram is held.
abbrev pub Rises : ℕ → List Entry → Type 0
Rises n [] = Unit {0}
Rises n (e ∷ es) = IsFrom n e × Rises (stamp_after n e) es

pub rises-append : (n : ℕ) (es fs : List Entry) → Rises n es → Rises (stamp_from n es) fs → Rises n (es ++ fs)
rises-append n [] fs h g = g
rises-append n (e ∷ es) fs h g = (h.0, rises-append (stamp_after n e) es fs h.1 g)

above_less : (n m k : ℕ) → n ≤ m → above n k ≤ above m k
above_less n m k le = by (nat_lt k n) (nat_lt k m) refl refl
  where
    by : (a b : Bool) → nat_lt k n ≡ a → nat_lt k m ≡ b → cond a n (suc k) ≤ cond b m (suc k)
    by true true ea eb = le
    by false false ea eb = omega arith
    by true false ea eb =
        let lt = ltb-true k n ea in
        let no = ltb-false k m eb in
        omega (arith, lt, no, le)
    by false true ea eb = let lt = ltb-true k m eb in omega (arith, lt)

-- From a smaller number, the next stamp is no greater.
pub stamp_from_less : (n m : ℕ) (es : List Entry) → n ≤ m → stamp_from n es ≤ stamp_from m es
stamp_from_less n m [] le = le
stamp_from_less n m (e ∷ es) le = stamp_from_less (stamp_after n e) (stamp_after m e) es (here e)
  where
    here : (e : Entry) → stamp_after n e ≤ stamp_after m e
    here (Put f) = above_less n m f.stamp le
    here (Hold d) = above_less n m d.stamp le
    here (Sent s b) = le
    here (Took p s) = le
    here (Reached c s how b) = le
    here (Dropped r cause b) = le
    here (Lost p) = le

-- The next stamp after entries with consecutive stamps from m on, where it was at most m before.
pub numbered_most : (n m : ℕ) (es : List Entry) → n ≤ m → AreNumbered m es → stamp_from n es ≤ m + stamps es
numbered_most n m es le h =
    let less = stamp_from_less n m es le in
    let next = numbered_next m es h in
    omega (arith, less, next)

-- Stamps that are at least m are at least any smaller number.
pub rises_more : (n m : ℕ) (es : List Entry) → n ≤ m → Rises m es → Rises n es
rises_more n m [] le h = tt
rises_more n m (Put f ∷ es) le h =
    let least = h.0 in
    (omega (arith, le, least), rises_more (above n f.stamp) (above m f.stamp) es (above_less n m f.stamp le) h.1)
rises_more n m (Hold d ∷ es) le h = absurd h.0
rises_more n m (Sent s b ∷ es) le h = (tt, rises_more n m es le h.1)
rises_more n m (Took p s ∷ es) le h = (tt, rises_more n m es le h.1)
rises_more n m (Reached c s how b ∷ es) le h = (tt, rises_more n m es le h.1)
rises_more n m (Dropped r cause b ∷ es) le h = (tt, rises_more n m es le h.1)
rises_more n m (Lost p ∷ es) le h = (tt, rises_more n m es le h.1)

-- Consecutive stamps rise.
pub numbered_rises : (n : ℕ) (es : List Entry) → AreNumbered n es → Rises n es
numbered_rises n [] h = tt
numbered_rises n (e ∷ es) h =
    let w = here e h.0 in (w.0, subst (λ k. Rises k es) (sym w.1) (numbered_rises (one (is_put e) + n) es h.1))
  where
    here : (e : Entry) → HasStamp n e → IsFrom n e × (stamp_after n e ≡ one (is_put e) + n)
    here (Put f) g = let e = ap (above n) g ∙ above_next n in (omega (arith, g), omega (arith, e))
    here (Hold d) g = absurd g
    here (Sent s b) g = (tt, omega arith)
    here (Took p s) g = (tt, omega arith)
    here (Reached c s how b) g = (tt, omega arith)
    here (Dropped r cause b) g = (tt, omega arith)
    here (Lost p) g = (tt, omega arith)

-- Entries with consecutive stamps, followed by others.
pub numbered_then : (n : ℕ) (es fs : List Entry) → AreNumbered n es → Rises (n + stamps es) fs → Rises n (es ++ fs)
numbered_then n es fs h g =
    rises-append n es fs (numbered_rises n es h) (subst (λ k. Rises k fs) (sym (numbered_next n es h)) g)

-- ---- No stamp is used twice

-- No frame has a stamp below n.
none_put : (k n : ℕ) (es : List Entry) → Rises n es → k < n → list_any (has_put k) es ≡ false
none_put k n [] h lt = refl
none_put k n (e ∷ es) h lt =
    or_from (has_put k e) (list_any (has_put k) es) (here e h.0) (none_put k (stamp_after n e) es h.1 (later e))
  where
    here : (e : Entry) → IsFrom n e → has_put k e ≡ false
    here (Put f) g = ne_eqb k f.stamp (λ s. absurd (omega (arith, s, g, lt)))
    here (Hold d) g = absurd g
    here (Sent s b) g = refl
    here (Took p s) g = refl
    here (Reached c s how b) g = refl
    here (Dropped r cause b) g = refl
    here (Lost p) g = refl

    later : (e : Entry) → k < stamp_after n e
    later (Put f) = let more = above_more n f.stamp in omega (arith, more, lt)
    later (Hold d) = let more = above_more n d.stamp in omega (arith, more, lt)
    later (Sent s b) = lt
    later (Took p s) = lt
    later (Reached c s how b) = lt
    later (Dropped r cause b) = lt
    later (Lost p) = lt

-- Where stamps rise, no two frames have the same.
pub rises_once : (n : ℕ) (es : List Entry) → Rises n es → ArePutOnce es
rises_once n [] h = λ stamp. omega arith
rises_once n (e ∷ es) h = λ stamp. here stamp e h.1 (rises_once (stamp_after n e) es h.1 stamp)
  where
    here : (stamp : ℕ) (e : Entry) → Rises (stamp_after n e) es → count (has_put stamp) es ≤ 1
        → one (has_put stamp e) + count (has_put stamp) es ≤ 1
    here stamp (Put f) later rest =
        elim (cases_Bool (stamp == f.stamp)) as (λ _. one (stamp == f.stamp) + count (has_put stamp) es ≤ 1) [
          | inl same ↦
              let n1 = ap one same in
              let s = eqb-true stamp f.stamp same in
              let lt = above_this n f.stamp in
              let none = count_any_none (has_put stamp) es (none_put stamp (above n f.stamp) es later (omega (arith, s, lt))) in
              omega (arith, n1, none)
          | inr other ↦ let n1 = ap one other in omega (arith, n1, rest)
        ]
    here stamp (Hold d) later rest = omega (arith, rest)
    here stamp (Sent s b) later rest = omega (arith, rest)
    here stamp (Took p s) later rest = omega (arith, rest)
    here stamp (Reached c s how b) later rest = omega (arith, rest)
    here stamp (Dropped r cause b) later rest = omega (arith, rest)
    here stamp (Lost p) later rest = omega (arith, rest)

-- ---- Pairs

pub ends_none : (p : Pair) (es : List Entry) → Each EndsNone es → was_ended es p ≡ false
ends_none p [] h = refl
ends_none p (e ∷ es) h = or_from (ends p e) (was_ended es p) (here e h.0) (ends_none p es h.1)
  where
    here : (e : Entry) → EndsNone e → ends p e ≡ false
    here (Put f) g = refl
    here (Sent s b) g = refl
    here (Took q s) g = absurd g
    here (Reached c s how b) g = refl
    here (Dropped r cause b) g = refl
    here (Lost q) g = absurd g
    here (Hold d) g = refl

module _ (seats : List Seat) where
  -- The pairs of entries whose stamps are at least n have such stamps.
  pub pairs_from : (n : ℕ) (es : List Entry) → Rises n es → Each (λ p. n ≤ p.frame.stamp) (pairs seats es)
  pairs_from n [] h = tt
  pairs_from n (e ∷ es) h =
      each-append (λ p. n ≤ p.frame.stamp) (pairs_of seats e) (pairs seats es) (here e h.0)
      (each_more (λ p. stamp_after n e ≤ p.frame.stamp) (λ p. n ≤ p.frame.stamp) (pairs seats es)
      (λ p g. let le = stamp_from_more n (e ∷ []) in omega (arith, le, g)) (pairs_from (stamp_after n e) es h.1))
    where
      here : (e : Entry) → IsFrom n e → Each (λ p. n ≤ p.frame.stamp) (pairs_of seats e)
      here (Put f) g = each_map (λ p. n ≤ p.frame.stamp) (λ s. record { frame = f; seat = s }) _ (each_all _ _ (λ s. g))
      here (Sent s b) g = tt
      here (Took q s) g = tt
      here (Reached c s how b) g = tt
      here (Dropped r cause b) g = tt
      here (Lost q) g = tt
      here (Hold d) g = absurd g

  -- The pairs of a transcript have stamps below the next one.
  pub pairs_below : (n : ℕ) (es : List Entry) → Each (λ p. p.frame.stamp < stamp_from n es) (pairs seats es)
  pairs_below n [] = tt
  pairs_below n (e ∷ es) =
      each-append (λ p. p.frame.stamp < stamp_from (stamp_after n e) es) (pairs_of seats e) (pairs seats es) (here e)
      (pairs_below (stamp_after n e) es)
    where
      here : (e : Entry) → Each (λ p. p.frame.stamp < stamp_from (stamp_after n e) es) (pairs_of seats e)
      here (Put f) =
          let lt = above_this n f.stamp in
          let le = stamp_from_more (above n f.stamp) es in
          each_map (λ p. p.frame.stamp < stamp_from (above n f.stamp) es) (λ s. record { frame = f; seat = s }) _
          (each_all _ _ (λ s. omega (arith, lt, le)))
      here (Sent s b) = tt
      here (Took q s) = tt
      here (Reached c s how b) = tt
      here (Dropped r cause b) = tt
      here (Lost q) = tt
      here (Hold d) = tt

  module _ (one_seat : (cable station : ℕ) → count (λ s. s.cable == cable && s.station == station) seats ≤ 1) where
    -- Entries that end no pair and whose stamps are new add their pairs.
    pub pending_rises : (f : Pair → Bool) (t es : List Entry) (n : ℕ) → Each (EndsBelow n) t → Each EndsNone es → Rises n es
        → count f (pending seats (t ++ es)) ≡ count f (pending seats t) + count f (pairs seats es)
    pending_rises f t es n old plain new =
        let test = λ (l : List Entry) (p : Pair). not (was_ended l p) && f p in
        let split = ap (count (test (t ++ es))) (pairs-append seats t es) in
        let sum = count-append (test (t ++ es)) (pairs seats t) (pairs seats es) in
        let ended : (p : Pair) → was_ended (t ++ es) p ≡ was_ended t p =
        λ p. any-append (ends p) t es ∙ (ap (λ b. was_ended t p || b) (ends_none p es plain) ∙ or_none (was_ended t p)) in
        let same = count_agree (test (t ++ es)) (test t) (pairs seats t) (each_all _ _ (λ p. ap (λ b. not b && f p) (ended p))) in
        let late = count_agree (test (t ++ es)) f (pairs seats es) (each_more (λ p. n ≤ p.frame.stamp)
        (λ p. test (t ++ es) p ≡ f p) (pairs seats es) (λ p le. ap (λ b. not b && f p)
        (ended p ∙ not_ended_yet n t p old le)) (pairs_from n es new)) in
        let whole = pending_is seats one_seat f (t ++ es) in
        let front = pending_is seats one_seat f t in
        omega (arith, whole, front, split, sum, same, late)
      where
        or_none : (b : Bool) → (b || false) ≡ b
        or_none true = refl
        or_none false = refl
