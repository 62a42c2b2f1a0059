-- Stamps.
use Rattle.std.proofs.Common.{◌≡◌, ℕ, suc, ◌+◌, ◌<◌, ◌≤◌, Bool, true, false, cond, not, ◌||◌, ◌==◌, nat_lt, List, [], ◌∷◌, ◌++◌, ◌⊎◌}
use Rattle.std.proofs.Common.{◌∙◌, ap, refl, sym, subst, arith, filter, inl, inr, append_assoc, eqb-true, ne_eqb, lt-ltb, le-ltb}
use Rattle.std.proofs.Common.{ltb-true, ltb-false}
use Rattle.std.specs.List.{list_any, AllByRecursion as Each}
use Rattle.std.proofs.lemmas.Bool.{cases_Bool, false_from_ne_true, or_cases, or_from, or_parts}
use Rattle.cable_model.specs.Holdings.{has_number, holds, holds_of, is_open, releases, was_released}
use Rattle.cable_model.specs.Transcript.{Entry, Holding, Sent, Put, Took, Reached, Dropped, Lost, Hold, AreNumbered, ArePutOnce}
use Rattle.cable_model.specs.Transcript.{HasStamp, above, count, has_put, is_put, next_stamp, one, stamp_after, stamp_from, stamps}
use Rattle.cable_model.proofs.Counting.{count-append, count_any, count_any_none, each-append, each_all, each_more}

-- ---- the next stamp

-- the next stamp after two lists of entries is that after the second, from that after the first
pub stamp_from-append : (n : ℕ) (es fs : List Entry) → stamp_from n (es ++ fs) ≡ stamp_from (stamp_from n es) fs
stamp_from-append n [] fs = refl
stamp_from-append n (e ∷ es) fs = stamp_from-append (stamp_after n e) es fs

-- a further entry changes the next stamp alone
pub next_after : (t : List Entry) (e : Entry) → next_stamp (t ++ e ∷ []) ≡ stamp_after (next_stamp t) e
next_after t e = stamp_from-append 0 t (e ∷ [])

-- the next stamp doesn't fall
pub above_more : (n k : ℕ) → n ≤ above n k
above_more n k =
    elim (cases_Bool (nat_lt k n)) as (λ _. n ≤ above n k) [
      | inl less ↦ let e = ap (λ b. cond b n (suc k)) less in omega (arith, e)
      | inr more ↦ let e = ap (λ b. cond b n (suc k)) more in let le = ltb-false k n more in omega (arith, e, le)
    ]

-- the next stamp is greater than that of the entry
pub above_this : (n k : ℕ) → k < above n k
above_this n k =
    elim (cases_Bool (nat_lt k n)) as (λ _. k < above n k) [
      | inl less ↦ let e = ap (λ b. cond b n (suc k)) less in let lt = ltb-true k n less in omega (arith, e, lt)
      | inr more ↦ let e = ap (λ b. cond b n (suc k)) more in omega (arith, e)
    ]

-- an entry with a smaller stamp changes nothing
pub above_same : (n k : ℕ) → k < n → above n k ≡ n
above_same n k lt = ap (λ b. cond b n (suc k)) (lt-ltb k n lt)

-- an entry with the next stamp adds one
pub above_next : (n : ℕ) → above n n ≡ suc n
above_next n = ap (λ b. cond b n (suc n)) (le-ltb n n (omega arith))

-- an entry doesn't make the next stamp smaller
after_more : (n : ℕ) (e : Entry) → n ≤ stamp_after n e
after_more n (Put f) = above_more n f.stamp
after_more n (Hold d) = above_more n d.stamp
after_more n (Sent s b) = omega arith
after_more n (Took p s) = omega arith
after_more n (Reached c s w b) = omega arith
after_more n (Dropped r c b) = omega arith
after_more n (Lost p) = omega arith

-- entries don't make the next stamp smaller
pub stamp_from_more : (n : ℕ) (es : List Entry) → n ≤ stamp_from n es
stamp_from_more n [] = omega arith
stamp_from_more n (e ∷ es) =
    let this = after_more n e in
    let rest = stamp_from_more (stamp_after n e) es in
    omega (arith, this, rest)

-- the stamp of a frame is below the stamp after its entry
this_below : (n stamp : ℕ) (e : Entry) → has_put stamp e ≡ true → stamp < stamp_after n e
this_below n stamp (Put f) h =
    let same = eqb-true stamp f.stamp h in
    let lt = above_this n f.stamp in
    omega (arith, same, lt)
this_below n stamp (Hold d) h = cc
this_below n stamp (Sent s b) h = cc
this_below n stamp (Took p s) h = cc
this_below n stamp (Reached c s w b) h = cc
this_below n stamp (Dropped r c b) h = cc
this_below n stamp (Lost p) h = cc

-- the stamps of frames are below the stamp after them
put_from : (n stamp : ℕ) (es : List Entry) → list_any (has_put stamp) es ≡ true → stamp < stamp_from n es
put_from n stamp [] h = cc
put_from n stamp (e ∷ es) h =
    elim (or_cases (has_put stamp e) (list_any (has_put stamp) es) h) as (λ _. stamp < stamp_from (stamp_after n e) es) [
      | inl this ↦
          let lt = this_below n stamp e this in
          let le = stamp_from_more (stamp_after n e) es in
          omega (arith, lt, le)
      | inr later ↦ put_from (stamp_after n e) stamp es later
    ]

-- the stamp of a frame is below the next stamp
pub put_below : (t : List Entry) (stamp : ℕ) → list_any (has_put stamp) t ≡ true → stamp < next_stamp t
put_below t stamp h = put_from 0 stamp t h

-- no frame has the next stamp
pub not_put_yet : (t : List Entry) → list_any (has_put (next_stamp t)) t ≡ false
not_put_yet t =
    false_from_ne_true (list_any (has_put (next_stamp t)) t)
    (λ h. let lt = put_below t (next_stamp t) h in absurd (omega (arith, lt)))

-- ---- held datagrams

-- the datagrams that two lists of entries hold are those of the first, and then those of the second
pub holds-append : (es fs : List Entry) → holds (es ++ fs) ≡ holds es ++ holds fs
holds-append [] fs = refl
holds-append (e ∷ es) fs =
    ap (λ l. holds_of e ++ l) (holds-append es fs) ∙ sym (append_assoc (holds_of e) (holds es) (holds fs))

-- the stamps of held datagrams are below the stamp after them
held_from : (n : ℕ) (es : List Entry) → Each (λ h. h.stamp < stamp_from n es) (holds es)
held_from n [] = tt
held_from n (e ∷ es) =
    each-append (λ h. h.stamp < stamp_from (stamp_after n e) es) (holds_of e) (holds es) (here e) (held_from (stamp_after n e) es)
  where
    here : (e : Entry) → Each (λ h. h.stamp < stamp_from (stamp_after n e) es) (holds_of e)
    here (Hold d) =
        let lt = above_this n d.stamp in
        let le = stamp_from_more (above n d.stamp) es in
        (omega (arith, lt, le), tt)
    here (Put f) = tt
    here (Sent s b) = tt
    here (Took p s) = tt
    here (Reached c s w b) = tt
    here (Dropped r c b) = tt
    here (Lost p) = tt

-- the stamp of each datagram that was held is below the next stamp
pub held_below : (t : List Entry) → Each (λ h. h.stamp < next_stamp t) (holds t)
held_below t = held_from 0 t

-- one of the held datagrams that pass a test has the stamp
open_among : (test : Holding → Bool) (stamp : ℕ) (P : ℕ → Type 0) (hs : List Holding)
    → Each (λ h. test h ≡ true → P h.stamp) hs → list_any (has_number stamp) (filter test hs) ≡ true → P stamp
open_among test stamp P [] each h = cc
open_among test stamp P (d ∷ hs) each h = by (open_among test stamp P hs each.1) (cases_Bool (test d))
  where
    by : (list_any (has_number stamp) (filter test hs) ≡ true → P stamp) → (test d ≡ true) ⊎ (test d ≡ false) → P stamp
    by rest (inl kept) =
        let q : (has_number stamp d || list_any (has_number stamp) (filter test hs)) ≡ true =
        ap (λ b. list_any (has_number stamp) (cond b (d ∷ filter test hs) (filter test hs))) (sym kept) ∙ h in
        elim (or_cases (has_number stamp d) (list_any (has_number stamp) (filter test hs)) q) as (λ _. P stamp) [
          | inl this ↦ subst P (sym (eqb-true stamp d.stamp this)) (each.0 kept)
          | inr later ↦ rest later
        ]
    by rest (inr gone) =
        rest (ap (λ b. list_any (has_number stamp) (cond b (d ∷ filter test hs) (filter test hs))) (sym gone) ∙ h)

-- the stamp of a datagram that is still held is below the next stamp
pub open_below : (t : List Entry) (stamp : ℕ) → is_open t stamp ≡ true → stamp < next_stamp t
open_below t stamp h =
    open_among (λ d. not (was_released t d)) stamp (λ n. n < next_stamp t) (holds t)
    (each_more (λ d. d.stamp < next_stamp t) (λ d. not (was_released t d) ≡ true → d.stamp < next_stamp t) (holds t) (λ d lt _. lt)
    (held_below t)) h

-- no entry ended the holding of a datagram that is still held
pub open_not_lost : (t : List Entry) (stamp : ℕ) → is_open t stamp ≡ true → list_any (releases stamp) t ≡ false
open_not_lost t stamp h =
    open_among (λ d. not (was_released t d)) stamp (λ n. list_any (releases n) t ≡ false) (holds t)
    (each_all _ (holds t) (λ d. not_true (was_released t d))) h
  where
    not_true : (b : Bool) → not b ≡ true → b ≡ false
    not_true true h = cc
    not_true false h = refl

-- the frame of a datagram that is still held was not put
pub open_not_put : (t : List Entry) (stamp : ℕ) → is_open t stamp ≡ true → list_any (has_put stamp) t ≡ false
open_not_put t stamp h = less t (open_not_lost t stamp h)
  where
    here : (e : Entry) → releases stamp e ≡ false → has_put stamp e ≡ false
    here (Put f) g = g
    here (Hold d) g = refl
    here (Sent s b) g = refl
    here (Took p s) g = refl
    here (Reached c s w b) g = refl
    here (Dropped r c b) g = refl
    here (Lost p) g = refl

    less : (es : List Entry) → list_any (releases stamp) es ≡ false → list_any (has_put stamp) es ≡ false
    less [] g = refl
    less (e ∷ es) g =
        let p = or_parts (releases stamp e) (list_any (releases stamp) es) g in
        or_from (has_put stamp e) (list_any (has_put stamp) es) (here e p.0) (less es p.1)

-- ---- frames with different stamps

-- a frame whose stamp no other frame has keeps the stamps different
pub once_after : (t : List Entry) (e : Entry) → ArePutOnce t
    → ((stamp : ℕ) → has_put stamp e ≡ true → list_any (has_put stamp) t ≡ false) → ArePutOnce (t ++ e ∷ [])
once_after t e once new = λ stamp.
    let sum = count-append (has_put stamp) t (e ∷ []) in
    let le = once stamp in
    elim (cases_Bool (has_put stamp e)) as (λ _. count (has_put stamp) (t ++ e ∷ []) ≤ 1) [
      | inl this ↦
          let n = ap one this in
          let none = count_any_none (has_put stamp) t (new stamp this) in
          omega (arith, sum, n, none)
      | inr other ↦ let n = ap one other in omega (arith, sum, n, le)
    ]

-- where frames are numbered from k on, the next stamp is greater by their number
pub numbered_next : (k : ℕ) (es : List Entry) → AreNumbered k es → stamp_from k es ≡ k + stamps es
numbered_next k [] h = omega arith
numbered_next k (e ∷ es) h =
    let rest = numbered_next (one (is_put e) + k) es h.1 in
    let this = ap (λ n. stamp_from n es) (here e h.0) in
    omega (arith, this, rest)
  where
    here : (e : Entry) → HasStamp k e → stamp_after k e ≡ one (is_put e) + k
    here (Put f) g = let e = ap (above k) g ∙ above_next k in omega (arith, e)
    here (Hold d) g = absurd g
    here (Sent s b) g = omega arith
    here (Took p s) g = omega arith
    here (Reached c s w b) g = omega arith
    here (Dropped r c b) g = omega arith
    here (Lost p) g = omega arith

-- where frames are numbered, the next stamp is their number
pub numbered_stamp : (es : List Entry) → AreNumbered 0 es → next_stamp es ≡ stamps es
numbered_stamp es h = let e = numbered_next 0 es h in omega (arith, e)

-- where frames are numbered from k on, none has a stamp below k
pub none_put : (n k : ℕ) (es : List Entry) → AreNumbered k es → n < k → list_any (has_put n) es ≡ false
none_put n k [] h lt = refl
none_put n k (e ∷ es) h lt =
    or_from (has_put n e) (list_any (has_put n) es) (here e h.0) (none_put n (one (is_put e) + k) es h.1 (omega (arith, lt)))
  where
    here : (e : Entry) → HasStamp k e → has_put n e ≡ false
    here (Put f) g = ne_eqb n f.stamp (λ s. absurd (omega (arith, s, g, lt)))
    here (Hold d) g = absurd g
    here (Sent s b) g = refl
    here (Took p s) g = refl
    here (Reached c s w b) g = refl
    here (Dropped r c b) g = refl
    here (Lost p) g = refl

-- where frames are numbered, no two have the same stamp
pub numbered_once : (k : ℕ) (es : List Entry) → AreNumbered k es → ArePutOnce es
numbered_once k [] h = λ stamp. omega arith
numbered_once k (e ∷ es) h = λ stamp. here stamp e h.0 h.1 (numbered_once (one (is_put e) + k) es h.1 stamp)
  where
    here : (stamp : ℕ) (e : Entry) → HasStamp k e → AreNumbered (one (is_put e) + k) es → count (has_put stamp) es ≤ 1
        → one (has_put stamp e) + count (has_put stamp) es ≤ 1
    here stamp (Put f) g new rest =
        elim (cases_Bool (stamp == f.stamp)) as (λ _. one (stamp == f.stamp) + count (has_put stamp) es ≤ 1) [
          | inl same ↦
              let n = ap one same in
              let s = eqb-true stamp f.stamp same in
              let none = count_any_none (has_put stamp) es (none_put stamp (1 + k) es new (omega (arith, s, g))) in
              omega (arith, n, none)
          | inr other ↦ let n = ap one other in omega (arith, n, rest)
        ]
    here stamp (Hold d) g new rest = absurd g
    here stamp (Sent s b) g new rest = omega (arith, rest)
    here stamp (Took p s) g new rest = omega (arith, rest)
    here stamp (Reached c s w b) g new rest = omega (arith, rest)
    here stamp (Dropped r c b) g new rest = omega (arith, rest)
    here stamp (Lost p) g new rest = omega (arith, rest)

-- where no two frames have the same stamp, none of the first entries do
pub once_front : (es fs : List Entry) → ArePutOnce (es ++ fs) → ArePutOnce es
once_front es fs once = λ stamp.
    let sum = count-append (has_put stamp) es fs in
    let le = once stamp in
    omega (arith, sum, le)

-- where no two frames have the same stamp, one that the first entries put is not put by the last ones
pub once_apart : (stamp : ℕ) (es fs : List Entry) → ArePutOnce (es ++ fs) → list_any (has_put stamp) es ≡ true
    → list_any (has_put stamp) fs ≡ false
once_apart stamp es fs once there =
    false_from_ne_true (list_any (has_put stamp) fs) (λ again.
    let sum = count-append (has_put stamp) es fs in
    let le = once stamp in
    let first = count_any (has_put stamp) es there in
    let second = count_any (has_put stamp) fs again in
    absurd (omega (arith, sum, le, first, second)))
