-- What one more entry changes of what is held, and of what stations learnt.
use Rattle.std.proofs.Common.{◌≡◌, inl, inr, ℕ, ◌+◌, ◌<◌, ◌≤◌, Bool, true, false, not, ◌||◌, ◌==◌, cond, if◌then◌else◌}
use Rattle.std.proofs.Common.{List, [], ◌∷◌, ◌++◌, Option, Some, None, append-nil, ap, refl, subst, sym, ◌∙◌, arith, filter}
use Rattle.std.proofs.Common.{eqb-true, eq-eqb, ne_eqb}
use Rattle.std.specs.List.{list_any, AllByRecursion as Each}
use Rattle.std.specs.Option.{option_or}
use Rattle.at_base.specs.declared.address.Addr.{Addr}
use Rattle.at_base.specs.declared.address.Hw.{Hw}
use Rattle.cable_model.specs.Books.{has_took}
use Rattle.cable_model.specs.Holdings.{holds, holds_of, releases, still_held, was_released}
use Rattle.cable_model.specs.Transcript.{Entry, Frame, Holding, Sent, Put, Took, Reached, Dropped, Lost, Hold, count, has_put, next_stamp, one}
use Rattle.cable_model.specs.Transcript.{stamp_after}
use Rattle.cable_model.proofs.Counting.{count-append, count_none, each_all, each_at, each_more}
use Rattle.cable_model.proofs.Left.{each_filter, filter_all, left_step}
use Rattle.cable_model.proofs.Stamps.{above_this, held_below, holds-append, next_after, stamp_from_more}
use Rattle.resolved_runs.specs.Mapped.{answers_for, frame_of, learnt_in, response_on}
use Rattle.resolved_runs.proofs.Elements.{In, kept_in}
use Rattle.resolved_runs.proofs.Never.{any_last, any_same, any_still, same_back}

-- ---- Stamps

-- The datagram was held with this stamp.
abbrev pub numbered : ℕ → Holding → Bool
numbered n h = h.stamp == n

-- What was taken was put; a stamp that is still to come was neither put nor lost; and no two datagrams were held with one.
pub record IsBooked (t : List Entry) : Type 0 where
  pub took : (n : ℕ) → list_any (has_took n) t ≡ true → list_any (has_put n) t ≡ true
  pub free : (n : ℕ) → next_stamp t ≤ n → list_any (releases n) t ≡ false
  pub once : (n : ℕ) → count (numbered n) (holds t) ≤ 1

-- The entry may follow: what is held has a new stamp, what is lost an old one, and what is taken was put.
abbrev pub MayFollow : List Entry → Entry → Type 0
MayFollow t (Hold d) = next_stamp t ≤ d.stamp
MayFollow t (Lost n) = n < next_stamp t
MayFollow t (Took n s) = list_any (has_put n) t ≡ true
MayFollow t (Sent s b) = Unit {0}
MayFollow t (Put f) = Unit {0}
MayFollow t (Reached c s how b) = Unit {0}
MayFollow t (Dropped r c b) = Unit {0}

more_stamps : (t : List Entry) (e : Entry) → next_stamp t ≤ next_stamp (t ++ e ∷ [])
more_stamps t e =
    let same = next_after t e in
    let le = stamp_from_more (next_stamp t) (e ∷ []) in
    omega (arith, same, le)

module _ (t : List Entry) (b : IsBooked t) where
  took_more : (e : Entry) → MayFollow t e → (n : ℕ) → list_any (has_took n) (t ++ e ∷ []) ≡ true → list_any (has_put n) (t ++ e ∷ []) ≡ true
  took_more e may n h = elim (any_last (has_took n) t e h) as (λ _. list_any (has_put n) (t ++ e ∷ []) ≡ true) [
    | inl before ↦ any_still (has_put n) t e (b.took n before)
    | inr now ↦ any_still (has_put n) t e (here e may now)
  ]
    where
      here : (e : Entry) → MayFollow t e → has_took n e ≡ true → list_any (has_put n) t ≡ true
      here (Took k s) may now = subst (λ m. list_any (has_put m) t ≡ true) (sym (eqb-true n k now)) may
      here (Sent s x) may now = cc
      here (Put f) may now = cc
      here (Reached c s how x) may now = cc
      here (Dropped r c x) may now = cc
      here (Lost k) may now = cc
      here (Hold d) may now = cc

  free_more : (e : Entry) → MayFollow t e → (n : ℕ) → next_stamp (t ++ e ∷ []) ≤ n → list_any (releases n) (t ++ e ∷ []) ≡ false
  free_more e may n new =
      let le = more_stamps t e in
      any_same (releases n) t e (here e may (let same = next_after t e in omega (arith, same, new))) ∙ b.free n (omega (arith, le, new))
    where
      here : (e : Entry) → MayFollow t e → stamp_after (next_stamp t) e ≤ n → releases n e ≡ false
      here (Put f) may le = let lt = above_this (next_stamp t) f.stamp in ne_eqb n f.stamp (λ e. absurd (omega (arith, e, lt, le)))
      here (Lost k) may le = ne_eqb n k (λ e. absurd (omega (arith, e, may, le)))
      here (Sent s x) may le = refl
      here (Took k s) may le = refl
      here (Reached c s how x) may le = refl
      here (Dropped r c x) may le = refl
      here (Hold d) may le = refl

  once_more : (e : Entry) → MayFollow t e → (n : ℕ) → count (numbered n) (holds (t ++ e ∷ [])) ≤ 1
  once_more e may n =
      let sum = ap (count (numbered n)) (holds-append t (e ∷ [])) ∙ count-append (numbered n) (holds t) (holds (e ∷ [])) in
      let one_more = by e may (b.once n) in
      omega (arith, sum, one_more)
    where
      by : (e : Entry) → MayFollow t e → count (numbered n) (holds t) ≤ 1
          → count (numbered n) (holds t) + count (numbered n) (holds (e ∷ [])) ≤ 1
      by (Hold d) le few = with_hold (d.stamp == n) refl
        where
          with_hold : (b : Bool) → (d.stamp == n) ≡ b → count (numbered n) (holds t) + (one b + 0) ≤ 1
          with_hold false x = omega (arith, few)
          with_hold true x =
              let same = eqb-true d.stamp n x in
              let none = count_none (numbered n) (holds t)
              (each_more (λ h. h.stamp < next_stamp t) (λ h. numbered n h ≡ false) (holds t)
              (λ h lt. ne_eqb h.stamp n (λ e. absurd (omega (arith, e, lt, same, le)))) (held_below t)) in
              omega (arith, none)
      by (Sent s x) may few = omega (arith, few)
      by (Put f) may few = omega (arith, few)
      by (Took k s) may few = omega (arith, few)
      by (Reached c s how x) may few = omega (arith, few)
      by (Dropped r c x) may few = omega (arith, few)
      by (Lost k) may few = omega (arith, few)

  pub booked : (e : Entry) → MayFollow t e → IsBooked (t ++ e ∷ [])
  booked e may = record { took = took_more e may; free = free_more e may; once = once_more e may }

-- ---- What is still held

-- After an entry that holds nothing.
pub still_after : (t : List Entry) (e : Entry) → holds_of e ≡ []
    → still_held (t ++ e ∷ []) ≡ filter (λ h. not (releases h.stamp e)) (still_held t)
still_after t e none =
    let left : List Holding = filter (λ h. not (releases h.stamp e)) (still_held t) in
    ap (filter (λ h. not (was_released (t ++ e ∷ []) h))) (holds-append t (e ∷ []) ∙ ap (λ l. holds t ++ l) (append-nil (holds_of e)))
    ∙ (left_step (λ (h : Holding). releases h.stamp) (holds t) (holds_of e) t e
    (subst (λ l. Each (λ (q : Holding). (list_any (releases q.stamp) t ≡ false) × (releases q.stamp e ≡ false)) l) (sym none) tt)
    ∙ (ap (λ l. left ++ l) none ∙ append-nil left))

-- After one more is held.
pub still_hold : (t : List Entry) (d : Holding) → list_any (releases d.stamp) t ≡ false
    → still_held (t ++ Hold d ∷ []) ≡ still_held t ++ d ∷ []
still_hold t d free =
    ap (filter (λ h. not (was_released (t ++ Hold d ∷ []) h))) (holds-append t (Hold d ∷ []))
    ∙ (left_step (λ (h : Holding). releases h.stamp) (holds t) (d ∷ []) t (Hold d) ((free, refl), tt)
    ∙ ap (λ l. l ++ d ∷ []) (filter_all (λ (h : Holding). not (releases h.stamp (Hold d))) (still_held t)
    (each_all (λ (h : Holding). not (releases h.stamp (Hold d)) ≡ true) (still_held t) (λ h. refl))))

-- After an entry that ends no holding of those.
pub still_same : (t : List Entry) (e : Entry) → holds_of e ≡ [] → Each (λ h. releases h.stamp e ≡ false) (still_held t)
    → still_held (t ++ e ∷ []) ≡ still_held t
still_same t e none each =
    still_after t e none ∙ filter_all (λ h. not (releases h.stamp e)) (still_held t)
    (each_more (λ h. releases h.stamp e ≡ false) (λ h. not (releases h.stamp e) ≡ true) (still_held t) (λ h x. ap not x) each)

-- After a frame with a new stamp.
pub still_put : (t : List Entry) (f : Frame) → next_stamp t ≤ f.stamp → still_held (t ++ Put f ∷ []) ≡ still_held t
still_put t f new =
    still_same t (Put f) refl
    (each_more (λ (h : Holding). h.stamp < next_stamp t) (λ h. releases h.stamp (Put f) ≡ false) (still_held t)
    (λ h lt. ne_eqb h.stamp f.stamp (λ e. absurd (omega (arith, e, lt, new))))
    (each_filter (λ (h : Holding). h.stamp < next_stamp t) (λ h. not (was_released t h)) (holds t) (held_below t)))

-- The stamp of a datagram that is still held is an old one.
pub still_below : (t : List Entry) (h : Holding) → In (still_held t) h → h.stamp < next_stamp t
still_below t h there =
    let w = (kept_in (λ (g : Holding). not (was_released t g)) (holds t) h there).0 in
    each_at (λ (g : Holding). g.stamp < next_stamp t) (holds t) w.0 h w.1 (held_below t)

-- ---- What was learnt

or_right : (a b : Bool) → b ≡ true → (a || b) ≡ true
or_right true b h = refl
or_right false b h = h

pub or_none : {X : Type 0} (o : Option X) → option_or o None ≡ o
or_none None = refl
or_none (Some x) = refl

pub or_assoc : {X : Type 0} (a b c : Option X) → option_or a (option_or b c) ≡ option_or (option_or a b) c
or_assoc None b c = refl
or_assoc (Some x) b c = refl

frame_there : (n : ℕ) (t : List Entry) → list_any (has_put n) t ≡ true → (f : Frame) × (frame_of n t ≡ Some f)
frame_there n [] h = cc
frame_there n (Put f ∷ es) h = by (f.stamp == n) refl (frame_there n es)
  where
    by : (b : Bool) → (f.stamp == n) ≡ b → (list_any (has_put n) es ≡ true → (g : Frame) × (frame_of n es ≡ Some g))
        → (g : Frame) × (cond b (Some f) (frame_of n es) ≡ Some g)
    by true e rest = (f, refl)
    by false e rest = rest (sym (ap (λ b. b || list_any (has_put n) es) (same_back n f.stamp ∙ e)) ∙ h)
frame_there n (Sent s b ∷ es) h = frame_there n es h
frame_there n (Took k s ∷ es) h = frame_there n es h
frame_there n (Reached c s how b ∷ es) h = frame_there n es h
frame_there n (Dropped r c b ∷ es) h = frame_there n es h
frame_there n (Lost k ∷ es) h = frame_there n es h
frame_there n (Hold d ∷ es) h = frame_there n es h

frame_stays : (n : ℕ) (t : List Entry) (e : Entry) (f : Frame) → frame_of n t ≡ Some f → frame_of n (t ++ e ∷ []) ≡ Some f
frame_stays n [] e f h = cc
frame_stays n (Put g ∷ es) e f h = by (g.stamp == n) (frame_stays n es e f) h
  where
    by : (b : Bool) → (frame_of n es ≡ Some f → frame_of n (es ++ e ∷ []) ≡ Some f) → cond b (Some g) (frame_of n es) ≡ Some f
        → cond b (Some g) (frame_of n (es ++ e ∷ [])) ≡ Some f
    by true rest h = h
    by false rest h = rest h
frame_stays n (Sent s b ∷ es) e f h = frame_stays n es e f h
frame_stays n (Took k s ∷ es) e f h = frame_stays n es e f h
frame_stays n (Reached c s how b ∷ es) e f h = frame_stays n es e f h
frame_stays n (Dropped r c b ∷ es) e f h = frame_stays n es e f h
frame_stays n (Lost k ∷ es) e f h = frame_stays n es e f h
frame_stays n (Hold d ∷ es) e f h = frame_stays n es e f h

-- A frame that was put is the same after further entries.
pub frame_same : (n : ℕ) (t : List Entry) (e : Entry) → list_any (has_put n) t ≡ true → frame_of n (t ++ e ∷ []) ≡ frame_of n t
frame_same n t e h = let w = frame_there n t h in frame_stays n t e w.0 w.1 ∙ sym w.1

-- The entry takes nothing.
abbrev pub IsNoTake : Entry → Type 0
IsNoTake (Took n by) = ⊥
IsNoTake _ = Unit {0}

module _ (s c : ℕ) (a : Addr) where
  -- What a take tells.
  abbrev pub told_by : List Entry → ℕ → ℕ → Option Hw
  told_by t n by = if by == s then answers_for a (response_on c (frame_of n t)) else None

  learnt-append : (t es fs : List Entry) → learnt_in t s c a (es ++ fs) ≡ option_or (learnt_in t s c a es) (learnt_in t s c a fs)
  learnt-append t [] fs = refl
  learnt-append t (Took n by ∷ es) fs =
      ap (option_or (told_by t n by)) (learnt-append t es fs) ∙ or_assoc (told_by t n by) (learnt_in t s c a es) (learnt_in t s c a fs)
  learnt-append t (Sent x b ∷ es) fs = learnt-append t es fs
  learnt-append t (Put f ∷ es) fs = learnt-append t es fs
  learnt-append t (Reached k x how b ∷ es) fs = learnt-append t es fs
  learnt-append t (Dropped r k b ∷ es) fs = learnt-append t es fs
  learnt-append t (Lost k ∷ es) fs = learnt-append t es fs
  learnt-append t (Hold d ∷ es) fs = learnt-append t es fs

  learnt_kept : (t : List Entry) (e : Entry) (es : List Entry)
      → ((n : ℕ) → list_any (has_took n) es ≡ true → list_any (has_put n) t ≡ true)
      → learnt_in (t ++ e ∷ []) s c a es ≡ learnt_in t s c a es
  learnt_kept t e [] put = refl
  learnt_kept t e (Took n by ∷ es) put =
      let here = frame_same n t e (put n (ap (λ b. b || list_any (has_took n) es) (eq-eqb n n refl))) in
      let rest = learnt_kept t e es (λ m h. put m (or_right (m == n) (list_any (has_took m) es) h)) in
      ap (λ o. option_or (if by == s then answers_for a (response_on c o) else None) (learnt_in (t ++ e ∷ []) s c a es)) here
      ∙ ap (option_or (told_by t n by)) rest
  learnt_kept t e (Sent x b ∷ es) put = learnt_kept t e es put
  learnt_kept t e (Put f ∷ es) put = learnt_kept t e es put
  learnt_kept t e (Reached k x how b ∷ es) put = learnt_kept t e es put
  learnt_kept t e (Dropped r k b ∷ es) put = learnt_kept t e es put
  learnt_kept t e (Lost k ∷ es) put = learnt_kept t e es put
  learnt_kept t e (Hold d ∷ es) put = learnt_kept t e es put

  -- Without a take nothing is learnt.
  pub learnt_same : (t : List Entry) (e : Entry) → IsBooked t → IsNoTake e
      → learnt_in (t ++ e ∷ []) s c a (t ++ e ∷ []) ≡ learnt_in t s c a t
  learnt_same t e b calm =
      learnt-append (t ++ e ∷ []) t (e ∷ [])
      ∙ (ap (λ o. option_or o (learnt_in (t ++ e ∷ []) s c a (e ∷ []))) (learnt_kept t e t b.took)
      ∙ (ap (option_or (learnt_in t s c a t)) (nothing e calm) ∙ or_none (learnt_in t s c a t)))
    where
      nothing : (e : Entry) → IsNoTake e → learnt_in (t ++ e ∷ []) s c a (e ∷ []) ≡ None
      nothing (Took n by) calm = absurd calm
      nothing (Sent x b) calm = refl
      nothing (Put f) calm = refl
      nothing (Reached k x how b) calm = refl
      nothing (Dropped r k b) calm = refl
      nothing (Lost k) calm = refl
      nothing (Hold d) calm = refl

  -- What is learnt by a take.
  pub learnt_took : (t : List Entry) (n by : ℕ) → IsBooked t → list_any (has_put n) t ≡ true
      → learnt_in (t ++ Took n by ∷ []) s c a (t ++ Took n by ∷ []) ≡ option_or (learnt_in t s c a t) (told_by t n by)
  learnt_took t n by b put =
      let e : Entry = Took n by in
      learnt-append (t ++ e ∷ []) t (e ∷ [])
      ∙ (ap (λ o. option_or o (option_or (told_by (t ++ e ∷ []) n by) None)) (learnt_kept t e t b.took)
      ∙ ap (option_or (learnt_in t s c a t)) (or_none (told_by (t ++ e ∷ []) n by)
      ∙ ap (λ o. if by == s then answers_for a (response_on c o) else None) (frame_same n t e put)))
