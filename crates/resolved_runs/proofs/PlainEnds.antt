-- What was taken and lost in the plain transcript: what was taken and lost before, but for AARP frames and datagrams for
-- addresses that no station has.
use Rattle.std.proofs.Common.{◌≡◌, ℕ, Bool, true, false, cond, not, ◌||◌, ◌&&◌, ◌==◌, List, [], ◌∷◌, ◌++◌, Option, Some, None, is_some}
use Rattle.std.proofs.Common.{ap, append_assoc, eqb-true, find, refl, subst, sym, ◌∙◌, true≢false}
use Rattle.std.specs.List.{list_any}
use Rattle.std.proofs.lemmas.Bool.{and_left, false_from_ne_true, or_from, or_left, or_parts, or_right}
use Rattle.ddp.specs.Bodies.{target}
use Rattle.table_image.specs.Internet.{Internet}
use Rattle.table_image.specs.Seats.{Seat, seat_at}
use Rattle.station.specs.declared.heard.Kind.{Kind}
use Rattle.station.specs.declared.heard.Kind.TheVariants.{Aarp, Ddp}
use Rattle.cable_model.specs.declared.entry.How.{How}
use Rattle.cable_model.specs.Holdings.{has_number, holds, released_frame}
use Rattle.cable_model.specs.Transcript.{Entry, Frame, Holding, Sent, Put, Took, Reached, Dropped, Lost, Hold}
use Rattle.cable_model.proofs.Counting.{any-append}
use Rattle.legal_runs.specs.Legs.{is_datagram}
use Rattle.legal_runs.specs.LossCounts.{is_lost}
use Rattle.legal_runs.specs.Lookups.{is_taken}
use Rattle.resolved_runs.specs.Mapped.{frame_of}
use Rattle.resolved_runs.specs.Plain.{hold_of, plain, plain_after, plain_entry, plain_hold, plain_how, plain_lost, plain_put, plain_took}
use Rattle.resolved_runs.proofs.Never.{same_back}
use Rattle.resolved_runs.proofs.HeldStamps.{puts_other}

or_false : (b : Bool) → (b || false) ≡ b
or_false true = refl
or_false false = refl

module _ (i : Internet) where
  -- ---- A test that passes no frame, and that doesn't look at how a cable was reached

  module _ (test : Entry → Bool) (no_put : (f : Frame) → test (Put f) ≡ false) (no_hold : (h : Holding) → test (Hold h) ≡ false)
      (same : (c s : ℕ) (a b : How) (d : List ℕ) → test (Reached c s a d) ≡ test (Reached c s b d)) where
    alone : (e : Entry) → list_any test (e ∷ []) ≡ test e
    alone e = or_false (test e)

    for_hold : (h : Holding) (o : Option Seat) → list_any test (plain_hold h o) ≡ false
    for_hold h None = refl
    for_hold h (Some s) =
        alone (Put (released_frame h s.hardware)) ∙ no_put (released_frame h s.hardware)

    for_put : (t : List Entry) (f : Frame) (k : Kind) → list_any test (plain_put t f k) ≡ false
    for_put t f Aarp = refl
    for_put t f Ddp = by (is_some (hold_of f.stamp t))
      where
        by : (b : Bool) → list_any test (cond b [] (Put f ∷ [])) ≡ false
        by true = refl
        by false = alone (Put f) ∙ no_put f

    -- ---- What doesn't pass before doesn't pass in the plain transcript

    less_took : (k s : ℕ) (o : Option Frame) → test (Took k s) ≡ false → list_any test (plain_took k s o) ≡ false
    less_took k s None h = alone (Took k s) ∙ h
    less_took k s (Some f) h =
        elim f.kind as (λ kind. list_any test (plain_took k s (Some (record f { kind = kind }))) ≡ false) [
          | Aarp ↦ refl
          | Ddp ↦ alone (Took k s) ∙ h
        ]

    less_lost : (k : ℕ) (o : Option Holding) → test (Lost k) ≡ false → list_any test (plain_lost i k o) ≡ false
    less_lost k None h = alone (Lost k) ∙ h
    less_lost k (Some d) h = by (is_some (seat_at i d.cable d.next))
      where
        by : (b : Bool) → list_any test (cond b (Lost k ∷ []) []) ≡ false
        by true = alone (Lost k) ∙ h
        by false = refl

    less_entry : (u : List Entry) (e : Entry) → test e ≡ false → list_any test (plain_entry i u e) ≡ false
    less_entry u (Hold d) h = for_hold d (seat_at i d.cable d.next)
    less_entry u (Put f) h = for_put u f f.kind
    less_entry u (Took k s) h = less_took k s (frame_of k u) h
    less_entry u (Lost k) h = less_lost k (hold_of k u) h
    less_entry u (Sent s b) h = alone (Sent s b) ∙ h
    less_entry u (Dropped r c b) h = alone (Dropped r c b) ∙ h
    less_entry u (Reached c s how b) h =
        let other = plain_how how (seat_at i c (target b)) in alone (Reached c s other b) ∙ (same c s other how b ∙ h)

    pub none_after : (u es : List Entry) → list_any test es ≡ false → list_any test (plain_after i u es) ≡ false
    none_after u [] h = refl
    none_after u (e ∷ es) h =
        let p = or_parts (test e) (list_any test es) h in
        any-append test (plain_entry i u e) (plain_after i (u ++ e ∷ []) es)
        ∙ or_from (list_any test (plain_entry i u e)) (list_any test (plain_after i (u ++ e ∷ []) es)) (less_entry u e p.0)
        (none_after (u ++ e ∷ []) es p.1)

    -- ---- A test that passes as before, where no entry is bad

    module _ (bad : Entry → Bool)
        (took : (u : List Entry) → list_any bad u ≡ false → (k s : ℕ) → list_any test (plain_took k s (frame_of k u)) ≡ test (Took k s))
        (lost : (u : List Entry) → list_any bad u ≡ false → (k : ℕ) → list_any test (plain_lost i k (hold_of k u)) ≡ test (Lost k)) where
      one_entry : (u : List Entry) (e : Entry) → list_any bad u ≡ false → list_any test (plain_entry i u e) ≡ test e
      one_entry u (Hold d) good = for_hold d (seat_at i d.cable d.next) ∙ sym (no_hold d)
      one_entry u (Put f) good = for_put u f f.kind ∙ sym (no_put f)
      one_entry u (Took k s) good = took u good k s
      one_entry u (Lost k) good = lost u good k
      one_entry u (Sent s b) good = alone (Sent s b)
      one_entry u (Dropped r c b) good = alone (Dropped r c b)
      one_entry u (Reached c s how b) good =
          let other = plain_how how (seat_at i c (target b)) in alone (Reached c s other b) ∙ same c s other how b

      pub same_after : (u es : List Entry) → list_any bad (u ++ es) ≡ false → list_any test (plain_after i u es) ≡ list_any test es
      same_after u [] good = refl
      same_after u (e ∷ es) good =
          let now = (or_parts (list_any bad u) (list_any bad (e ∷ es)) (sym (any-append bad u (e ∷ es)) ∙ good)).0 in
          let later = subst (λ x. list_any bad x ≡ false) (sym (append_assoc u (e ∷ []) es)) good in
          any-append test (plain_entry i u e) (plain_after i (u ++ e ∷ []) es)
          ∙ (ap (λ b. b || list_any test (plain_after i (u ++ e ∷ []) es)) (one_entry u e now)
          ∙ ap (λ b. test e || b) (same_after (u ++ e ∷ []) es later))

  -- ---- What was taken

  -- The frame with a stamp is an AARP frame only if one was put with it.
  frame_other : (k : ℕ) (u : List Entry) (f : Frame) → frame_of k u ≡ Some f → f.kind ≡ Aarp → list_any (puts_other k) u ≡ true
  frame_other k [] f e kind = cc
  frame_other k (Put g ∷ u) f e kind = by (λ x. frame_other k u f x kind) (g.stamp == k) refl e
    where
      by : (frame_of k u ≡ Some f → list_any (puts_other k) u ≡ true) → (b : Bool) → (g.stamp == k) ≡ b → cond b (Some g) (frame_of k u) ≡ Some f → list_any (puts_other k) (Put g ∷ u) ≡ true
      by rest true h e =
          let s : g ≡ f = cc in
          let other : not (is_datagram g.kind) ≡ true = ap (λ x. not (is_datagram x)) (ap (λ (x : Frame). x.kind) s ∙ kind) in
          or_left (puts_other k (Put g)) (list_any (puts_other k) u)
          (ap (λ b. b && not (is_datagram g.kind)) (same_back k g.stamp ∙ h) ∙ other)
      by rest false h e = or_right (puts_other k (Put g)) (list_any (puts_other k) u) (rest e)
  frame_other k (Sent s b ∷ u) f e kind = frame_other k u f e kind
  frame_other k (Took n s ∷ u) f e kind = frame_other k u f e kind
  frame_other k (Reached c s how b ∷ u) f e kind = frame_other k u f e kind
  frame_other k (Dropped r c b ∷ u) f e kind = frame_other k u f e kind
  frame_other k (Lost n ∷ u) f e kind = frame_other k u f e kind
  frame_other k (Hold d ∷ u) f e kind = frame_other k u f e kind

  module _ (n s : ℕ) where
    took_as : (k x : ℕ) (o : Option Frame) → ((f : Frame) → o ≡ Some f → f.kind ≡ Aarp → (k == n) ≡ false)
        → list_any (is_taken n s) (plain_took k x o) ≡ is_taken n s (Took k x)
    took_as k x None never = or_false (is_taken n s (Took k x))
    took_as k x (Some f) never = by f.kind refl
      where
        by : (kind : Kind) → f.kind ≡ kind
            → list_any (is_taken n s) (plain_took k x (Some (record f { kind = kind }))) ≡ is_taken n s (Took k x)
        by Aarp e = sym (and_left (k == n) (x == s) (never f refl e))
        by Ddp e = or_false (is_taken n s (Took k x))

    never_other : (u : List Entry) → list_any (puts_other n) u ≡ false → (k : ℕ) (f : Frame) → frame_of k u ≡ Some f → f.kind ≡ Aarp
        → (k == n) ≡ false
    never_other u none k f e kind =
        false_from_ne_true (k == n)
        (λ h. true≢false (sym (subst (λ m. list_any (puts_other m) u ≡ true) (eqb-true k n h) (frame_other k u f e kind)) ∙ none))

    none_lost : (k : ℕ) (o : Option Holding) → list_any (is_taken n s) (plain_lost i k o) ≡ false
    none_lost k None = refl
    none_lost k (Some d) = by (is_some (seat_at i d.cable d.next))
      where
        by : (b : Bool) → list_any (is_taken n s) (cond b (Lost k ∷ []) []) ≡ false
        by true = refl
        by false = refl

    -- A frame was taken in the plain transcript as before, unless it is an AARP frame.
    pub taken_plain : (t : List Entry) → list_any (puts_other n) t ≡ false
        → list_any (is_taken n s) (plain i t) ≡ list_any (is_taken n s) t
    taken_plain t none =
        same_after (is_taken n s) (λ f. refl) (λ h. refl) (λ c x a b d. refl) (puts_other n)
        (λ u good k x. took_as k x (frame_of k u) (λ f e kind. never_other u good k f e kind))
        (λ u good k. none_lost k (hold_of k u)) [] t none

    -- A frame that wasn't taken isn't taken in the plain transcript.
    pub not_taken_plain : (t : List Entry) → list_any (is_taken n s) t ≡ false → list_any (is_taken n s) (plain i t) ≡ false
    not_taken_plain t none = none_after (is_taken n s) (λ f. refl) (λ h. refl) (λ c x a b d. refl) [] t none

  -- ---- What was lost

  -- The entry holds a datagram with this stamp for an address that no station has.
  abbrev pub is_lone : ℕ → Entry → Bool
  is_lone n (Hold h) = n == h.stamp && not (is_some (seat_at i h.cable h.next))
  is_lone n _ = false

  hold_lone : (k : ℕ) (u : List Entry) (h : Holding) → hold_of k u ≡ Some h → is_some (seat_at i h.cable h.next) ≡ false
      → list_any (is_lone k) u ≡ true
  hold_lone k [] h e none = cc
  hold_lone k (Hold d ∷ u) h e none = by (λ x. hold_lone k u h x none) (k == d.stamp) refl e
    where
      by : (hold_of k u ≡ Some h → list_any (is_lone k) u ≡ true) → (b : Bool) → (k == d.stamp) ≡ b → cond b (Some d) (find (has_number k) (holds u)) ≡ Some h
          → list_any (is_lone k) (Hold d ∷ u) ≡ true
      by rest true same e =
          let s : d ≡ h = cc in
          let lone : not (is_some (seat_at i d.cable d.next)) ≡ true =
          ap (λ (x : Holding). not (is_some (seat_at i x.cable x.next))) s ∙ ap not none in
          or_left (is_lone k (Hold d)) (list_any (is_lone k) u)
          (ap (λ b. b && not (is_some (seat_at i d.cable d.next))) same ∙ lone)
      by rest false other e = or_right (is_lone k (Hold d)) (list_any (is_lone k) u) (rest e)
  hold_lone k (Put f ∷ u) h e none = hold_lone k u h e none
  hold_lone k (Sent s b ∷ u) h e none = hold_lone k u h e none
  hold_lone k (Took n s ∷ u) h e none = hold_lone k u h e none
  hold_lone k (Reached c s how b ∷ u) h e none = hold_lone k u h e none
  hold_lone k (Dropped r c b ∷ u) h e none = hold_lone k u h e none
  hold_lone k (Lost n ∷ u) h e none = hold_lone k u h e none

  module _ (n : ℕ) where
    lost_as : (k : ℕ) (o : Option Holding)
        → ((h : Holding) → o ≡ Some h → is_some (seat_at i h.cable h.next) ≡ false → (k == n) ≡ false)
        → list_any (is_lost n) (plain_lost i k o) ≡ is_lost n (Lost k)
    lost_as k None never = or_false (k == n)
    lost_as k (Some h) never = by (is_some (seat_at i h.cable h.next)) refl
      where
        by : (b : Bool) → is_some (seat_at i h.cable h.next) ≡ b → list_any (is_lost n) (cond b (Lost k ∷ []) []) ≡ (k == n)
        by true e = or_false (k == n)
        by false e = sym (never h refl e)

    never_lone : (u : List Entry) → list_any (is_lone n) u ≡ false → (k : ℕ) (h : Holding) → hold_of k u ≡ Some h
        → is_some (seat_at i h.cable h.next) ≡ false → (k == n) ≡ false
    never_lone u good k h e none =
        false_from_ne_true (k == n)
        (λ same. true≢false (sym (subst (λ m. list_any (is_lone m) u ≡ true) (eqb-true k n same) (hold_lone k u h e none)) ∙ good))

    took_none : (k s : ℕ) (o : Option Frame) → list_any (is_lost n) (plain_took k s o) ≡ false
    took_none k s None = refl
    took_none k s (Some f) =
        elim f.kind as (λ kind. list_any (is_lost n) (plain_took k s (Some (record f { kind = kind }))) ≡ false) [
          | Aarp ↦ refl
          | Ddp ↦ refl
        ]

    -- A frame was lost in the plain transcript as before, unless no station has its address.
    pub lost_plain : (t : List Entry) → list_any (is_lone n) t ≡ false → list_any (is_lost n) (plain i t) ≡ list_any (is_lost n) t
    lost_plain t none =
        same_after (is_lost n) (λ f. refl) (λ h. refl) (λ c x a b d. refl) (is_lone n)
        (λ u good k x. took_none k x (frame_of k u))
        (λ u good k. lost_as k (hold_of k u) (λ h e lone. never_lone u good k h e lone)) [] t none

    -- What wasn't lost isn't lost in the plain transcript.
    pub not_lost_plain : (t : List Entry) → list_any (is_lost n) t ≡ false → list_any (is_lost n) (plain i t) ≡ false
    not_lost_plain t none = none_after (is_lost n) (λ f. refl) (λ h. refl) (λ c x a b d. refl) [] t none
