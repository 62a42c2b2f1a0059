-- A pair was ended if its station took the frame or the frame was lost.
use Rattle.std.proofs.Common.{◌≡◌, ℕ, Bool, true, false, ◌&&◌, ◌||◌, ◌==◌, List, [], ◌∷◌, ◌++◌, append_assoc, refl, subst, sym, ap, ◌∙◌}
use Rattle.std.specs.List.{AllByRecursion as Each}
use Rattle.std.proofs.lemmas.Bool.{or_from, or_parts}
use Rattle.cable_model.specs.Pending.{Pair, ends, was_ended}
use Rattle.cable_model.specs.Transcript.{Entry, Sent, Put, Took, Reached, Dropped, Lost, Hold, next_stamp}
use Rattle.cable_model.proofs.Counting.{any-append}
use Rattle.cable_model.proofs.Pairs.{EndsNone}
use Rattle.table_image.specs.Internet.{Internet}
use Rattle.legal_runs.specs.LossCounts.{is_lost, was_lost}
use Rattle.legal_runs.specs.Lookups.{is_taken, was_taken}
use Rattle.legal_runs.proofs.Rising.{GoesOn, IsRising, RisingBlock, SendsOne, Starts, TakesOne, handled_ends_none, said_ends_none}

-- An entry that ends a pair takes it or loses its frame.
ends_is : (p : Pair) (e : Entry) → ends p e ≡ (is_taken p.frame.stamp p.seat.station e || is_lost p.frame.stamp e)
ends_is p (Took q s) = last (q == p.frame.stamp && s == p.seat.station)
  where
    last : (b : Bool) → b ≡ (b || false)
    last true = refl
    last false = refl
ends_is p (Lost q) = refl
ends_is p (Put f) = refl
ends_is p (Sent s b) = refl
ends_is p (Reached c s how b) = refl
ends_is p (Dropped r cause b) = refl
ends_is p (Hold d) = refl

-- A pair that was ended was taken or lost.
pub ended_is : (t : List Entry) (p : Pair) → was_ended t p ≡ (was_taken t p || was_lost t p)
ended_is [] p = refl
ended_is (e ∷ t) p =
    ap (λ b. b || was_ended t p) (ends_is p e)
    ∙ (ap (λ b. (is_taken p.frame.stamp p.seat.station e || is_lost p.frame.stamp e) || b) (ended_is t p)
    ∙ swap (is_taken p.frame.stamp p.seat.station e) (is_lost p.frame.stamp e) (was_taken t p) (was_lost t p))
  where
    swap : (a b c d : Bool) → ((a || b) || (c || d)) ≡ ((a || c) || (b || d))
    swap true b c d = refl
    swap false true true d = refl
    swap false true false d = refl
    swap false false true d = refl
    swap false false false d = refl

-- A pair that was not ended was neither taken nor lost.
pub neither : (t : List Entry) (p : Pair) → was_ended t p ≡ false → (was_taken t p ≡ false) × (was_lost t p ≡ false)
neither t p still = or_parts (was_taken t p) (was_lost t p) (sym (ended_is t p) ∙ still)

-- Where the frame wasn't lost, a pair was ended if it was taken.
pub taken_alone : (t : List Entry) (p : Pair) → was_lost t p ≡ false → was_ended t p ≡ was_taken t p
taken_alone t p kept = ended_is t p ∙ (ap (λ b. was_taken t p || b) kept ∙ or_false (was_taken t p))
  where
    or_false : (b : Bool) → (b || false) ≡ b
    or_false true = refl
    or_false false = refl

-- Entries that end no pair lose no frame.
pub none_lost : (t es : List Entry) → Each EndsNone es → ((p : Pair) → was_lost t p ≡ false) → (p : Pair) → was_lost (t ++ es) p ≡ false
none_lost t es none kept p =
    any-append (is_lost p.frame.stamp) t es
    ∙ (ap (λ b. b || was_lost es p) (kept p) ∙ not_among es none)
  where
    here : (e : Entry) → EndsNone e → is_lost p.frame.stamp e ≡ false
    here (Put f) g = refl
    here (Sent s b) g = refl
    here (Took q s) g = refl
    here (Reached c s how b) g = refl
    here (Dropped r cause b) g = refl
    here (Lost q) g = absurd g
    here (Hold d) g = refl

    not_among : (es : List Entry) → Each EndsNone es → was_lost es p ≡ false
    not_among [] h = refl
    not_among (e ∷ es) h = or_from (is_lost p.frame.stamp e) (was_lost es p) (here e h.0) (not_among es h.1)

-- A frame that is taken isn't lost.
pub took_none_lost : (t : List Entry) (stamp station : ℕ) → ((p : Pair) → was_lost t p ≡ false) → (p : Pair)
    → was_lost (t ++ Took stamp station ∷ []) p ≡ false
took_none_lost t stamp station kept p =
    any-append (is_lost p.frame.stamp) t (Took stamp station ∷ []) ∙ ap (λ b. b || (false || false)) (kept p)

module _ (i : Internet) where
  block_kept : (t block : List Entry) → RisingBlock i t block → ((p : Pair) → was_lost t p ≡ false) → (p : Pair)
      → was_lost (t ++ block) p ≡ false
  block_kept t block (SendsOne l es made own said) kept p = none_lost t es (said_ends_none i (next_stamp t) (l ∷ []) es said) kept p
  block_kept t block (TakesOne q ls es there made its answers handled) kept p =
      let took = Took q.frame.stamp q.seat.station in
      subst (λ x. was_lost x p ≡ false) (append_assoc t (took ∷ []) es)
      (none_lost (t ++ took ∷ []) es (handled_ends_none i (next_stamp t) q ls es handled)
      (took_none_lost t q.frame.stamp q.seat.station kept) p)

  -- A transcript without losses loses no frame.
  pub rising_kept : (t : List Entry) → IsRising i t → (p : Pair) → was_lost t p ≡ false
  rising_kept t Starts p = refl
  rising_kept t (GoesOn front block rising b) p = block_kept front block b (rising_kept front rising) p
