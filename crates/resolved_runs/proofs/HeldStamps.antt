-- What the stamps of a transcript tell: no two frames have the same one, a frame that was put wasn't lost, one that was
-- taken was put, and no two datagrams were held with the same one.
use Rattle.std.proofs.Common.{◌≡◌, ℕ, ◌+◌, ◌<◌, ◌≤◌, Bool, true, false, not, ◌&&◌, ◌==◌, List, [], ◌∷◌, ◌++◌, inl, inr, Contains}
use Rattle.std.proofs.Common.{ap, refl, subst, sym, ◌∙◌, arith, eqb-true, eq-eqb, true≢false, ne_eqb}
use Rattle.std.specs.List.{list_any, AllByRecursion as Each}
use Rattle.std.proofs.lemmas.Bool.{and_parts, false_from_ne_true, true_from_ne_false}
use Rattle.table_image.specs.Internet.{Internet}
use Rattle.station.specs.declared.heard.Kind.TheVariants.{Ddp}
use Rattle.cable_model.specs.Books.{has_took}
use Rattle.cable_model.specs.declared.seat.Seat.{Seat as CableSeat}
use Rattle.cable_model.specs.Holdings.{holds, releases, still_held}
use Rattle.cable_model.specs.Pending.{Pair, pairs}
use Rattle.cable_model.specs.Transcript.{ArePutOnce, Entry, Holding, Sent, Put, Took, Reached, Dropped, Lost, Hold, count, has_put, one}
use Rattle.cable_model.specs.Transcript.{next_stamp}
use Rattle.cable_model.proofs.Counting.{At, count_any_none, count_none, each_at, each_more}
use Rattle.cable_model.proofs.Counting.{count-append}
use Rattle.cable_model.proofs.Stamps.{held_below, holds-append, put_below, stamp_from-append, stamp_from_more}
use Rattle.legal_runs.specs.Legs.{is_datagram}
use Rattle.legal_runs.specs.LossCounts.{is_lost}
use Rattle.legal_runs.specs.Lookups.{is_taken}
use Rattle.resolved_runs.proofs.Elements.{In, any_in, each_in}
use Rattle.resolved_runs.proofs.Standing.{held_in, pair_put, put_releases, took_put}
use Rattle.resolved_runs.proofs.Told.{Fact, IsSent, IsReached, IsDropped, IsNew, IsAarp, IsReleased, IsHeld, IsLost, IsTook}
use Rattle.resolved_runs.proofs.Told.{IsTold, Nothing, More}
use Rattle.resolved_runs.proofs.Never.{any_last, any_less, never_more, same_back}

-- The entry puts a datagram's frame with this stamp.
abbrev pub puts_datagram : ℕ → Entry → Bool
puts_datagram stamp (Put f) = stamp == f.stamp && is_datagram f.kind
puts_datagram stamp _ = false

-- The entry puts an AARP frame with this stamp.
abbrev pub puts_other : ℕ → Entry → Bool
puts_other stamp (Put f) = stamp == f.stamp && not (is_datagram f.kind)
puts_other stamp _ = false

datagram_put : (n : ℕ) (e : Entry) → puts_datagram n e ≡ true → has_put n e ≡ true
datagram_put n (Put f) h = (and_parts (n == f.stamp) (is_datagram f.kind) h).0
datagram_put n (Sent s b) h = cc
datagram_put n (Took k s) h = cc
datagram_put n (Reached c s how b) h = cc
datagram_put n (Dropped r c b) h = cc
datagram_put n (Lost k) h = cc
datagram_put n (Hold d) h = cc

other_put : (n : ℕ) (e : Entry) → puts_other n e ≡ true → has_put n e ≡ true
other_put n (Put f) h = (and_parts (n == f.stamp) (not (is_datagram f.kind)) h).0
other_put n (Sent s b) h = cc
other_put n (Took k s) h = cc
other_put n (Reached c s how b) h = cc
other_put n (Dropped r c b) h = cc
other_put n (Lost k) h = cc
other_put n (Hold d) h = cc

not_both : (n : ℕ) (e : Entry) → (puts_datagram n e && puts_other n e) ≡ false
not_both n (Put f) = by (n == f.stamp) (is_datagram f.kind)
  where
    by : (a b : Bool) → ((a && b) && (a && not b)) ≡ false
    by false b = refl
    by true true = refl
    by true false = refl
not_both n (Sent s b) = refl
not_both n (Took k s) = refl
not_both n (Reached c s how b) = refl
not_both n (Dropped r c b) = refl
not_both n (Lost k) = refl
not_both n (Hold d) = refl

lost_released : (n : ℕ) (e : Entry) → is_lost n e ≡ true → releases n e ≡ true
lost_released n (Lost k) h = same_back n k ∙ h
lost_released n (Put f) h = cc
lost_released n (Sent s b) h = cc
lost_released n (Took k s) h = cc
lost_released n (Reached c s how b) h = cc
lost_released n (Dropped r c b) h = cc
lost_released n (Hold d) h = cc

not_put_and_lost : (n : ℕ) (e : Entry) → (has_put n e && is_lost n e) ≡ false
not_put_and_lost n (Lost k) = refl
not_put_and_lost n (Put f) = by (n == f.stamp)
  where
    by : (b : Bool) → (b && false) ≡ false
    by true = refl
    by false = refl
not_put_and_lost n (Sent s b) = refl
not_put_and_lost n (Took k s) = refl
not_put_and_lost n (Reached c s how b) = refl
not_put_and_lost n (Dropped r c b) = refl
not_put_and_lost n (Hold d) = refl

-- ---- Datagrams that are still held

-- A datagram that is still held, by its place among those that were held.
pub record IsWaiting (t : List Entry) (h : Holding) : Type 0 where
  pub place : ℕ
  pub at : At (holds t) place h
  pub not_put : list_any (has_put h.stamp) t ≡ false
  pub not_lost : list_any (is_lost h.stamp) t ≡ false
  pub below : h.stamp < next_stamp t

pub waits_still : (t : List Entry) (h : Holding) → Contains (still_held t) h → IsWaiting t h
waits_still t h there =
    let w = held_in t h there in
    record {
      place = w.0.0;
      at = w.0.1;
      not_put = false_from_ne_true (list_any (has_put h.stamp) t) (λ e. true≢false (sym (put_releases h.stamp t e) ∙ w.1));
      not_lost = any_less (is_lost h.stamp) (releases h.stamp) t (lost_released h.stamp) w.1;
      below = each_at (λ d. d.stamp < next_stamp t) (holds t) w.0.0 h w.0.1 (held_below t);
    }

-- ---- Pairs

-- The frame of the pair was put.
abbrev pub WasPut : List Entry → Pair → Type 0
WasPut t p = In t (Put p.frame)

pub pairs_put : (ss : List CableSeat) (t : List Entry) → Each (WasPut t) (pairs ss t)
pairs_put ss t = each_in (WasPut t) (pairs ss t) (λ p there. (pair_put ss t p there).0)

pub put_there : (t : List Entry) (p : Pair) → WasPut t p → list_any (has_put p.frame.stamp) t ≡ true
put_there t p there = any_in (has_put p.frame.stamp) t (Put p.frame) there (eq-eqb p.frame.stamp _ refl)

pub datagram_there : (t : List Entry) (p : Pair) → WasPut t p → p.frame.kind ≡ Ddp → list_any (puts_datagram p.frame.stamp) t ≡ true
datagram_there t p there kind =
    any_in (puts_datagram p.frame.stamp) t (Put p.frame) there
    (ap (λ b. b && is_datagram p.frame.kind) (eq-eqb p.frame.stamp _ refl) ∙ ap is_datagram kind)

-- ---- A new stamp

new_put : (t : List Entry) (n stamp : ℕ) → next_stamp t ≤ stamp → (n == stamp) ≡ true → list_any (has_put n) t ≡ false
new_put t n stamp le same =
    let e = eqb-true n stamp same in
    false_from_ne_true (list_any (has_put n) t) (λ h. let lt = put_below t n h in absurd (omega (arith, e, le, lt)))

module _ (i : Internet) where
  -- A frame that an entry puts was not put before.
  pub fresh : (t : List Entry) (e : Entry) → Fact i t e → (n : ℕ) → has_put n e ≡ true → list_any (has_put n) t ≡ false
  fresh t e (IsNew f kind le) n h = new_put t n f.stamp le h
  fresh t e (IsAarp f kind le packet) n h = new_put t n f.stamp le h
  fresh t e (IsReleased d s there found) n h =
      subst (λ k. list_any (has_put k) t ≡ false) (sym (eqb-true n d.stamp h)) (waits_still t d there).not_put
  fresh t e (IsSent s b) n h = cc
  fresh t e (IsReached c s how b) n h = cc
  fresh t e (IsDropped r c b) n h = cc
  fresh t e (IsHeld d le) n h = cc
  fresh t e (IsLost d there) n h = cc
  fresh t e (IsTook p there) n h = cc

  -- No stamp is that of a datagram's frame and of an AARP frame.
  pub one_kind : (t : List Entry) → IsTold i t → (n : ℕ) → list_any (puts_datagram n) t ≡ true → list_any (puts_other n) t ≡ false
  one_kind t Nothing n h = refl
  one_kind t (More u e told fact) n h =
      never_more (puts_datagram n) (puts_other n) u e
      (λ x. any_less (puts_other n) (has_put n) u (other_put n) (fresh u e fact n (datagram_put n e x)))
      (λ x. any_less (puts_datagram n) (has_put n) u (datagram_put n) (fresh u e fact n (other_put n e x)))
      (not_both n e) (one_kind u told n) h

  -- ---- Frames that were lost

  lost_holds : (t : List Entry) (e : Entry) → Fact i t e → (n : ℕ) → is_lost n e ≡ true → (h : Holding) × IsWaiting t h × (h.stamp ≡ n)
  lost_holds t e (IsLost d there) n h = (d, waits_still t d there, eqb-true d.stamp n h)
  lost_holds t e (IsNew f kind le) n h = cc
  lost_holds t e (IsAarp f kind le packet) n h = cc
  lost_holds t e (IsReleased d s there found) n h = cc
  lost_holds t e (IsSent s b) n h = cc
  lost_holds t e (IsReached c s how b) n h = cc
  lost_holds t e (IsDropped r c b) n h = cc
  lost_holds t e (IsHeld d le) n h = cc
  lost_holds t e (IsTook p there) n h = cc

  more_stamps : (t : List Entry) (e : Entry) → next_stamp t ≤ next_stamp (t ++ e ∷ [])
  more_stamps t e =
      let same = stamp_from-append 0 t (e ∷ []) in
      let le = stamp_from_more (next_stamp t) (e ∷ []) in
      omega (arith, same, le)

  -- The stamps of frames that were lost are below the next stamp.
  lost_below : (t : List Entry) → IsTold i t → (n : ℕ) → list_any (is_lost n) t ≡ true → n < next_stamp t
  lost_below t Nothing n h = cc
  lost_below t (More u e told fact) n h =
      let le = more_stamps u e in
      elim (any_last (is_lost n) u e h) as (λ _. n < next_stamp (u ++ e ∷ [])) [
        | inl before ↦ let lt = lost_below u told n before in omega (arith, le, lt)
        | inr now ↦
            let w = lost_holds u e fact n now in
            let same = w.2 in
            let lt = w.1.below in
            omega (arith, le, same, lt)
      ]

  new_lost : (t : List Entry) → IsTold i t → (n stamp : ℕ) → next_stamp t ≤ stamp → (n == stamp) ≡ true → list_any (is_lost n) t ≡ false
  new_lost t told n stamp le same =
      let e = eqb-true n stamp same in
      false_from_ne_true (list_any (is_lost n) t) (λ h. let lt = lost_below t told n h in absurd (omega (arith, e, le, lt)))

  put_kept : (t : List Entry) → IsTold i t → (e : Entry) → Fact i t e → (n : ℕ) → has_put n e ≡ true → list_any (is_lost n) t ≡ false
  put_kept t told e (IsNew f kind le) n h = new_lost t told n f.stamp le h
  put_kept t told e (IsAarp f kind le packet) n h = new_lost t told n f.stamp le h
  put_kept t told e (IsReleased d s there found) n h =
      subst (λ k. list_any (is_lost k) t ≡ false) (sym (eqb-true n d.stamp h)) (waits_still t d there).not_lost
  put_kept t told e (IsSent s b) n h = cc
  put_kept t told e (IsReached c s how b) n h = cc
  put_kept t told e (IsDropped r c b) n h = cc
  put_kept t told e (IsHeld d le) n h = cc
  put_kept t told e (IsLost d there) n h = cc
  put_kept t told e (IsTook p there) n h = cc

  -- A frame that was put was not lost.
  pub put_not_lost : (t : List Entry) → IsTold i t → (n : ℕ) → list_any (has_put n) t ≡ true → list_any (is_lost n) t ≡ false
  put_not_lost t Nothing n h = refl
  put_not_lost t (More u e told fact) n h =
      never_more (has_put n) (is_lost n) u e (put_kept u told e fact n)
      (λ x. let w = lost_holds u e fact n x in subst (λ k. list_any (has_put k) u ≡ false) w.2 w.1.not_put)
      (not_put_and_lost n e) (put_not_lost u told n) h

  -- ---- Frames that were taken

  -- A frame that was taken was put.
  pub taken_put : (t : List Entry) → IsTold i t → (n s : ℕ) → list_any (is_taken n s) t ≡ true → list_any (has_put n) t ≡ true
  taken_put t told n s h =
      took_put i t n told
      (true_from_ne_false (list_any (has_took n) t) (λ none. true≢false (sym h ∙ any_less (is_taken n s) (has_took n) t took none)))
    where
      took : (e : Entry) → is_taken n s e ≡ true → has_took n e ≡ true
      took (Took k x) h = same_back n k ∙ (and_parts (k == n) (x == s) h).0
      took (Put f) h = cc
      took (Sent x b) h = cc
      took (Reached c x how b) h = cc
      took (Dropped r c b) h = cc
      took (Lost k) h = cc
      took (Hold d) h = cc

  -- ---- Datagrams that were held

  -- The datagram was held with this stamp.
  abbrev pub numbered : ℕ → Holding → Bool
  numbered n h = h.stamp == n

  -- No two datagrams were held with the same stamp.
  pub held_once : (t : List Entry) → IsTold i t → (n : ℕ) → count (numbered n) (holds t) ≤ 1
  held_once t Nothing n = omega arith
  held_once t (More u e told fact) n =
      let sum = ap (count (numbered n)) (holds-append u (e ∷ [])) ∙ count-append (numbered n) (holds u) (holds (e ∷ [])) in
      let one_more = by e fact (held_once u told n) in
      omega (arith, sum, one_more)
    where
      by : (e : Entry) → Fact i u e → count (numbered n) (holds u) ≤ 1
          → count (numbered n) (holds u) + count (numbered n) (holds (e ∷ [])) ≤ 1
      by e (IsHeld d le) few = with_hold (d.stamp == n) refl
        where
          with_hold : (b : Bool) → (d.stamp == n) ≡ b → count (numbered n) (holds u) + (one b + 0) ≤ 1
          with_hold false x = omega (arith, few)
          with_hold true x =
              let same = eqb-true d.stamp n x in
              let none = count_none (numbered n) (holds u)
              (each_more (λ h. h.stamp < next_stamp u) (λ h. numbered n h ≡ false) (holds u)
              (λ h lt. ne_eqb h.stamp n (λ e. absurd (omega (arith, e, lt, same, le)))) (held_below u)) in
              omega (arith, none)
      by e (IsNew f kind le) few = omega (arith, few)
      by e (IsAarp f kind le packet) few = omega (arith, few)
      by e (IsReleased d s there found) few = omega (arith, few)
      by e (IsSent s b) few = omega (arith, few)
      by e (IsReached c s how b) few = omega (arith, few)
      by e (IsDropped r c b) few = omega (arith, few)
      by e (IsLost d there) few = omega (arith, few)
      by e (IsTook p there) few = omega (arith, few)

  -- No two frames were put with the same stamp.
  pub put_once : (t : List Entry) → IsTold i t → ArePutOnce t
  put_once t Nothing n = omega arith
  put_once t (More u e told fact) n =
      let sum = count-append (has_put n) u (e ∷ []) in
      let one_more = by (has_put n e) refl (put_once u told n) in
      omega (arith, sum, one_more)
    where
      by : (b : Bool) → has_put n e ≡ b → count (has_put n) u ≤ 1 → count (has_put n) u + (one b + 0) ≤ 1
      by false x few = omega (arith, few)
      by true x few =
          let none = count_any_none (has_put n) u (fresh u e fact n x) in
          omega (arith, none)
