-- What is held for a station stays asked for while entries that hold nothing follow.
use Rattle.std.proofs.Common.{◌≡◌, ◌⊎◌, inl, inr, ◌≤◌, ◌<◌, ℕ, Bool, true, false}
use Rattle.std.proofs.Common.{◌||◌, ◌==◌, List, [], ◌∷◌, ◌++◌, Contains, refl, sym, ap, ◌∙◌, subst, arith}
use Rattle.std.proofs.Common.{eqb-true}
use Rattle.std.specs.List.{list_any}
use Rattle.std.proofs.lemmas.Bool.{false_from_ne_true, or_cases, or_parts}
use Rattle.aarp.specs.Packets.{packet}
use Rattle.table_image.specs.Internet.{Internet}
use Rattle.table_image.specs.Seats.{Seat as PlaceOf}
use Rattle.cable_model.specs.Books.{has_took}
use Rattle.cable_model.specs.Holdings.{holds, holds_of, released_frame, releases, still_held}
use Rattle.cable_model.specs.Outgoing.{asked}
use Rattle.cable_model.specs.Pending.{Pair, ends, pairs, pending, was_ended}
use Rattle.cable_model.specs.Transcript.{Entry, Frame, Holding, Put, next_stamp}
use Rattle.cable_model.proofs.Counting.{any-append, each_at}
use Rattle.cable_model.proofs.Pairs.{pairs-append}
use Rattle.cable_model.proofs.Stamps.{above_this, stamp_from_more, held_below, holds-append, next_after, put_below}
use Rattle.legal_runs.specs.Stations.{cable_seats}
use Rattle.resolved_runs.specs.AskedFor.{AreAskedFor, IsAskedFor}
use Rattle.resolved_runs.proofs.Elements.{In, in_left, in_parts}
use Rattle.resolved_runs.proofs.Standing.{ended_by, held_in, is_pending, pending_in, took_put}
use Rattle.resolved_runs.proofs.Steps.{is_still}
use Rattle.resolved_runs.proofs.Told.{Fact, IsAarp, IsDropped, IsHeld, IsLost, IsNew, IsReached, IsReleased, IsSent, IsTold}
use Rattle.resolved_runs.proofs.Told.{IsTook, More, Nothing}

module _ (i : Internet) where
  -- ---- What ends has an earlier stamp

  pub released_below : (t : List Entry) (n : ℕ) → IsTold i t → list_any (releases n) t ≡ true → n < next_stamp t
  released_below t n Nothing h = cc
  released_below t n (More u e told fact) h =
      let le = grows u e in
      elim (or_cases (list_any (releases n) u) (releases n e || false) (sym (any-append (releases n) u (e ∷ [])) ∙ h)) as
      (λ _. n < next_stamp (u ++ e ∷ [])) [
        | inl before ↦ let lt = released_below u n told before in omega (arith, lt, le)
        | inr this ↦ here e fact (alone (releases n e) this) le
      ]
    where
      alone : (b : Bool) → (b || false) ≡ true → b ≡ true
      alone true g = refl
      alone false g = g

      grows : (u : List Entry) (e : Entry) → next_stamp u ≤ next_stamp (u ++ e ∷ [])
      grows u e = let a = next_after u e in let le = stamp_from_more (next_stamp u) (e ∷ []) in omega (arith, a, le)

      put : (f : Frame) → (n == f.stamp) ≡ true → n < next_stamp (u ++ Put f ∷ [])
      put f g =
          let same = eqb-true n f.stamp g in
          let lt = above_this (next_stamp u) f.stamp in
          let a = next_after u (Put f) in
          omega (arith, same, lt, a)

      here : (e : Entry) → Fact i u e → releases n e ≡ true → next_stamp u ≤ next_stamp (u ++ e ∷ []) → n < next_stamp (u ++ e ∷ [])
      here e (IsNew f k fresh) g le = put f g
      here e (IsAarp f k fresh packet) g le = put f g
      here e (IsReleased h s held found) g le = put (released_frame h s.hardware) g
      here e (IsLost h held) g le =
          let w = (held_in u h held).0 in
          let low = each_at (λ (d : Holding). d.stamp < next_stamp u) (holds u) w.0 h w.1 (held_below u) in
          let same = eqb-true n h.stamp g in
          omega (arith, same, low, le)
      here e (IsSent s b) g le = cc
      here e (IsReached c s w b) g le = cc
      here e (IsDropped r c b) g le = cc
      here e (IsHeld h fresh) g le = cc
      here e (IsTook p held) g le = cc

  -- A pair with a new stamp was not ended.
  pub not_ended : (t : List Entry) (p : Pair) → IsTold i t → next_stamp t ≤ p.frame.stamp → was_ended t p ≡ false
  not_ended t p told new = false_from_ne_true (was_ended t p) (λ h. absurd (by (ended_by t p h)))
    where
      by : (list_any (has_took p.frame.stamp) t ≡ true) ⊎ (list_any (releases p.frame.stamp) t ≡ true) → ⊥
      by (inl took) = let lt = put_below t p.frame.stamp (took_put i t p.frame.stamp told took) in absurd (omega (arith, lt, new))
      by (inr gone) = let lt = released_below t p.frame.stamp told gone in absurd (omega (arith, lt, new))

  -- ---- A pair that stays pending

  pub stays : (u es : List Entry) (p : Pair) → Contains (pending (cable_seats i) u) p → was_ended es p ≡ false
      → Contains (pending (cable_seats i) (u ++ es)) p
  stays u es p there none =
      let w = pending_in i (cable_seats i) u p there in
      is_pending i (cable_seats i) (u ++ es) p
      (subst (λ ps. In ps p) (sym (pairs-append (cable_seats i) u es)) (in_left (pairs (cable_seats i) u) (pairs (cable_seats i) es) p w.0))
      (any-append (ends p) u es ∙ (ap (λ b. b || was_ended es p) w.1 ∙ none))

  -- ---- Holdings after further entries

  -- What is still held after further entries was held before them, or is held by them.
  pub held_parts : (u es : List Entry) (h : Holding) → Contains (still_held (u ++ es)) h
      → ((Contains (still_held u) h) ⊎ In (holds es) h) × (list_any (releases h.stamp) es ≡ false)
  held_parts u es h there =
      let w = held_in (u ++ es) h there in
      let p = or_parts (list_any (releases h.stamp) u) (list_any (releases h.stamp) es) (sym (any-append (releases h.stamp) u es) ∙ w.1) in (
        (elim (in_parts (holds u) (holds es) h (subst (λ hs. In hs h) (holds-append u es) w.0)) as
            (λ _. (Contains (still_held u) h) ⊎ In (holds es) h) [
              | inl before ↦ inl (is_still i u h before p.0)
              | inr this ↦ inr this
            ]),
        p.1,
      )

  -- Entries that hold nothing keep what is asked for, if they end none of the frames.
  pub keeps_asked : (u es : List Entry) → AreAskedFor i u → holds es ≡ []
      → ((h : Holding) (s : PlaceOf) → Contains (still_held (u ++ es)) h → (q : IsAskedFor i u h s) → was_ended es q.pair ≡ false)
      → AreAskedFor i (u ++ es)
  keeps_asked u es asked none never h s there found =
      let w = held_parts u es h there in
      elim w.0 as (λ _. IsAskedFor i (u ++ es) h s) [
        | inl before ↦ let q = asked h s before found in again q (never h s there q)
        | inr this ↦ let k = subst (λ hs. In hs h) none this in absurd (nowhere k)
      ]
    where
      nowhere : In [] h → ⊥
      nowhere (k, e) = cc

      again : (q : IsAskedFor i u h s) → was_ended es q.pair ≡ false → IsAskedFor i (u ++ es) h s
      again q still = record {
        pair = q.pair;
        there = stays u es q.pair q.there still;
        kind = q.kind;
        cable = q.cable;
        asks = q.asks;
      }

  -- One entry that holds nothing and ends no pair.
  pub quiet_asked : (u : List Entry) (e : Entry) → holds_of e ≡ [] → ((p : Pair) → ends p e ≡ false) → AreAskedFor i u → AreAskedFor i (u ++ e ∷ [])
  quiet_asked u e none never asked =
      keeps_asked u (e ∷ []) asked (ap (λ l. l ++ []) none) (λ h s there q. ap (λ b. b || false) (never q.pair))
