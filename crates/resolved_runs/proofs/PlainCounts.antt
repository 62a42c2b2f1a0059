-- What is pending, was lost and was taken in the plain transcript: what is pending or still held, was given up, and was
-- taken.
use Rattle.std.proofs.Common.{◌≡◌, ℕ, suc, ◌+◌, Bool, true, false, not, ◌||◌, ◌&&◌, ◌==◌, List, [], ◌∷◌, Option, Some, None}
use Rattle.std.proofs.Common.{ap, arith, eqb-true, inl, inr, is_some, refl, sym, ◌∙◌, true≢false}
use Rattle.std.specs.List.{list_any}
use Rattle.std.proofs.lemmas.Bool.{and_parts, and_right, false_from_ne_true, or_cases}
use Rattle.table_image.specs.Internet.{Internet}
use Rattle.table_image.specs.Seats.{Seat, seat_at}
use Rattle.audit.specs.Rules.{Passes}
use Rattle.station.specs.declared.heard.Kind.{Kind}
use Rattle.station.specs.declared.heard.Kind.TheVariants.{Aarp, Ddp}
use Rattle.cable_model.specs.Holdings.{holds, releases, still_held, was_released}
use Rattle.cable_model.specs.Pending.{Pair, pairs, pending, was_ended}
use Rattle.cable_model.specs.Transcript.{Entry, Holding, Sent, Put, Took, Reached, Dropped, Lost, Hold, count, has_put}
use Rattle.cable_model.proofs.Counting.{At, count-filter, count_agree, count_none, each_all, each_more}
use Rattle.cable_model.proofs.Pairs.{pending_is}
use Rattle.legal_runs.specs.LossCounts.{is_lost, was_lost}
use Rattle.legal_runs.specs.Lookups.{is_taken, was_taken}
use Rattle.legal_runs.specs.Stations.{cable_seats}
use Rattle.legal_runs.proofs.Ended.{ended_is}
use Rattle.legal_runs.proofs.Seated.{one_seat}
use Rattle.resolved_runs.specs.HeldCounts.{was_given_up}
use Rattle.resolved_runs.specs.Plain.{plain}
use Rattle.resolved_runs.proofs.Elements.{each_in}
use Rattle.resolved_runs.proofs.Steps.{one_hold}
use Rattle.resolved_runs.proofs.Told.{IsPacket, IsTold}
use Rattle.resolved_runs.proofs.Truths.{packet_told}
use Rattle.resolved_runs.proofs.Never.{same_back}
use Rattle.resolved_runs.proofs.PlainEnds.{is_lone, lost_plain, not_lost_plain, not_taken_plain, taken_plain}
use Rattle.resolved_runs.proofs.PlainPairs.{held_pair, passes, passes_at, passes_unput, plain_pairs}
use Rattle.resolved_runs.proofs.HeldStamps.{WasPut, datagram_there, one_kind, pairs_put}
use Rattle.resolved_runs.proofs.HeldStamps.{put_not_lost, put_there, taken_put}

-- ---- Datagrams that were held

-- What ended a holding put its frame or lost it.
released_is : (n : ℕ) (t : List Entry) → list_any (releases n) t ≡ (list_any (has_put n) t || list_any (is_lost n) t)
released_is n [] = refl
released_is n (e ∷ t) =
    ap (λ b. b || list_any (releases n) t) (here e)
    ∙ (ap (λ b. (has_put n e || is_lost n e) || b) (released_is n t)
    ∙ swap (has_put n e) (is_lost n e) (list_any (has_put n) t) (list_any (is_lost n) t))
  where
    or_false : (b : Bool) → b ≡ (b || false)
    or_false true = refl
    or_false false = refl

    here : (e : Entry) → releases n e ≡ (has_put n e || is_lost n e)
    here (Put f) = or_false (n == f.stamp)
    here (Lost k) = same_back n k
    here (Sent s b) = refl
    here (Took k s) = refl
    here (Reached c s how b) = refl
    here (Dropped r c b) = refl
    here (Hold d) = refl

    swap : (a b c d : Bool) → ((a || b) || (c || d)) ≡ ((a || c) || (b || d))
    swap true b c d = refl
    swap false true true d = refl
    swap false true false d = refl
    swap false false true d = refl
    swap false false false d = refl

module _ (i : Internet) (ok : Passes i) (t : List Entry) (told : IsTold i t) where
  lone_at : (n : ℕ) (es : List Entry) → list_any (is_lone i n) es ≡ true
      → (k : ℕ) × (d : Holding) × At (holds es) k d × ((n == d.stamp && not (is_some (seat_at i d.cable d.next))) ≡ true)
  lone_at n [] h = cc
  lone_at n (Hold d ∷ es) h =
      elim (or_cases (is_lone i n (Hold d)) (list_any (is_lone i n) es) h) as
      (λ _. (k : ℕ) × (x : Holding) × At (d ∷ holds es) k x × ((n == x.stamp && not (is_some (seat_at i x.cable x.next))) ≡ true)) [
        | inl this ↦ (0, d, refl, this)
        | inr later ↦ let w = lone_at n es later in (suc w.0, w.1, w.2, w.3)
      ]
  lone_at n (Put f ∷ es) h = lone_at n es h
  lone_at n (Sent s b ∷ es) h = lone_at n es h
  lone_at n (Took k s ∷ es) h = lone_at n es h
  lone_at n (Reached c s how b ∷ es) h = lone_at n es h
  lone_at n (Dropped r c b ∷ es) h = lone_at n es h
  lone_at n (Lost k ∷ es) h = lone_at n es h

  -- A datagram that is held for a station isn't held for an address that no station has.
  not_lone : (h : Holding) (j : ℕ) (s : Seat) → At (holds t) j h → seat_at i h.cable h.next ≡ Some s
      → list_any (is_lone i h.stamp) t ≡ false
  not_lone h j s at found =
      false_from_ne_true (list_any (is_lone i h.stamp) t) (λ lone.
      let w = lone_at h.stamp t lone in
      let parts = and_parts (h.stamp == w.1.stamp) (not (is_some (seat_at i w.1.cable w.1.next))) w.3 in
      let same = one_hold i t h w.1 told (j, at) (w.0, w.2) (eqb-true h.stamp w.1.stamp parts.0) in
      true≢false (sym parts.1 ∙ ap (λ (d : Holding). not (is_some (seat_at i d.cable d.next))) (sym same) ∙ ap (λ o. not (is_some o)) found))

  -- The frame of a held datagram was lost in the plain transcript if the datagram was given up.
  lost_same : (h : Holding) (j : ℕ) (s : Seat) → At (holds t) j h → seat_at i h.cable h.next ≡ Some s
      → list_any (is_lost h.stamp) (plain i t) ≡ list_any (is_lost h.stamp) t
  lost_same h j s at found = lost_plain i h.stamp t (not_lone h j s at found)

  -- The frame of a datagram that was not put was not taken.
  not_taken : (h : Holding) (s : ℕ) → list_any (has_put h.stamp) t ≡ false → list_any (is_taken h.stamp s) (plain i t) ≡ false
  not_taken h s none =
      not_taken_plain i h.stamp s t
      (false_from_ne_true (list_any (is_taken h.stamp s) t) (λ x. true≢false (sym (taken_put i t told h.stamp s x) ∙ none)))

  -- ---- Pairs of frames that were put

  put_kept : (p : Pair) → WasPut t p → was_lost (plain i t) p ≡ false
  put_kept p w = not_lost_plain i p.frame.stamp t (put_not_lost i t told p.frame.stamp (put_there t p w))

  put_taken : (p : Pair) → WasPut t p → p.frame.kind ≡ Ddp → was_taken (plain i t) p ≡ was_taken t p
  put_taken p w kind =
      taken_plain i p.frame.stamp p.seat.station t (one_kind i t told p.frame.stamp (datagram_there t p w kind))

  put_ended : (p : Pair) → WasPut t p → p.frame.kind ≡ Ddp → was_ended (plain i t) p ≡ was_ended t p
  put_ended p w kind =
      ended_is (plain i t) p
      ∙ (ap (λ b. b || was_lost (plain i t) p) (put_taken p w kind)
      ∙ (ap (λ b. was_taken t p || b) (put_kept p w ∙ sym (put_not_lost i t told p.frame.stamp (put_there t p w)))
      ∙ sym (ended_is t p)))

  -- ---- Counts

  module _ (test : Pair → Bool) (datagrams : (p : Pair) → p.frame.kind ≡ Aarp → IsPacket i p.frame → test p ≡ false) where
    -- The counts of what a test of the plain transcript passes.
    counts_by : (mark here : Pair → Bool) (there : Holding → Bool)
        → ((p : Pair) → WasPut t p → p.frame.kind ≡ Ddp → mark p ≡ here p)
        → ((h : Holding) (j : ℕ) (s : Seat) → At (holds t) j h → seat_at i h.cable h.next ≡ Some s
        → (not (list_any (has_put h.stamp) t) && mark (held_pair i h s)) ≡ there h)
        → count (λ p. mark p && test p) (pairs (cable_seats i) (plain i t))
        ≡ count (λ p. here p && test p) (pairs (cable_seats i) t) + count (λ h. there h && passes i test h) (holds t)
    counts_by mark here there of_pair of_hold =
        let all = plain_pairs i ok (λ p. mark p && test p) (λ p e x. and_right (mark p) (test p) (datagrams p e x)) t told in
        let a = count_agree (λ p. mark p && test p) (λ p. here p && test p) (pairs (cable_seats i) t)
        (each_more (WasPut t) (λ p. (mark p && test p) ≡ (here p && test p)) (pairs (cable_seats i) t)
        (λ p w. pair_same p w p.frame.kind refl) (pairs_put (cable_seats i) t)) in
        let b = count_agree (passes_unput i (λ p. mark p && test p) t) (λ h. there h && passes i test h) (holds t)
        (each_in (λ h. passes_unput i (λ p. mark p && test p) t h ≡ (there h && passes i test h)) (holds t)
        (λ h w. hold_same h w.0 w.1 (seat_at i h.cable h.next) refl)) in
        omega (arith, all, a, b)
      where
        pair_same : (p : Pair) → WasPut t p → (k : Kind) → p.frame.kind ≡ k → (mark p && test p) ≡ (here p && test p)
        pair_same p w Ddp e = ap (λ b. b && test p) (of_pair p w e)
        pair_same p w Aarp e =
            let none = datagrams p e (packet_told i t p.frame told w e) in
            and_right (mark p) (test p) none ∙ sym (and_right (here p) (test p) none)

        both_ways : (a b c d : Bool) → (a && b) ≡ d → (a && (b && c)) ≡ (d && c)
        both_ways true b c d e = ap (λ x. x && c) e
        both_ways false b c d e = ap (λ x. x && c) e

        hold_same : (h : Holding) (k : ℕ) → At (holds t) k h → (o : Option Seat) → seat_at i h.cable h.next ≡ o
            → (not (list_any (has_put h.stamp) t) && passes_at i (λ p. mark p && test p) h o) ≡ (there h && passes_at i test h o)
        hold_same h k at None e = and_right (not (list_any (has_put h.stamp) t)) false refl ∙ sym (and_right (there h) false refl)
        hold_same h k at (Some s) e =
            both_ways (not (list_any (has_put h.stamp) t)) (mark (held_pair i h s)) (test (held_pair i h s)) (there h)
            (of_hold h k s at e)

    -- What is pending in the plain transcript is pending or still held.
    pub plain_pending : count test (pending (cable_seats i) (plain i t))
        ≡ count test (pending (cable_seats i) t) + count (passes i test) (still_held t)
    plain_pending =
        let a = pending_is (cable_seats i) (one_seat i ok) test (plain i t) in
        let b = pending_is (cable_seats i) (one_seat i ok) test t in
        let c = counts_by (λ p. not (was_ended (plain i t) p)) (λ p. not (was_ended t p)) (λ h. not (was_released t h))
        (λ p w kind. ap not (put_ended p w kind)) still in
        let d = count-filter (passes i test) (λ h. not (was_released t h)) (holds t) in
        omega (arith, a, b, c, d)
      where
        bits : (put taken lost : Bool) → (put ≡ false → taken ≡ false) → (not put && not (taken || lost)) ≡ not (put || lost)
        bits true taken lost f = refl
        bits false false lost f = refl
        bits false true lost f = absurd (true≢false (f refl))

        still : (h : Holding) (j : ℕ) (s : Seat) → At (holds t) j h → seat_at i h.cable h.next ≡ Some s
            → (not (list_any (has_put h.stamp) t) && not (was_ended (plain i t) (held_pair i h s))) ≡ not (was_released t h)
        still h j s at found =
            ap (λ b. not (list_any (has_put h.stamp) t) && not b)
            (ended_is (plain i t) (held_pair i h s)
            ∙ ap (λ b. was_taken (plain i t) (held_pair i h s) || b) (lost_same h j s at found))
            ∙ (bits (list_any (has_put h.stamp) t) (was_taken (plain i t) (held_pair i h s)) (list_any (is_lost h.stamp) t)
            (not_taken h s.station)
            ∙ ap not (sym (released_is h.stamp t)))

    -- What was lost in the plain transcript was given up.
    pub plain_lost_count : count (λ p. was_lost (plain i t) p && test p) (pairs (cable_seats i) (plain i t))
        ≡ count (λ h. was_given_up t h && passes i test h) (holds t)
    plain_lost_count =
        let c = counts_by (was_lost (plain i t)) (λ p. false) (was_given_up t) (λ p w kind. put_kept p w) given in
        let none = count_none (λ p. false && test p) (pairs (cable_seats i) t) (each_all _ _ (λ p. refl)) in
        omega (arith, c, none)
      where
        bits : (put lost : Bool) → (put ≡ true → lost ≡ false) → (not put && lost) ≡ lost
        bits true true f = absurd (true≢false (f refl))
        bits true false f = refl
        bits false lost f = refl

        given : (h : Holding) (j : ℕ) (s : Seat) → At (holds t) j h → seat_at i h.cable h.next ≡ Some s
            → (not (list_any (has_put h.stamp) t) && was_lost (plain i t) (held_pair i h s)) ≡ was_given_up t h
        given h j s at found =
            ap (λ b. not (list_any (has_put h.stamp) t) && b) (lost_same h j s at found)
            ∙ bits (list_any (has_put h.stamp) t) (list_any (is_lost h.stamp) t) (put_not_lost i t told h.stamp)

    -- What was taken in the plain transcript was taken.
    pub plain_taken_count : count (λ p. was_taken (plain i t) p && test p) (pairs (cable_seats i) (plain i t))
        ≡ count (λ p. was_taken t p && test p) (pairs (cable_seats i) t)
    plain_taken_count =
        let c = counts_by (was_taken (plain i t)) (was_taken t) (λ h. false) put_taken never in
        let none = count_none (λ h. false && passes i test h) (holds t) (each_all _ _ (λ h. refl)) in
        omega (arith, c, none)
      where
        bits : (put taken : Bool) → (put ≡ false → taken ≡ false) → (not put && taken) ≡ false
        bits true taken f = refl
        bits false taken f = f refl

        never : (h : Holding) (j : ℕ) (s : Seat) → At (holds t) j h → seat_at i h.cable h.next ≡ Some s
            → (not (list_any (has_put h.stamp) t) && was_taken (plain i t) (held_pair i h s)) ≡ false
        never h j s at found =
            bits (list_any (has_put h.stamp) t) (was_taken (plain i t) (held_pair i h s)) (not_taken h s.station)
