-- Where no frame is pending, each body to a station's address was taken by that station, or given up while it was held for
-- a station, as often as it was sent.
use Rattle.std.proofs.Common.{◌≡◌, ℕ, ◌+◌, false, ◌&&◌, List, [], Option, Some, None, Contains}
use Rattle.std.proofs.Common.{ap, arith, is_some, refl, slice_get, subst}
use Rattle.std.proofs.lemmas.Bool.{and_left}
use Rattle.at_base.specs.Text.{same_bytes}
use Rattle.ddp.specs.Bodies.{body, target}
use Rattle.table_image.specs.Internet.{Internet}
use Rattle.table_image.specs.Seats.{Seat, seat_at}
use Rattle.audit.specs.Routing.{home}
use Rattle.audit.specs.Rules.{Passes}
use Rattle.station.specs.declared.heard.Kind.TheVariants.{Aarp}
use Rattle.cable_model.specs.Holdings.{holds, still_held}
use Rattle.cable_model.specs.Pending.{Pair, pairs, pending}
use Rattle.cable_model.specs.Transcript.{Entry, Holding, count}
use Rattle.cable_model.proofs.Counting.{count_agree, count_none, each_all}
use Rattle.legal_runs.specs.Counts.{is_sent, sent}
use Rattle.legal_runs.specs.Legs.{is_datagram}
use Rattle.legal_runs.specs.LossCounts.{was_lost}
use Rattle.legal_runs.specs.LossyRuns.{IsLegalWithLosses}
use Rattle.legal_runs.specs.Lookups.{is_taken, was_taken}
use Rattle.legal_runs.specs.Stations.{cable_seats}
use Rattle.legal_runs.proofs.Apart.{pending_or_lost}
use Rattle.legal_runs.proofs.Ended.{rising_kept}
use Rattle.legal_runs.proofs.Lossy.{lossy_any, lossy_count, lossy_pairs, whole_is}
use Rattle.resolved_runs.specs.AskedFor.{AreAskedFor, AreHeard, AreHeardOrOnTheirWay, bears, brings, heard, is_kept_for_one, let_down, on_its_way}
use Rattle.resolved_runs.specs.HeldCounts.{was_given_up}
use Rattle.resolved_runs.specs.Plain.{plain}
use Rattle.resolved_runs.proofs.Bearing.{bears_parts}
use Rattle.legal_runs.proofs.Legs.{seat_home, seat_there}
use Rattle.resolved_runs.proofs.Borne.{rising_heard}
use Rattle.resolved_runs.proofs.Elements.{contained, each_in, in_list}
use Rattle.resolved_runs.proofs.HeldPairs.{seat_single}
use Rattle.resolved_runs.proofs.PlainCounts.{plain_lost_count, plain_pending, plain_taken_count}
use Rattle.resolved_runs.proofs.PlainEntries.{same_entries}
use Rattle.resolved_runs.proofs.PlainPairs.{passes, passes_at}
use Rattle.resolved_runs.proofs.Told.{IsPacket, IsTold}

module _ (i : Internet) (ok : Passes i) (b : List ℕ) (c : ℕ) (s : Seat) (listed : home i (target b).net ≡ Some c)
    (found : seat_at i c (target b) ≡ Some s) where
  -- ---- With losses

  -- Each time that the body was sent, the station took it, it is in a pending frame, or its frame was lost.
  pub heard_with_losses : (t : List Entry) → IsLegalWithLosses i t → sent b t
      ≡ heard i s.station b t + count (bears b) (pending (cable_seats i) t) + count (λ p. was_lost t p && bears b p) (pairs (cable_seats i) t)
  heard_with_losses t legal =
      let w = whole_is i t legal in
      let same = lossy_count (is_sent b) (λ n. refl) w.entries t w.lossy in
      let base = rising_heard i ok b c s listed found w.entries w.rising in
      let waits = pending_or_lost i ok (bears b) (λ p e. (bears_parts b p e).1) w.entries t w.lossy (rising_kept i w.entries w.rising) legal in
      let all = ap (count (λ p. was_taken t p && brings s.station b p)) (lossy_pairs (cable_seats i) w.entries t w.lossy) in
      let took = count_agree (λ p. was_taken t p && brings s.station b p) (λ p. was_taken w.entries p && brings s.station b p)
      (pairs (cable_seats i) w.entries) (each_all _ _ (λ p. ap (λ x. x && brings s.station b p)
      (lossy_any (is_taken p.frame.stamp p.seat.station) (λ n. refl) w.entries t w.lossy))) in
      omega (arith, same, base, waits, all, took)

  -- ---- Where stations hold datagrams

  bears_only : (p : Pair) → p.frame.kind ≡ Aarp → IsPacket i p.frame → bears b p ≡ false
  bears_only p e packet = and_left (is_datagram p.frame.kind) _ (ap is_datagram e)

  brings_only : (p : Pair) → p.frame.kind ≡ Aarp → IsPacket i p.frame → brings s.station b p ≡ false
  brings_only p e packet = and_left (is_datagram p.frame.kind) _ (ap is_datagram e)

  -- A held datagram bears its body, if it is held for a station.
  bears_at : (h : Holding) (o : Option Seat) → seat_at i h.cable h.next ≡ o
      → passes_at i (bears b) h o ≡ (is_some o && same_bytes b (body h.bytes))
  bears_at h None e = refl
  bears_at h (Some x) e = ap (λ u. u && same_bytes b (body h.bytes)) (seat_single i ok h x e)

  bears_held : (h : Holding) → passes i (bears b) h ≡ is_kept_for_one i b h
  bears_held h = bears_at h (seat_at i h.cable h.next) refl

  -- Each time that the body was sent, the station took it, it is in a pending frame, or it was held for a station and is
  -- still held or was given up.
  pub heard_or_held : (t : List Entry) → IsTold i t → IsLegalWithLosses i (plain i t) → sent b t
      ≡ heard i s.station b t + on_its_way i b t + let_down i b t
  heard_or_held t told legal =
      let same = same_entries i (is_sent b) (λ f. refl) (λ n s. refl) (λ n. refl) (λ h. refl) (λ c s x y d. refl) [] t in
      let base = heard_with_losses (plain i t) legal in
      let took = plain_taken_count i ok t told (brings s.station b) brings_only in
      let waits = plain_pending i ok t told (bears b) bears_only in
      let gone = plain_lost_count i ok t told (bears b) bears_only in
      let given = count_agree (λ h. was_given_up t h && passes i (bears b) h)
      (λ h. was_given_up t h && is_kept_for_one i b h) (holds t)
      (each_all _ _ (λ h. ap (λ x. was_given_up t h && x) (bears_held h))) in
      let kept = count_agree (passes i (bears b)) (is_kept_for_one i b) (still_held t) (each_all _ _ bears_held) in
      omega (arith, same, base, took, waits, gone, given, kept)

  -- ---- Where no frame is pending

  module _ (t : List Entry) (asks : AreAskedFor i t) (none : pending (cable_seats i) t ≡ []) where
    no_pair : (p : Pair) → Contains (pending (cable_seats i) t) p → ⊥
    no_pair p there = nowhere p (in_list [] p (subst (λ ps. Contains ps p) none there))
      where
        nowhere : (p : Pair) → (k : ℕ) × (slice_get [] k ≡ Some p) → ⊥
        nowhere p (k, e) = cc

    -- Nothing is held for a station.
    none_held : (h : Holding) → Contains (still_held t) h → is_kept_for_one i b h ≡ false
    none_held h there = by (seat_at i h.cable h.next) refl
      where
        by : (o : Option Seat) → seat_at i h.cable h.next ≡ o → (is_some o && same_bytes b (body h.bytes)) ≡ false
        by None e = refl
        by (Some x) e = let w = asks h x there e in absurd (no_pair w.pair w.there)

    pub heard_or_given_up : IsTold i t → IsLegalWithLosses i (plain i t) → sent b t ≡ heard i s.station b t + let_down i b t
    heard_or_given_up told legal =
        let all = heard_or_held t told legal in
        let waits = ap (count (bears b)) none in
        let held = count_none (is_kept_for_one i b) (still_held t)
        (each_in (λ h. is_kept_for_one i b h ≡ false) (still_held t) (λ h w. none_held h (contained (still_held t) h w))) in
        omega (arith, all, waits, held)

-- The network of a seat's address is at home on its cable.
listed_there : (i : Internet) → Passes i → (b : List ℕ) (c : ℕ) (s : Seat) → seat_at i c (target b) ≡ Some s → home i (target b).net ≡ Some c
listed_there i ok b c s found = seat_home i ok c (target b) s (seat_there i c (target b) s found)

pub heard_always : (i : Internet) (t : List Entry) → Passes i → IsTold i t → IsLegalWithLosses i (plain i t) → AreHeardOrOnTheirWay i t
heard_always i t ok told legal b c s found = heard_or_held i ok b c s (listed_there i ok b c s found) found t told legal

pub heard_resolved : (i : Internet) (t : List Entry) → Passes i → IsTold i t → IsLegalWithLosses i (plain i t) → AreAskedFor i t
    → AreHeard i t
heard_resolved i t ok told legal asks none b c s found =
    heard_or_given_up i ok b c s (listed_there i ok b c s found) found t asks none told legal
