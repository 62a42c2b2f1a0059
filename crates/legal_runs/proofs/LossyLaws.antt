-- The laws of transcripts with losses, from those of transcripts without.
use Rattle.std.proofs.Common.{◌≡◌, ℕ, ◌+◌, Bool, true, false, ◌&&◌, List, [], None, Contains, refl, sym, ap, ◌∙◌, arith, eq-eqb, true≢false}
use Rattle.std.specs.List.{list_any}
use Rattle.std.proofs.lemmas.Bool.{and_left, and_parts}
use Rattle.at_base.specs.Multicast.{all_hw}
use Rattle.at_base.specs.Text.{same_bytes}
use Rattle.ddp.specs.Bodies.{body}
use Rattle.table_image.specs.Internet.{Internet}
use Rattle.audit.specs.Rules.{Passes}
use Rattle.audit.proofs.Finding.{any_from}
use Rattle.station.specs.declared.heard.Kind.TheVariants.{Ddp}
use Rattle.cable_model.specs.Pending.{Pair, pairs, pending}
use Rattle.cable_model.specs.Transcript.{Entry, Lost, count}
use Rattle.cable_model.proofs.Counting.{contained_at, count_agree, count_none, each_all}
use Rattle.legal_runs.specs.Carriage.{AreByHand, AreCarried, AreTakenThere, none_yet}
use Rattle.legal_runs.specs.Counts.{HasHopsLeft, carries, is_dropped, is_hop_limit, is_reached, is_sent}
use Rattle.legal_runs.specs.Legal.{IsLegal}
use Rattle.legal_runs.specs.Legs.{is_copy, is_unicast}
use Rattle.legal_runs.specs.LossCounts.{IsConservedWithLosses, IsLookedUpWithLosses, is_lost, lost, lost_forwards, lost_requests, was_lost}
use Rattle.legal_runs.specs.Lookups.{NodesOnlyAsk, asks, ends_so, forwarded, is_asked, is_taken, is_unasked, looks, seeks, taken}
use Rattle.legal_runs.specs.Lookups.{waits, was_taken}
use Rattle.legal_runs.specs.LossyRuns.{IsLegalWithLosses}
use Rattle.legal_runs.specs.Stations.{cable_seats}
use Rattle.legal_runs.proofs.Apart.{pending_or_lost}
use Rattle.legal_runs.proofs.Carried.{carries as carried_by}
use Rattle.legal_runs.proofs.Conserved.{rising_conserved, rising_hops}
use Rattle.legal_runs.proofs.Ended.{rising_kept}
use Rattle.legal_runs.proofs.Handing.{handed_by}
use Rattle.legal_runs.proofs.LookedUp.{rising_looked_up}
use Rattle.legal_runs.proofs.Lossy.{Lossy, lossy_any, lossy_by_hand, lossy_carried, lossy_count, lossy_pairs, lossy_pending}
use Rattle.legal_runs.proofs.Lossy.{lossy_taken_there, rising_with_losses, whole_is}
use Rattle.legal_runs.proofs.Passing.{copy_parts}
use Rattle.legal_runs.proofs.Rising.{legal_rises}
use Rattle.legal_runs.proofs.Takers.{takers_there}

module _ (i : Internet) (t : List Entry) (ok : Passes i) (legal : IsLegalWithLosses i t) where
  -- The transcript without its losses.
  abbrev whole : List Entry
  whole = (whole_is i t legal).entries

  lossy : Lossy whole t
  lossy = (whole_is i t legal).lossy

  -- What is pending without the losses is pending or was lost, of frames to one station.
  open_or_lost : (f : Pair → Bool) → ((p : Pair) → f p ≡ true → is_unicast p.frame.to ≡ true)
      → count f (pending (cable_seats i) whole)
      ≡ count f (pending (cable_seats i) t) + count (λ p. was_lost t p && f p) (pairs (cable_seats i) t)
  open_or_lost f single =
      pending_or_lost i ok f single whole t lossy (rising_kept i whole (whole_is i t legal).rising) legal

  carries_single : (b : List ℕ) (p : Pair) → carries i b p ≡ true → is_unicast p.frame.to ≡ true
  carries_single b p e = (copy_parts i p (and_parts (is_copy i p) (same_bytes b (body p.frame.bytes)) e).0).unicast

  waits_single : (k : List ℕ) (p : Pair) → waits i k p ≡ true → is_unicast p.frame.to ≡ true
  waits_single k p e = (and_parts (is_unicast p.frame.to) (asks i k (body p.frame.bytes)) e).0

  forwarded_single : (k : List ℕ) (c : ℕ) (p : Pair) → forwarded i k c p ≡ true → is_unicast p.frame.to ≡ true
  forwarded_single k c p e = (copy_parts i p (and_parts (is_copy i p) (seeks i k c (body p.frame.bytes)) e).0).unicast

  pub conserved_with_losses : IsConservedWithLosses i t
  conserved_with_losses =
      let base = rising_conserved i whole ok (whole_is i t legal).rising in
      let many = λ (test : Entry → Bool) (never : (stamp : ℕ) → test (Lost stamp) ≡ false). lossy_count test never whole t lossy in
      record {
        listed = λ b c h. (let d = base.listed b c h in record {
          counted =
              let a = many (is_sent b) (λ s. refl) in
              let r = many (is_reached b c) (λ s. refl) in
              let u = open_or_lost (carries i b) (carries_single b) in
              let x = d.counted in
              omega (arith, a, r, u, x);
          elsewhere = λ e apart. many (is_reached b e) (λ s. refl) ∙ d.elsewhere e apart;
          kept = many (is_dropped b) (λ s. refl) ∙ d.kept;
        });
        unlisted = λ b h some. (let d = base.unlisted b h some in record {
          counted =
              let a = many (is_sent b) (λ s. refl) in
              let r = many (is_dropped b) (λ s. refl) in
              let u = open_or_lost (carries i b) (carries_single b) in
              let x = d.counted in
              omega (arith, a, r, u, x);
          nowhere = λ c. many (is_reached b c) (λ s. refl) ∙ d.nowhere c;
        });
        no_hop_limit = many is_hop_limit (λ s. refl) ∙ base.no_hop_limit;
      }

  pub hops_with_losses : HasHopsLeft i t
  hops_with_losses p c there copy h =
      rising_hops i whole ok (whole_is i t legal).rising p c (lossy_pending (cable_seats i) whole t p lossy there) copy h

  pub carried_with_losses : AreCarried i none_yet t
  carried_with_losses = lossy_carried i whole t none_yet lossy (carried_by i ok whole (whole_is i t legal).rising).carried

  pub taken_with_losses : AreTakenThere i [] t
  taken_with_losses = lossy_taken_there i whole t [] lossy (takers_there i whole (whole_is i t legal).rising)

  pub handed_with_losses : AreByHand i false t
  handed_with_losses = lossy_by_hand i whole t false lossy (handed_by i ok whole (whole_is i t legal).rising)

  -- Losses leave what was taken.
  taken_same : (k : List ℕ) → taken i k t ≡ taken i k whole
  taken_same k =
      let a = ap (count (λ p. was_taken t p && ends_so i k p)) (lossy_pairs (cable_seats i) whole t lossy) in
      let b = count_agree (λ p. was_taken t p && ends_so i k p) (λ p. was_taken whole p && ends_so i k p) (pairs (cable_seats i) whole)
      (each_all _ _ (λ p. ap (λ b. b && ends_so i k p)
      (lossy_any (is_taken p.frame.stamp p.seat.station) (λ s. refl) whole t lossy))) in
      a ∙ b

  pub looked_up_with_losses : (k : List ℕ) → NodesOnlyAsk i t → IsLookedUpWithLosses i t k
  looked_up_with_losses k only =
      let many = λ (test : Entry → Bool) (never : (stamp : ℕ) → test (Lost stamp) ≡ false). lossy_count test never whole t lossy in
      let base = rising_looked_up i whole k ok (whole_is i t legal).rising (sym (many (is_unasked i) (λ s. refl)) ∙ only) in
      let took = taken_same k in
      record {
        asked_is =
            let a = many (is_asked i k) (λ s. refl) in
            let u = open_or_lost (waits i k) (waits_single k) in
            let x = base.asked_is in
            omega (arith, a, u, x, took);
        listed = λ c e.
            let a = many (looks i k c) (λ s. refl) in
            let u = open_or_lost (forwarded i k c) (forwarded_single k c) in
            let x = base.listed c e in
            omega (arith, a, u, x, took);
        others = λ c e.
            let a = many (looks i k c) (λ s. refl) in
            let u = open_or_lost (forwarded i k c) (forwarded_single k c) in
            let x = base.others c e in
            omega (arith, a, u, x);
      }

-- ---- Transcripts without losses

-- A pair whose frame has this stamp.
abbrev some_pair : ℕ → Pair
some_pair stamp = record {
  frame = record { stamp = stamp; cable = 0; sender = 0; to = all_hw; kind = Ddp; bytes = [] };
  seat = record { cable = 0; station = 0; port = 0; hw = all_hw; group = None };
}

module _ (i : Internet) (t : List Entry) (legal : IsLegal i t) where
  pub legal_with_losses : IsLegalWithLosses i t
  legal_with_losses = rising_with_losses i t (legal_rises i t legal)

  none_kept : (f : Pair → Bool) → count (λ p. was_lost t p && f p) (pairs (cable_seats i) t) ≡ 0
  none_kept f =
      count_none (λ p. was_lost t p && f p) (pairs (cable_seats i) t)
      (each_all _ _ (λ p. and_left (was_lost t p) (f p) (rising_kept i t (legal_rises i t legal) p)))

  pub nothing_lost : (b k : List ℕ) (c : ℕ) → (lost i b t ≡ 0) × (lost_requests i k t ≡ 0) × (lost_forwards i k c t ≡ 0)
  nothing_lost b k c = (none_kept (carries i b), none_kept (waits i k), none_kept (forwarded i k c))

  pub no_loss : (stamp : ℕ) → ¬ Contains t (Lost stamp)
  no_loss stamp there =
      let at = contained_at t (Lost stamp) there in
      true≢false (sym (any_from (is_lost stamp) t at.0 (Lost stamp) at.1 (eq-eqb stamp stamp refl)) ∙ never)
    where
      never : list_any (is_lost stamp) t ≡ false
      never = rising_kept i t (legal_rises i t legal) (some_pair stamp)
