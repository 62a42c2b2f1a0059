-- What conservation, hops left and lookups say where stations hold datagrams, from what they say of the plain transcript.
use Rattle.std.proofs.Common.{◌≡◌, ℕ, ◌+◌, ◌≤◌, Bool, true, false, not, ◌&&◌, ◌==◌, List, [], Some, Contains}
use Rattle.std.proofs.Common.{ap, arith, is_some, ltb-false, ltb-true, nat_lt, refl, subst, sym, ◌∙◌}
use Rattle.std.specs.List.{AllByRecursion as Each}
use Rattle.std.proofs.lemmas.Bool.{and_left, and_parts, and_right, false_from_ne_true}
use Rattle.ddp.specs.Bodies.{hops, target}
use Rattle.table_image.specs.Internet.{Internet}
use Rattle.table_image.specs.Seats.{seat_at}
use Rattle.audit.specs.Routing.{distance, home, owner}
use Rattle.audit.specs.Rules.{Passes}
use Rattle.audit.proofs.WalkFacts.{owner_is, some_of}
use Rattle.station.specs.declared.heard.Kind.TheVariants.{Aarp}
use Rattle.cable_model.specs.Holdings.{holds, still_held, was_released}
use Rattle.cable_model.specs.Pending.{Pair, pairs_of, pending}
use Rattle.cable_model.specs.Transcript.{Entry, Holding, count}
use Rattle.cable_model.proofs.Counting.{At, contained_at, count_agree, count_at, count_none, each_at, each_more}
use Rattle.cable_model.proofs.Left.{each_filter}
use Rattle.legal_runs.specs.Answers.{ends_at}
use Rattle.legal_runs.specs.Counts.{carries, is_dropped, is_hop_limit, is_reached, is_sent}
use Rattle.legal_runs.specs.Legs.{is_copy, is_datagram, is_unicast}
use Rattle.legal_runs.specs.Lookups.{NodesOnlyAsk, ends_so, forwarded, is_asked, is_unasked, waits}
use Rattle.legal_runs.specs.LossyRuns.{IsLegalWithLosses}
use Rattle.legal_runs.specs.Stations.{cable_seats, has_address, is_router}
use Rattle.legal_runs.proofs.LookedUp.{requests}
use Rattle.legal_runs.proofs.Lossy.{lossy_count, lossy_pairs, whole_is}
use Rattle.legal_runs.proofs.LossyLaws.{conserved_with_losses, hops_with_losses, looked_up_with_losses}
use Rattle.legal_runs.proofs.Passing.{PairOk}
use Rattle.resolved_runs.specs.HeldCounts.{holds_copy, holds_forward, holds_request, is_held_copy, was_given_up}
use Rattle.resolved_runs.specs.Plain.{plain}
use Rattle.resolved_runs.specs.ResolvedLaws.{HasHopsLeftResolved, IsConservedResolved}
use Rattle.resolved_runs.specs.ResolvedLaws.{IsLookedUpResolved}
use Rattle.resolved_runs.proofs.Told.{IsPacket, IsTold}
use Rattle.resolved_runs.proofs.Elements.{contained, each_in}
use Rattle.resolved_runs.proofs.HeldPairs.{IsNoLookup, OfFrame, by_entry, carries_held, copy_same, forwarded_held, held_frames, no_lookup}
use Rattle.resolved_runs.proofs.HeldPairs.{waits_held}
use Rattle.resolved_runs.proofs.Networks.{IsSome, all_are_some}
use Rattle.resolved_runs.proofs.PlainCounts.{plain_lost_count, plain_pending, plain_taken_count}
use Rattle.resolved_runs.proofs.PlainLookups.{aarp_asks_nothing, plain_looks}
use Rattle.resolved_runs.proofs.PlainPairs.{passes, passes_at}
use Rattle.resolved_runs.proofs.PlainEntries.{same_entries}

-- An AARP frame is no copy.
aarp_no_copy : (i : Internet) (p : Pair) → p.frame.kind ≡ Aarp → is_copy i p ≡ false
aarp_no_copy i p e =
    none (is_datagram p.frame.kind) (is_unicast p.frame.to) (is_router i p.seat.station) ((target p.frame.bytes).net == 0)
    (has_address i p.seat.station p.seat.cable (target p.frame.bytes)) (ap is_datagram e)
  where
    none : (k u r z h : Bool) → k ≡ false → (k && u && r && not z && not h) ≡ false
    none false u r z h e = refl
    none true u r z h e = cc

-- A copy to a listed network that hasn't enough hops left.
abbrev is_late : Internet → Pair → Bool
is_late i p =
    is_copy i p && (is_some (home i (target p.frame.bytes).net)
    && nat_lt 14 (hops p.frame.bytes + distance i p.seat.station (target p.frame.bytes).net))

module _ (i : Internet) (t : List Entry) (ok : Passes i) (told : IsTold i t) (legal : IsLegalWithLosses i (plain i t)) where
  -- No datagram is held for a station and for network 0.
  fine : Each (OfFrame i IsSome) (holds t)
  fine = held_frames i IsSome t (all_are_some i ok (plain i t) legal)

  -- ---- Counts

  module _ (test : Pair → Bool) (datagrams : (p : Pair) → p.frame.kind ≡ Aarp → IsPacket i p.frame → test p ≡ false)
      (there : Holding → Bool) (same : (h : Holding) → OfFrame i IsSome h → passes i test h ≡ there h) where
    still_same : count (passes i test) (still_held t) ≡ count there (still_held t)
    still_same =
        count_agree (passes i test) there (still_held t)
        (each_filter (λ h. passes i test h ≡ there h) (λ h. not (was_released t h)) (holds t)
        (each_more (OfFrame i IsSome) (λ h. passes i test h ≡ there h) (holds t) same fine))

    given_same : count (λ h. was_given_up t h && passes i test h) (holds t) ≡ count (λ h. was_given_up t h && there h) (holds t)
    given_same =
        count_agree (λ h. was_given_up t h && passes i test h) (λ h. was_given_up t h && there h) (holds t)
        (each_more (OfFrame i IsSome) (λ h. (was_given_up t h && passes i test h) ≡ (was_given_up t h && there h)) (holds t)
        (λ h f. ap (λ b. was_given_up t h && b) (same h f)) fine)

    -- What is pending in the plain transcript.
    open_same : count test (pending (cable_seats i) (plain i t))
        ≡ count test (pending (cable_seats i) t) + count there (still_held t)
    open_same =
        let a = plain_pending i ok t told test datagrams in
        let b = still_same in
        omega (arith, a, b)

  copies_only : (test : Pair → Bool) (p : Pair) → p.frame.kind ≡ Aarp → IsPacket i p.frame → (is_copy i p && test p) ≡ false
  copies_only test p e packet = and_left (is_copy i p) (test p) (aarp_no_copy i p e)

  waits_only : (k : List ℕ) (p : Pair) → p.frame.kind ≡ Aarp → IsPacket i p.frame → waits i k p ≡ false
  waits_only k p e packet = and_right (is_unicast p.frame.to) _ (aarp_asks_nothing i k p.frame packet)

  ends_only : (k : List ℕ) (p : Pair) → p.frame.kind ≡ Aarp → IsPacket i p.frame → ends_so i k p ≡ false
  ends_only k p e packet = and_left (waits i k p) (ends_at i p) (waits_only k p e packet)

  abbrev carries_only : (b : List ℕ) (p : Pair) → p.frame.kind ≡ Aarp → IsPacket i p.frame → carries i b p ≡ false
  carries_only b p e packet = and_left (is_copy i p) _ (aarp_no_copy i p e)

  abbrev forwarded_only : (k : List ℕ) (c : ℕ) (p : Pair) → p.frame.kind ≡ Aarp → IsPacket i p.frame → forwarded i k c p ≡ false
  forwarded_only k c p e packet = and_left (is_copy i p) _ (aarp_no_copy i p e)

  sent_same : (b : List ℕ) → count (is_sent b) (plain i t) ≡ count (is_sent b) t
  sent_same b = same_entries i (is_sent b) (λ f. refl) (λ n s. refl) (λ n. refl) (λ h. refl) (λ c s x y d. refl) [] t

  reached_same : (b : List ℕ) (c : ℕ) → count (is_reached b c) (plain i t) ≡ count (is_reached b c) t
  reached_same b c = same_entries i (is_reached b c) (λ f. refl) (λ n s. refl) (λ n. refl) (λ h. refl) (λ a s x y d. refl) [] t

  dropped_same : (b : List ℕ) → count (is_dropped b) (plain i t) ≡ count (is_dropped b) t
  dropped_same b = same_entries i (is_dropped b) (λ f. refl) (λ n s. refl) (λ n. refl) (λ h. refl) (λ c s x y d. refl) [] t

  limit_same : count is_hop_limit (plain i t) ≡ count is_hop_limit t
  limit_same = same_entries i is_hop_limit (λ f. refl) (λ n s. refl) (λ n. refl) (λ h. refl) (λ c s x y d. refl) [] t

  asked_same : (k : List ℕ) → count (is_asked i k) (plain i t) ≡ count (is_asked i k) t
  asked_same k = same_entries i (is_asked i k) (λ f. refl) (λ n s. refl) (λ n. refl) (λ h. refl) (λ c s x y d. refl) [] t

  unasked_same : count (is_unasked i) (plain i t) ≡ count (is_unasked i) t
  unasked_same = same_entries i (is_unasked i) (λ f. refl) (λ n s. refl) (λ n. refl) (λ h. refl) (λ c s x y d. refl) [] t

  -- ---- Conservation

  pub conserved_resolved : IsConservedResolved i t
  conserved_resolved =
      let base = conserved_with_losses i (plain i t) ok legal in
      record {
        listed = λ b c h. (let d = base.listed b c h in record {
          counted =
              let a = sent_same b in
              let r = reached_same b c in
              let u = open_same (carries i b) (carries_only b) (holds_copy i b) (carries_held i ok b) in
              let l = plain_lost_count i ok t told (carries i b) (carries_only b) in
              let g = given_same (carries i b) (carries_only b) (holds_copy i b) (carries_held i ok b) in
              let x = d.counted in
              omega (arith, a, r, u, l, g, x);
          elsewhere = λ e apart. sym (reached_same b e) ∙ d.elsewhere e apart;
          kept = sym (dropped_same b) ∙ d.kept;
        });
        unlisted = λ b h some. (let d = base.unlisted b h some in record {
          counted =
              let a = sent_same b in
              let r = dropped_same b in
              let u = open_same (carries i b) (carries_only b) (holds_copy i b) (carries_held i ok b) in
              let l = plain_lost_count i ok t told (carries i b) (carries_only b) in
              let g = given_same (carries i b) (carries_only b) (holds_copy i b) (carries_held i ok b) in
              let x = d.counted in
              omega (arith, a, r, u, l, g, x);
          nowhere = λ c. sym (reached_same b c) ∙ d.nowhere c;
        });
        no_hop_limit = sym limit_same ∙ base.no_hop_limit;
      }

  -- ---- Hops left

  late_not : (p : Pair) (k : ℕ) → At (pending (cable_seats i) (plain i t)) k p → is_late i p ≡ false
  late_not p k at =
      false_from_ne_true (is_late i p) (λ e.
      let x = and_parts (is_copy i p) _ e in
      let y = and_parts (is_some (home i (target p.frame.bytes).net)) _ x.1 in
      let c = some_of (home i (target p.frame.bytes).net) y.0 in
      let few = hops_with_losses i (plain i t) ok legal p c.0 (contained (pending (cable_seats i) (plain i t)) p (k, at)) x.0 c.1 in
      let many = ltb-true 14 _ y.1 in
      absurd (omega (arith, few, many)))

  none_late : count (is_late i) (pending (cable_seats i) (plain i t)) ≡ 0
  none_late =
      count_none (is_late i) (pending (cable_seats i) (plain i t))
      (each_in (λ p. is_late i p ≡ false) (pending (cable_seats i) (plain i t)) (λ p w. late_not p w.0 w.1))

  late_split : (count (is_late i) (pending (cable_seats i) t) ≡ 0) × (count (passes i (is_late i)) (still_held t) ≡ 0)
  late_split =
      let a = plain_pending i ok t told (is_late i) (λ p e packet. and_left (is_copy i p) _ (aarp_no_copy i p e)) in
      let b = none_late in
      (omega (arith, a, b), omega (arith, a, b))

  -- A test that counts nothing passes no element.
  passes_none : {X : Type 0} (test : X → Bool) (xs : List X) (x : X) → count test xs ≡ 0 → Contains xs x → test x ≡ false
  passes_none test xs x none there =
      let at = contained_at xs x there in
      false_from_ne_true (test x) (λ e. let some = count_at test xs at.0 x at.1 e in absurd (omega (arith, none, some)))

  few_left : (copy listed : Bool) (n : ℕ) → copy ≡ true → listed ≡ true → (copy && (listed && nat_lt 14 n)) ≡ false → n ≤ 14
  few_left true true n a b e = ltb-false 14 n e
  few_left false listed n a b e = cc
  few_left true false n a b e = cc

  pub hops_resolved : HasHopsLeftResolved i t
  hops_resolved = record {
    frames = λ p c there copy h.
        few_left (is_copy i p) (is_some (home i (target p.frame.bytes).net))
        (hops p.frame.bytes + distance i p.seat.station (target p.frame.bytes).net) copy (ap is_some h)
        (passes_none (is_late i) (pending (cable_seats i) t) p late_split.0 there);
    held = λ h r c there copy own listed. held_few h r c (contained_at (still_held t) h there) copy own listed
        (passes_none (passes i (is_late i)) (still_held t) h late_split.1 there);
  }
    where
      held_few : (h : Holding) (r c : ℕ) → (k : ℕ) × At (still_held t) k h → is_held_copy i h ≡ true → owner i h.cable h.next ≡ Some r
          → home i (target h.bytes).net ≡ Some c → passes i (is_late i) h ≡ false → hops h.bytes + distance i r (target h.bytes).net ≤ 14
      held_few h r c w copy own listed late =
          let each = each_filter (OfFrame i IsSome) (λ d. not (was_released t d)) (holds t) fine in
          let some = each_at (OfFrame i IsSome) (still_held t) w.0 h w.1 each in
          let o = owner_is i h.cable h.next r own in
          let s = o.0.0 in
          let found = o.0.1 in
          let is_one : passes_at i (is_copy i) h (seat_at i h.cable h.next) ≡ true =
          copy_same i ok h (seat_at i h.cable h.next) refl some ∙ copy in
          let alone = ap (passes_at i (is_copy i) h) (sym found) ∙ is_one in
          let few = few_left _ (is_some (home i (target h.bytes).net)) (hops h.bytes + distance i s.station (target h.bytes).net) alone
          (ap is_some listed) (ap (passes_at i (is_late i) h) (sym found) ∙ late) in
          let same = ap (λ n. distance i n (target h.bytes).net) o.0.2 in
          omega (arith, few, same)

  -- ---- Requests and lookups

  none_held : NodesOnlyAsk i t → Each (IsNoLookup i) (holds t)
  none_held only =
      let w = whole_is i (plain i t) legal in
      let asks = sym (lossy_count (is_unasked i) (λ s. refl) w.entries (plain i t) w.lossy) ∙ (unasked_same ∙ only) in
      let good = subst (Each (PairOk i)) (sym (lossy_pairs (cable_seats i) w.entries (plain i t) w.lossy))
      (requests i ok w.entries w.rising asks).good in
      each_more (OfFrame i (λ e. Each (PairOk i) (pairs_of (cable_seats i) e))) (IsNoLookup i) (holds t) (no_lookup i ok)
      (held_frames i (λ e. Each (PairOk i) (pairs_of (cable_seats i) e)) t (by_entry i (PairOk i) (plain i t) good))

  pub looked_up_resolved : (k : List ℕ) → NodesOnlyAsk i t → IsLookedUpResolved i t k
  looked_up_resolved k only =
      let base = looked_up_with_losses i (plain i t) ok legal k (unasked_same ∙ only) in
      let took = plain_taken_count i ok t told (ends_so i k) (ends_only k) in
      let none = none_held only in
      record {
        asked_is =
            let a = asked_same k in
            let u = open_same (waits i k) (waits_only k) (holds_request i k) (λ h f. waits_held i ok k h) in
            let l = plain_lost_count i ok t told (waits i k) (waits_only k) in
            let g = given_same (waits i k) (waits_only k) (holds_request i k) (λ h f. waits_held i ok k h) in
            let x = base.asked_is in
            omega (arith, a, u, l, g, x, took);
        listed = λ c e.
            let a = plain_looks i k c t told none in
            let u = open_same (forwarded i k c) (forwarded_only k c) (holds_forward i k c) (forwarded_held i ok k c) in
            let l = plain_lost_count i ok t told (forwarded i k c) (forwarded_only k c) in
            let g = given_same (forwarded i k c) (forwarded_only k c) (holds_forward i k c) (forwarded_held i ok k c) in
            let x = base.listed c e in
            omega (arith, a, u, l, g, x, took);
        others = λ c e.
            let a = plain_looks i k c t told none in
            let u = open_same (forwarded i k c) (forwarded_only k c) (holds_forward i k c) (forwarded_held i ok k c) in
            let l = plain_lost_count i ok t told (forwarded i k c) (forwarded_only k c) in
            let g = given_same (forwarded i k c) (forwarded_only k c) (holds_forward i k c) (forwarded_held i ok k c) in
            let x = base.others c e in
            omega (arith, a, u, l, g, x);
      }
