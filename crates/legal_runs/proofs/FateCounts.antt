-- The counts of requests that the fate of a pair adds.
use Rattle.std.proofs.Common.{◌+◌, ◌≡◌, ℕ, Bool, true, false, not, ◌&&◌, ◌||◌, ◌==◌, cond, List, [], ◌∷◌, Option, Some, None}
use Rattle.std.proofs.Common.{refl, sym, ap, ◌∙◌, subst, arith, true≢false}
use Rattle.std.specs.List.{AllByRecursion as Each}
use Rattle.std.proofs.lemmas.Bool.{and_left, and_right, ne_eqb}
use Rattle.at_base.specs.Text.{same_bytes}
use Rattle.at_base.specs.declared.address.Addr.{Addr}
use Rattle.ddp.specs.Bodies.{body, hops, target}
use Rattle.table_image.specs.Internet.{Internet}
use Rattle.audit.specs.Routing.{hand, home}
use Rattle.audit.specs.Rules.{Passes}
use Rattle.audit.specs.Walks.{Stops, StepsTo as GoesBy}
use Rattle.audit.proofs.WalkSteps.{nowhere, steps}
use Rattle.station.specs.declared.output.DropCause.TheVariants.{HopLimit}
use Rattle.station.specs.declared.heard.Kind.{Kind}
use Rattle.station.specs.declared.heard.Kind.TheVariants.{Ddp}
use Rattle.cable_model.specs.Pending.{Pair, pairs}
use Rattle.cable_model.specs.Transcript.{Dropped, count, one}
use Rattle.legal_runs.specs.Answers.{ends_at, keeps_by}
use Rattle.legal_runs.specs.Legs.{fate, fate_by, is_copy, is_datagram, is_unicast, leg, passed}
use Rattle.legal_runs.specs.Lookups.{asks, forwarded, is_asked, is_home, is_request, looks, seeks, waits}
use Rattle.legal_runs.specs.Requests.{is_forward, is_lookup, key_in, request}
use Rattle.legal_runs.specs.Stations.{cable_seat, cable_seats, has_address}
use Rattle.legal_runs.proofs.Does.{HopsFine, IsOf}
use Rattle.legal_runs.proofs.Frames.{Framed, target_inside, whole_inside}
use Rattle.legal_runs.proofs.Passing.{PairOk, copy_end, copy_parts, end_none, fate_of, goes_on, not_unicast}
use Rattle.legal_runs.proofs.Requested.{OnePair, kept_none, of_no_lookup, of_unasked, via_one}
use Rattle.legal_runs.proofs.Runs.{any}
use Rattle.legal_runs.proofs.Tallies.{and_swap, forward_pair, forwarded_none, waits_none}
use Rattle.station.specs.declared.output.Next.TheVariants as next

and_true : (b : Bool) → b ≡ (b && true)
and_true true = refl
and_true false = refl

module _ (i : Internet) (ok : Passes i) (stamp : ℕ) (p : Pair) (f : Framed p.frame.bytes) (good : PairOk i p) (fine : HopsFine i p) where
  of : Each (IsOf i any (body p.frame.bytes) (hops p.frame.bytes + 1)) (fate i stamp p)
  of = fate_of i ok stamp p f fine

  same : target (body p.frame.bytes) ≡ target p.frame.bytes
  same = target_inside p.frame.bytes f

  pub fate_unasked : (k : List ℕ) → count (is_asked i k) (fate i stamp p) ≡ 0
  fate_unasked k = of_unasked i any (body p.frame.bytes) (hops p.frame.bytes + 1) k (fate i stamp p) of

  -- A lookup isn't passed on.
  pub fate_looks : (k : List ℕ) (c : ℕ) → count (looks i k c) (fate i stamp p) ≡ 0
  fate_looks k c = by (is_lookup (request (body p.frame.bytes))) refl
    where
      by : (b : Bool) → is_lookup (request (body p.frame.bytes)) ≡ b → count (looks i k c) (fate i stamp p) ≡ 0
      by true e = ap (count (looks i k c)) (not_unicast i ok stamp p f (good.looker e))
      by false e = of_no_lookup i any (body p.frame.bytes) (hops p.frame.bytes + 1) k c (fate i stamp p) e of

  -- A broadcast request that doesn't end at the station is still pending afterwards.
  pub fate_waits : (k : List ℕ) → count (waits i k) (pairs (cable_seats i) (fate i stamp p)) ≡ one (waits i k p && not (ends_at i p))
  fate_waits k = by_request (is_request i (body p.frame.bytes)) refl
    where
      by_end : (b : Bool) → ends_at i p ≡ b → is_unicast p.frame.to ≡ true → is_request i (body p.frame.bytes) ≡ true
          → count (waits i k) (pairs (cable_seats i) (fate i stamp p)) ≡ one (waits i k p && not (ends_at i p))
      by_end true e u req =
          ap (count (waits i k)) (end_none i ok stamp p f e) ∙ sym (ap one (and_right (waits i k p) _ (ap not e)))
      by_end false e u req =
          let o = goes_on i ok stamp p f good u req e fine in
          let value : waits i k (record { frame = o.frame; seat = cable_seat i o.seat }) ≡ (waits i k p && not (ends_at i p)) =
          ap (λ x. x && asks i k (body o.frame.bytes)) o.unicast
          ∙ (ap (asks i k) o.same
          ∙ (sym (ap (λ x. x && asks i k (body p.frame.bytes)) u)
          ∙ (and_true (waits i k p) ∙ sym (ap (λ x. waits i k p && not x) e)))) in
          ap (count (waits i k)) o.only ∙ (let v = ap one value in omega (arith, v))

      by_unicast : (b : Bool) → is_unicast p.frame.to ≡ b → is_request i (body p.frame.bytes) ≡ true
          → count (waits i k) (pairs (cable_seats i) (fate i stamp p)) ≡ one (waits i k p && not (ends_at i p))
      by_unicast true u req = by_end (ends_at i p) refl u req
      by_unicast false u req =
          ap (λ es. count (waits i k) (pairs (cable_seats i) es)) (not_unicast i ok stamp p f u)
          ∙ sym (ap one (and_left (waits i k p) _ (and_left (is_unicast p.frame.to) _ u)))

      by_request : (b : Bool) → is_request i (body p.frame.bytes) ≡ b
          → count (waits i k) (pairs (cable_seats i) (fate i stamp p)) ≡ one (waits i k p && not (ends_at i p))
      by_request true req = by_unicast (is_unicast p.frame.to) refl req
      by_request false none =
          let not_waiting : waits i k p ≡ false =
          and_right (is_unicast p.frame.to) _ (and_left (is_request i (body p.frame.bytes)) _ none) in
          waits_none i any (body p.frame.bytes) (hops p.frame.bytes + 1) (fate i stamp p) of k none ∙ sym
          (ap one (and_left (waits i k p) _ not_waiting))

  -- A copy of a forward request that doesn't end at the station is passed on as a forward request.
  seeking : (k : List ℕ) (c : ℕ) → is_forward (request (body p.frame.bytes)) ≡ true → is_copy i p ≡ true → (o : Option ℕ)
      → home i (target p.frame.bytes).net ≡ o → (x : Bool) → ends_at i p ≡ x
      → count (forwarded i k c) (pairs (cable_seats i) (fate_by i stamp p.seat.station p
      (hand i p.seat.station (target p.frame.bytes).net)))
      ≡ one (seeks i k c (body p.frame.bytes) && not x)
  seeking k c q y None h x e =
      let none : seeks i k c (body p.frame.bytes) ≡ false =
      and_right (is_forward (request (body p.frame.bytes))) _ (and_right (same_bytes k (key_in (request (body p.frame.bytes)))) _
      (ap (λ (a : Addr). is_home (home i a.net) c) same ∙ ap (λ o. is_home o c) h)) in
      ap (λ z. count (forwarded i k c) (pairs (cable_seats i) (fate_by i stamp p.seat.station p z)))
      (nowhere i ok p.seat.station (target p.frame.bytes).net (copy_parts i p y).router h)
      ∙ sym (ap one (and_left (seeks i k c (body p.frame.bytes)) _ none))
  seeking k c q y (Some d) h true e =
      ap (count (forwarded i k c))
      (kept_none i ok stamp p.seat.station p (hand i p.seat.station (target p.frame.bytes).net) (sym (copy_end i p y) ∙ e))
      ∙ sym (ap one (and_right (seeks i k c (body p.frame.bytes)) false refl))
  seeking k c q y (Some d) h false e =
      let r = p.seat.station in
      let few = fine d y h in
      let node = good.seeker q in
      let there : home i (target (body p.frame.bytes)).net ≡ Some d = ap (λ (a : Addr). home i a.net) same ∙ h in
      let value : (d == c && same_bytes k (key_in (request (body p.frame.bytes)))) ≡ (seeks i k c (body p.frame.bytes) && true) =
      and_swap (d == c) (same_bytes k (key_in (request (body p.frame.bytes))))
      ∙ (ap (λ o. same_bytes k (key_in (request (body p.frame.bytes))) && is_home o c) (sym there)
      ∙ (ap (λ x. x && (same_bytes k (key_in (request (body p.frame.bytes))) && is_home (home i (target (body p.frame.bytes)).net) c))
      (sym q)
      ∙ and_true (seeks i k c (body p.frame.bytes)))) in
      elim (steps i ok r (target p.frame.bytes).net d (copy_parts i p y).router h) as (λ _.
      count (forwarded i k c) (pairs (cable_seats i) (fate_by i stamp r p (hand i r (target p.frame.bytes).net)))
      ≡ one (seeks i k c (body p.frame.bytes) && true)) [
        | Stops here none port ↦
            absurd (true≢false (sym (copy_end i p y ∙ (ap (keeps_by i r (target p.frame.bytes)) here
            ∙ ap (λ n. n == 0 || has_address i r d (target p.frame.bytes)) node)) ∙ e))
        | GoesBy s b a on own less nearer port its other ↦
            let step : fate_by i stamp r p (hand i r (target p.frame.bytes).net) ≡ leg i stamp (passed r p b (next.Station a)) =
            ap (fate_by i stamp r p) on
            ∙ ap (λ x. cond x (Dropped r HopLimit (body p.frame.bytes) ∷ []) (leg i stamp (passed r p b (next.Station a))))
            (ne_eqb (hops p.frame.bytes) 15 (λ z. absurd (omega (arith, z, few)))) in
            let o = via_one i ok stamp (passed r p b (next.Station a)) a s (whole_inside p.frame.bytes f)
            (omega (arith, few, nearer)) refl own in
            ap (λ es. count (forwarded i k c) (pairs (cable_seats i) es)) step
            ∙ (forward_pair i ok k c d (body p.frame.bytes) (leg i stamp (passed r p b (next.Station a))) o q there
            (ap (λ (x : Addr). x.node) same ∙ node) ∙ ap one value)
      ]

  pub fate_forwards : (k : List ℕ) (c : ℕ)
      → count (forwarded i k c) (pairs (cable_seats i) (fate i stamp p)) ≡ one (forwarded i k c p && not (ends_at i p))
  fate_forwards k c = by (is_forward (request (body p.frame.bytes))) refl
    where
      by_copy : (b : Bool) → is_copy i p ≡ b → is_forward (request (body p.frame.bytes)) ≡ true
          → count (forwarded i k c) (pairs (cable_seats i) (cond b (fate_by i stamp p.seat.station p
          (hand i p.seat.station (target p.frame.bytes).net)) []))
          ≡ one ((b && seeks i k c (body p.frame.bytes)) && not (ends_at i p))
      by_copy false y q = refl
      by_copy true y q = seeking k c q y (home i (target p.frame.bytes).net) refl (ends_at i p) refl

      by : (b : Bool) → is_forward (request (body p.frame.bytes)) ≡ b
          → count (forwarded i k c) (pairs (cable_seats i) (fate i stamp p)) ≡ one (forwarded i k c p && not (ends_at i p))
      by true q = by_copy (is_copy i p) refl q
      by false q =
          let none : forwarded i k c p ≡ false = and_right (is_copy i p) _ (and_left (is_forward (request (body p.frame.bytes))) _ q) in
          forwarded_none i any (body p.frame.bytes) (hops p.frame.bytes + 1) (fate i stamp p) of k c q ∙ sym
          (ap one (and_left (forwarded i k c p) _ none))

  -- ---- The pairs of a fate satisfy what every pair does

  kind_is : (kind : Kind) → kind ≡ Ddp → is_datagram kind ≡ true
  kind_is kind e = ap is_datagram e

  pub pair_good : (o : OnePair i (body p.frame.bytes) (fate i stamp p)) → is_lookup (request (body p.frame.bytes)) ≡ false
      → Each (PairOk i) (pairs (cable_seats i) (fate i stamp p))
  pair_good o look =
      subst (Each (PairOk i)) (sym o.only) (
        record {
          asker = λ u b. o.router;
          seeker = λ q. ap (λ (a : Addr). a.node) (o.to_same ∙ same) ∙ good.seeker (sym (ap (λ x. is_forward (request x)) o.same) ∙ q);
          looker = λ q. absurd (true≢false (sym q ∙ (ap (λ x. is_lookup (request x)) o.same ∙ look)));
          kind = kind_is o.frame.kind o.datagram;
        },
        tt,
      )
