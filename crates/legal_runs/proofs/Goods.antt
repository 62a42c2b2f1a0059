-- The pairs of legs and fates satisfy what every pair of a run does.
use Rattle.std.proofs.Common.{◌≡◌, ℕ, ◌+◌, ◌<◌, Bool, true, false, not, ◌&&◌, cond, List, [], ◌∷◌, ◌++◌}
use Rattle.std.proofs.Common.{inl, inr, refl, sym, ap, ◌∙◌, subst, arith, true≢false, lt-ltb}
use Rattle.std.specs.List.{AllByRecursion as Each}
use Rattle.std.proofs.lemmas.Bool.{and_left}
use Rattle.at_base.specs.declared.address.Addr.{Addr}
use Rattle.ddp.specs.Bodies.{body, hops, target}
use Rattle.table_image.specs.Internet.{Internet}
use Rattle.audit.specs.Routing.{hand}
use Rattle.audit.specs.Rules.{Passes}
use Rattle.station.specs.declared.heard.Kind.TheVariants.{Ddp}
use Rattle.cable_model.specs.declared.seat.Seat.{Seat}
use Rattle.cable_model.specs.Outcomes.{framed as framed_by}
use Rattle.cable_model.specs.Pending.{Pair, pairs, pairs_of}
use Rattle.at_base.specs.Multicast.{group_hw, group_of, is_all}
use Rattle.cable_model.specs.Transcript.{Entry, Sent, count, one, stamps}
use Rattle.cable_model.proofs.Counting.{each-append, each_all, each_map, each_more}
use Rattle.cable_model.proofs.Pairs.{pairs-append}
use Rattle.legal_runs.specs.Answers.{Expands, IsLookup, IsMade, IsOwn, ends_at, is_other}
use Rattle.legal_runs.specs.Legs.{Leg, fate, fate_by, is_copy, is_datagram, is_unicast, leg, leg_bytes, sender}
use Rattle.legal_runs.specs.Losses.{Another, Nothing, Said}
use Rattle.legal_runs.specs.Lookups.{asks, is_request, waits}
use Rattle.legal_runs.specs.Requests.{is_forward, is_lookup, request, zone_of}
use Rattle.legal_runs.specs.Stations.{cable_seats}
use Rattle.legal_runs.proofs.Does.{Does, HopsFine, IsOf}
use Rattle.legal_runs.proofs.FateCounts.{pair_good}
use Rattle.legal_runs.proofs.Fates.{fate_does}
use Rattle.legal_runs.proofs.Frames.{Framed, target_inside, whole}
use Rattle.legal_runs.proofs.Legs.{to_group}
use Rattle.legal_runs.proofs.Listing.{forward_alone, lookup_alone, other_alone}
use Rattle.legal_runs.proofs.Passing.{PairOk, end_none, fate_of, goes_on, not_unicast, request_some}
use Rattle.legal_runs.proofs.Requested.{OnePair, of_bodies, of_kinds, via_one}
use Rattle.legal_runs.proofs.Rising.{said_one}
use Rattle.legal_runs.proofs.Runs.{any, made_does}
use Rattle.legal_runs.proofs.Tallies.{leg_of, no_request, waits_none}

-- Two properties that each hold of every element hold together.
each_both : {X : Type 0} (P Q : X → Type 0) (xs : List X) → Each P xs → Each Q xs → Each (λ x. P x × Q x) xs
each_both P Q [] h g = tt
each_both P Q (x ∷ xs) h g = ((h.0, g.0), each_both P Q xs h.1 g.1)

-- A group's address isn't that of one station.
group_is : (g : ℕ) → g < 253 → is_unicast (group_hw g) ≡ false
group_is g lt = ap (λ b. not (is_all (group_hw g)) && not (true && b)) (lt-ltb g 253 lt) ∙ last (is_all (group_hw g))
  where
    last : (b : Bool) → (not b && not (true && true)) ≡ false
    last true = refl
    last false = refl

module _ (i : Internet) (ok : Passes i) where
  -- Entries of a datagram that is neither a broadcast request nor a lookup.
  of_good : (d : List ℕ) (hop : ℕ) (es : List Entry) → Each (IsOf i any d hop) es → Each (λ p. Framed p.frame.bytes)
      (pairs (cable_seats i) es)
      → is_request i d ≡ false → (is_forward (request d) ≡ true → (target d).node ≡ 0) → is_lookup (request d) ≡ false
      → Each (PairOk i) (pairs (cable_seats i) es)
  of_good d hop es of framed req seek look =
      each_more (λ p. ((body p.frame.bytes ≡ d) × (p.frame.kind ≡ Ddp)) × Framed p.frame.bytes) (PairOk i) (pairs (cable_seats i) es)
      (λ p h. record {
        asker = λ u b. absurd (true≢false (sym b ∙ (ap (is_request i) h.0.0 ∙ req)));
        seeker = λ q. ap (λ (a : Addr). a.node) (sym (target_inside p.frame.bytes h.1))
            ∙ (ap (λ x. (target x).node) h.0.0 ∙ seek (sym (ap (λ x. is_forward (request x)) h.0.0) ∙ q));
        looker = λ q. absurd (true≢false (sym q ∙ (ap (λ x. is_lookup (request x)) h.0.0 ∙ look)));
        kind = ap is_datagram h.0.1;
      })
      (each_both (λ p. (body p.frame.bytes ≡ d) × (p.frame.kind ≡ Ddp)) (λ p. Framed p.frame.bytes) (pairs (cable_seats i) es)
      (each_both (λ p. body p.frame.bytes ≡ d) (λ p. p.frame.kind ≡ Ddp) (pairs (cable_seats i) es) (of_bodies i any d hop es of)
      (of_kinds i any d hop es of)) framed)

  -- One frame to a router.
  one_good : (d : List ℕ) (es : List Entry) → OnePair i d es → (is_forward (request d) ≡ true → (target d).node ≡ 0)
      → is_lookup (request d) ≡ false → Each (PairOk i) (pairs (cable_seats i) es)
  one_good d es o seek look =
      subst (Each (PairOk i)) (sym o.only) (
        record {
          asker = λ u b. o.router;
          seeker = λ q. ap (λ (a : Addr). a.node) o.to_same ∙ seek (sym (ap (λ x. is_forward (request x)) o.same) ∙ q);
          looker = λ q. absurd (true≢false (sym q ∙ (ap (λ x. is_lookup (request x)) o.same ∙ look)));
          kind = ap is_datagram o.datagram;
        },
        tt,
      )

  -- ---- Legs

  leg_does_any : (stamp : ℕ) (l : Leg) → IsMade i l → Does i any any l.body l.hops (leg i stamp l)
  leg_does_any stamp l made = made_does i ok any any stamp l made (λ s. tt) (λ c. tt)

  leg_good : (stamp : ℕ) (l : Leg) → IsMade i l → is_request i l.body ≡ false
      → (is_forward (request l.body) ≡ true → (target l.body).node ≡ 0)
      → is_lookup (request l.body) ≡ false → Each (PairOk i) (pairs (cable_seats i) (leg i stamp l))
  leg_good stamp l made req seek look =
      of_good l.body l.hops (leg i stamp l) (leg_of i ok stamp l made) (leg_does_any stamp l made).framed req seek look

  own_pair : (stamp : ℕ) (l : Leg) → IsMade i l → IsOwn i l → is_request i l.body ≡ true → OnePair i l.body (leg i stamp l)
  own_pair stamp l made own req =
      let fresh = made.fresh in
      elim own.handed as (λ _. OnePair i l.body (leg i stamp l)) [
        | inl z ↦ absurd (request_some i ok l.body req z)
        | inr w ↦ via_one i ok stamp l w.0 w.1 (whole l.body made.whole) (omega (arith, fresh)) w.2 w.3
      ]

  pub own_good : (stamp : ℕ) (l : Leg) → IsMade i l → IsOwn i l → is_forward (request l.body) ≡ false → is_lookup (request l.body) ≡ false
      → Each (PairOk i) (pairs (cable_seats i) (leg i stamp l))
  own_good stamp l made own no_forward no_lookup = by (is_request i l.body) refl
    where
      seek : is_forward (request l.body) ≡ true → (target l.body).node ≡ 0
      seek q = absurd (true≢false (sym q ∙ no_forward))

      by : (b : Bool) → is_request i l.body ≡ b → Each (PairOk i) (pairs (cable_seats i) (leg i stamp l))
      by true e = one_good l.body (leg i stamp l) (own_pair stamp l made own e) seek no_lookup
      by false e = leg_good stamp l made e seek no_lookup

  pub own_waits : (k : List ℕ) (stamp : ℕ) (l : Leg) → IsMade i l → IsOwn i l
      → count (waits i k) (pairs (cable_seats i) (leg i stamp l)) ≡ one (asks i k l.body)
  own_waits k stamp l made own = by (is_request i l.body) refl
    where
      by : (b : Bool) → is_request i l.body ≡ b → count (waits i k) (pairs (cable_seats i) (leg i stamp l)) ≡ one (asks i k l.body)
      by true e =
          let o = own_pair stamp l made own e in
          let value = ap one (ap (λ x. x && asks i k (body o.frame.bytes)) o.unicast ∙ ap (asks i k) o.same) in
          let all = ap (count (waits i k)) o.only in
          omega (arith, value, all)
      by false e =
          waits_none i any l.body l.hops (leg i stamp l) (leg_of i ok stamp l made) k e ∙ sym (ap one (and_left (is_request i l.body) _ e))

  lookup_good : (stamp : ℕ) (key : List ℕ) (r d : ℕ) (l : Leg) → IsMade i l → IsLookup i key r d l
      → Each (PairOk i) (pairs (cable_seats i) (leg i stamp l))
  lookup_good stamp key r d l made h =
      let fresh = made.fresh in
      let alone = lookup_alone (request l.body) h.kind in
      let g = group_of (zone_of key) in
      let to = group_is g (omega arith) in
      let does = leg_does_any stamp l made in
      each_more (λ p. ((body p.frame.bytes ≡ l.body) × (p.frame.kind ≡ Ddp)) × (p.frame.to ≡ group_hw g)) (PairOk i)
      (pairs (cable_seats i) (leg i stamp l))
      (λ p x. record {
        asker = λ u b. absurd (true≢false (sym b ∙ (ap (is_request i) x.0.0 ∙ no_request i l.body alone.0)));
        seeker = λ q. absurd (true≢false (sym q ∙ (ap (λ z. is_forward (request z)) x.0.0 ∙ alone.1)));
        looker = λ q. ap is_unicast x.1 ∙ to;
        kind = ap is_datagram x.0.1;
      })
      (each_both (λ p. (body p.frame.bytes ≡ l.body) × (p.frame.kind ≡ Ddp)) (λ p. p.frame.to ≡ group_hw g)
      (pairs (cable_seats i) (leg i stamp l))
      (each_both (λ p. body p.frame.bytes ≡ l.body) (λ p. p.frame.kind ≡ Ddp) (pairs (cable_seats i) (leg i stamp l))
      (of_bodies i any l.body l.hops (leg i stamp l) does.of) (of_kinds i any l.body l.hops (leg i stamp l) does.of))
      (subst (λ es. Each (λ p. p.frame.to ≡ group_hw g) (pairs (cable_seats i) es)) (sym (to_group i stamp l g h.next))
      (each-append (λ p. p.frame.to ≡ group_hw g)
      (pairs_of (cable_seats i) (framed_by (sender stamp l) (group_hw g) Ddp (leg_bytes l))) []
      (each_map (λ p. p.frame.to ≡ group_hw g) (λ (s : Seat). record {
        frame = record {
          stamp = stamp;
          cable = l.cable;
          sender = l.station;
          to = group_hw g;
          kind = Ddp;
          bytes = leg_bytes l;
        };
        seat = s;
      }) _ (each_all _ _ (λ s. refl))) tt)))

  both_good : (l : Leg) (es fs : List Entry) → Each (PairOk i) (pairs (cable_seats i) es) → Each (PairOk i) (pairs (cable_seats i) fs)
      → Each (PairOk i) (pairs (cable_seats i) (Sent l.station l.body ∷ (es ++ fs)))
  both_good l es fs a b =
      subst (Each (PairOk i)) (sym (pairs-append (cable_seats i) es fs))
      (each-append (PairOk i) (pairs (cable_seats i) es) (pairs (cable_seats i) fs) a b)

  pub expanded_good : (n : ℕ) (key : List ℕ) (r : ℕ) (cs : List ℕ) (ls : List Leg) (es : List Entry) → Said i n ls es → Each (IsMade i) ls
      → Expands i key r cs ls → Each (PairOk i) (pairs (cable_seats i) es)
  expanded_good n key r [] ls es (Nothing m) made h = tt
  expanded_good n key r [] ls es (Another m stamp l more fs le said) made h = absurd h
  expanded_good n key r (d ∷ cs) ls es (Nothing m) made h = absurd h
  expanded_good n key r (d ∷ cs) ls es (Another m stamp l more fs le said) made h =
      let rest = expanded_good (stamp + stamps (leg i stamp l)) key r cs more fs said made.1 h.1 in
      let first = elim h.0 as (λ _. Each (PairOk i) (pairs (cable_seats i) (leg i stamp l))) [
        | inl a ↦ lookup_good stamp key r d l made.0 a
        | inr b ↦
            let alone = forward_alone (request l.body) b.kind in
            leg_good stamp l made.0 (no_request i l.body alone.0) (λ q. b.node) alone.1
      ] in
      both_good l (leg i stamp l) fs first rest

  pub looked_good : (n : ℕ) (key : List ℕ) (r d : ℕ) (l : Leg) (es : List Entry) → Said i n (l ∷ []) es → IsMade i l
      → IsLookup i key r d l → Each (PairOk i) (pairs (cable_seats i) es)
  looked_good n key r d l es said made h =
      let w = said_one i n l es said in
      subst (λ x. Each (PairOk i) (pairs (cable_seats i) x)) (sym w.all) (lookup_good w.stamp key r d l made h)

  pub others_good : (n : ℕ) (ls : List Leg) (es : List Entry) → Said i n ls es → Each (IsMade i) ls → Each (λ l. is_other l.body ≡ true) ls
      → Each (PairOk i) (pairs (cable_seats i) es)
  others_good n ls es (Nothing m) made h = tt
  others_good n ls es (Another m stamp l more fs le said) made h =
      let e = other_alone l.body h.0 in
      both_good l (leg i stamp l) fs
      (leg_good stamp l made.0 (no_request i l.body e.0) (λ q. absurd (true≢false (sym q ∙ e.1))) e.2)
      (others_good (stamp + stamps (leg i stamp l)) more fs said made.1 h.1)

  -- ---- Fates

  fate_framed : (stamp : ℕ) (p : Pair) → Framed p.frame.bytes → HopsFine i p → Each (λ q. Framed q.frame.bytes)
      (pairs (cable_seats i) (fate i stamp p))
  fate_framed stamp p f fine = by (is_copy i p) refl
    where
      by : (b : Bool) → is_copy i p ≡ b → Each (λ q. Framed q.frame.bytes) (pairs (cable_seats i) (fate i stamp p))
      by true e = (fate_does i ok any any stamp p f e fine (λ c h at. tt) (λ s d a on. tt)).framed
      by false e =
          subst (λ b. Each (λ q. Framed q.frame.bytes) (pairs (cable_seats i)
          (cond b (fate_by i stamp p.seat.station p (hand i p.seat.station (target p.frame.bytes).net)) []))) (sym e) tt

  pub fate_good : (stamp : ℕ) (p : Pair) → Framed p.frame.bytes → PairOk i p → HopsFine i p → Each (PairOk i)
      (pairs (cable_seats i) (fate i stamp p))
  fate_good stamp p f good fine = by_unicast (is_unicast p.frame.to) refl
    where
      by_end : (b : Bool) → ends_at i p ≡ b → is_unicast p.frame.to ≡ true → is_lookup (request (body p.frame.bytes)) ≡ false
          → is_request i (body p.frame.bytes) ≡ true → Each (PairOk i) (pairs (cable_seats i) (fate i stamp p))
      by_end true e u look req = subst (Each (PairOk i)) (sym (end_none i ok stamp p f e)) tt
      by_end false e u look req = pair_good i ok stamp p f good fine (goes_on i ok stamp p f good u req e fine) look

      by_request : (b : Bool) → is_request i (body p.frame.bytes) ≡ b → is_unicast p.frame.to ≡ true
          → is_lookup (request (body p.frame.bytes)) ≡ false → Each (PairOk i) (pairs (cable_seats i) (fate i stamp p))
      by_request true req u look = by_end (ends_at i p) refl u look req
      by_request false req u look =
          of_good (body p.frame.bytes) (hops p.frame.bytes + 1) (fate i stamp p) (fate_of i ok stamp p f fine)
          (fate_framed stamp p f fine) req
          (λ q. ap (λ (a : Addr). a.node) (target_inside p.frame.bytes f) ∙ good.seeker q) look

      by_lookup : (b : Bool) → is_lookup (request (body p.frame.bytes)) ≡ b → is_unicast p.frame.to ≡ true
          → Each (PairOk i) (pairs (cable_seats i) (fate i stamp p))
      by_lookup true e u = absurd (true≢false (sym u ∙ good.looker e))
      by_lookup false e u = by_request (is_request i (body p.frame.bytes)) refl u e

      by_unicast : (b : Bool) → is_unicast p.frame.to ≡ b → Each (PairOk i) (pairs (cable_seats i) (fate i stamp p))
      by_unicast true u = by_lookup (is_lookup (request (body p.frame.bytes))) refl u
      by_unicast false u = subst (λ es. Each (PairOk i) (pairs (cable_seats i) es)) (sym (not_unicast i ok stamp p f u)) tt
