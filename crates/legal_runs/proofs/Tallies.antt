-- Counts the lookups and forward requests that answers make.
use Rattle.std.proofs.Common.{◌≡◌, ◌≢◌, ℕ, ◌+◌, ◌<◌, Bool, true, false, not, ◌&&◌, ◌==◌, List, [], ◌∷◌, ◌++◌, Some}
use Rattle.std.proofs.Common.{append-nil, length, inl, inr, refl, sym, ap, ◌∙◌, subst, arith, lt-ltb}
use Rattle.std.specs.List.{AllByRecursion as Each}
use Rattle.std.proofs.lemmas.Bool.{and_left, and_right, ne_eqb}
use Rattle.at_base.specs.Address.{same_address}
use Rattle.at_base.specs.Multicast.{group_of}
use Rattle.at_base.specs.Text.{same_bytes}
use Rattle.at_base.specs.declared.address.Addr.{Addr}
use Rattle.ddp.specs.Bodies.{body, target}
use Rattle.table_image.specs.Internet.{Internet}
use Rattle.audit.specs.Routing.{Here, On, hand, home, owner}
use Rattle.audit.specs.Rules.{Passes}
use Rattle.audit.specs.Walks.{Stops, StepsTo as GoesBy}
use Rattle.audit.proofs.SeatUnique.{addressed}
use Rattle.audit.proofs.WalkSteps.{steps}
use Rattle.station.specs.declared.heard.Kind.{Kind}
use Rattle.station.specs.declared.heard.Kind.TheVariants.{Ddp}
use Rattle.cable_model.specs.Pending.{Pair, pairs}
use Rattle.cable_model.specs.Transcript.{Entry, Sent, count, one, stamps}
use Rattle.cable_model.proofs.Counting.{count-append}
use Rattle.cable_model.proofs.Pairs.{pairs-append}
use Rattle.legal_runs.specs.Answers.{Expands, IsForward, IsLookup, IsMade, is_other}
use Rattle.legal_runs.specs.Legs.{Leg, is_copy, is_datagram, is_unicast, leg, leg_bytes}
use Rattle.legal_runs.specs.Losses.{Another, Nothing, Said}
use Rattle.legal_runs.specs.Lookups.{forwarded, is_asked, is_home, is_request, looks, seeks, waits}
use Rattle.legal_runs.specs.Requests.{is_broadcast, is_forward, is_lookup, key_in, request, zone_of}
use Rattle.legal_runs.specs.Stations.{cable_seat, cable_seats, has_address, is_router}
use Rattle.legal_runs.proofs.Does.{IsOf}
use Rattle.legal_runs.proofs.Frames.{body_stays, whole}
use Rattle.legal_runs.proofs.Legs.{has_no_other, to_group}
use Rattle.legal_runs.proofs.Listing.{forward_alone, lookup_alone, other_alone}
use Rattle.legal_runs.proofs.Requested.{OnePair, of_no_lookup, of_none, of_unasked, via_one}
use Rattle.legal_runs.proofs.Rising.{said_one}
use Rattle.legal_runs.proofs.Runs.{any, made_does}
use Rattle.legal_runs.proofs.Seated.{listed_some}

pub and_swap : (a b : Bool) → (a && b) ≡ (b && a)
and_swap true true = refl
and_swap true false = refl
and_swap false true = refl
and_swap false false = refl

module _ (i : Internet) where
  -- Entries that make n lookups and forward requests, and no broadcast requests.
  pub record Tally (k : List ℕ) (c n : ℕ) (es : List Entry) : Type 0 where
    pub found : count (looks i k c) es + count (forwarded i k c) (pairs (cable_seats i) es) ≡ n
    pub unasked : count (is_asked i k) es ≡ 0
    pub no_wait : count (waits i k) (pairs (cable_seats i) es) ≡ 0

  pub count_pairs : (f : Pair → Bool) (es fs : List Entry)
      → count f (pairs (cable_seats i) (es ++ fs)) ≡ count f (pairs (cable_seats i) es) + count f (pairs (cable_seats i) fs)
  count_pairs f es fs =
      ap (count f) (pairs-append (cable_seats i) es fs) ∙ count-append f (pairs (cable_seats i) es) (pairs (cable_seats i) fs)

  tally-append : (k : List ℕ) (c n m : ℕ) (es fs : List Entry) → Tally k c n es → Tally k c m fs → Tally k c (n + m) (es ++ fs)
  tally-append k c n m es fs a b = record {
    found =
        let l = count-append (looks i k c) es fs in
        let p = count_pairs (forwarded i k c) es fs in
        let x = a.found in
        let y = b.found in
        omega (arith, l, p, x, y);
    unasked =
        let l = count-append (is_asked i k) es fs in
        let x = a.unasked in
        let y = b.unasked in
        omega (arith, l, x, y);
    no_wait =
        let p = count_pairs (waits i k) es fs in
        let x = a.no_wait in
        let y = b.no_wait in
        omega (arith, p, x, y);
  }

  -- A datagram that is no broadcast request isn't counted as one.
  pub no_request : (d : List ℕ) → is_broadcast (request d) ≡ false → is_request i d ≡ false
  no_request d e = and_left (is_broadcast (request d)) _ e

  module _ (A : ℕ → Type 0) (d : List ℕ) (hop : ℕ) (es : List Entry) (of : Each (IsOf i A d hop) es) where
    pub waits_none : (k : List ℕ) → is_request i d ≡ false → count (waits i k) (pairs (cable_seats i) es) ≡ 0
    waits_none k e =
        of_none i A d hop (waits i k) es of (λ p same.
        and_right (is_unicast p.frame.to) _ (and_left (is_request i (body p.frame.bytes)) _ (ap (is_request i) same ∙ e)))

    pub forwarded_none : (k : List ℕ) (c : ℕ) → is_forward (request d) ≡ false → count (forwarded i k c) (pairs (cable_seats i) es) ≡ 0
    forwarded_none k c e =
        of_none i A d hop (forwarded i k c) es of (λ p same.
        and_right (is_copy i p) _ (and_left (is_forward (request (body p.frame.bytes))) _ (ap (λ b. is_forward (request b)) same ∙ e)))

    -- Entries of a datagram that is no request.
    quiet : (k : List ℕ) (c : ℕ) → is_lookup (request d) ≡ false → is_forward (request d) ≡ false → is_request i d ≡ false → Tally k c 0 es
    quiet k c a b e = record {
      found =
          let x = of_no_lookup i A d hop k c es a of in
          let y = forwarded_none k c b in
          omega (arith, x, y);
      unasked = of_unasked i A d hop k es of;
      no_wait = waits_none k e;
    }

  -- A Sent entry of a datagram that is no broadcast request.
  silent : (k : List ℕ) (c s : ℕ) (d : List ℕ) → is_request i d ≡ false → Tally k c 0 (Sent s d ∷ [])
  silent k c s d e = record {
    found = refl;
    unasked = let h = ap one (and_left (is_request i d) (same_bytes k (key_in (request d))) e) in omega (arith, h);
    no_wait = refl;
  }

  module _ (ok : Passes i) where
    -- The entries of a leg are entries of its datagram.
    pub leg_of : (stamp : ℕ) (l : Leg) → IsMade i l → Each (IsOf i any l.body l.hops) (leg i stamp l)
    leg_of stamp l made = (made_does i ok any any stamp l made (λ s. tt) (λ c. tt)).of

    lookup_leg : (k : List ℕ) (c stamp : ℕ) (key : List ℕ) (r d : ℕ) (l : Leg) → IsMade i l → r < length i.routers → IsLookup i key r d l
        → Tally k c (one (d == c && same_bytes k key)) (leg i stamp l)
    lookup_leg k c stamp key r d l made within h =
        let of = leg_of stamp l made in
        let alone = lookup_alone (request l.body) h.kind in
        let none = no_request l.body alone.0 in
        let fresh = made.fresh in
        let inside = body_stays l.hops (omega (arith, fresh)) l.body ∙ (whole l.body made.whole).same in
        let value : (l.cable == c && (is_router i l.station && (is_lookup (request (body (leg_bytes l)))
        && same_bytes k (key_in (request (body (leg_bytes l))))))) ≡ (d == c && same_bytes k key) =
        ap (λ b. l.cable == c && (is_router i l.station && (is_lookup (request b) && same_bytes k (key_in (request b))))) inside
        ∙ (ap (λ x. x == c && (is_router i l.station && (is_lookup (request l.body) && same_bytes k (key_in (request l.body))))) h.here
        ∙ (ap (λ x. d == c && (is_router i x && (is_lookup (request l.body) && same_bytes k (key_in (request l.body))))) h.by
        ∙ (ap (λ x. d == c && (x && (is_lookup (request l.body) && same_bytes k (key_in (request l.body))))) (lt-ltb _ _ within)
        ∙ (ap (λ x. d == c && (x && same_bytes k (key_in (request l.body)))) h.kind
        ∙ ap (λ x. d == c && same_bytes k x) h.key)))) in
        let looked : count (looks i k c) (leg i stamp l) ≡ one (d == c && same_bytes k key) =
        ap (count (looks i k c)) (to_group i stamp l (group_of (zone_of key)) h.next)
        ∙ (let v = ap one value in omega (arith, v)) in
        record {
          found = let y = forwarded_none any l.body l.hops (leg i stamp l) of k c alone.1 in omega (arith, looked, y);
          unasked = of_unasked i any l.body l.hops k (leg i stamp l) of;
          no_wait = waits_none any l.body l.hops (leg i stamp l) of k none;
        }

    -- Whether the pair of a frame to a router is a copy.
    pub copy_one : (d : List ℕ) (es : List Entry) → (o : OnePair i d es) → (target d).net ≢ 0 → same_address
        (target d) o.seat.address ≡ false
        → is_copy i (record { frame = o.frame; seat = cable_seat i o.seat }) ≡ true
    copy_one d es o some apart =
        all_true o.frame.kind (is_unicast o.frame.to) (is_router i o.seat.station) ((target o.frame.bytes).net == 0)
        (has_address i o.seat.station o.seat.cable (target o.frame.bytes)) o.datagram o.unicast (lt-ltb _ _ o.router)
        (ap (λ (a : Addr). a.net == 0) o.to_same ∙ ne_eqb _ _ some)
        (ap (has_address i o.seat.station o.seat.cable) o.to_same ∙ has_no_other i ok o.seat o.place (target d) o.at apart)
      where
        all_true : (kind : Kind) (u r z h : Bool) → kind ≡ Ddp → u ≡ true → r ≡ true → z ≡ false → h ≡ false
            → (is_datagram kind && u && r && not z && not h) ≡ true
        all_true kind true true false false ek eu er ez eh = ap (λ (x : Kind). is_datagram x && true && true && not false && not false) ek
        all_true kind false r z h ek eu er ez eh = cc
        all_true kind true false z h ek eu er ez eh = cc
        all_true kind true true true h ek eu er ez eh = cc
        all_true kind true true false true ek eu er ez eh = cc

    -- Counts a copy of a forward request.
    pub forward_pair : (k : List ℕ) (c e : ℕ) (d : List ℕ) (es : List Entry) → OnePair i d es → is_forward (request d) ≡ true
        → home i (target d).net ≡ Some e → (target d).node ≡ 0
        → count (forwarded i k c) (pairs (cable_seats i) es) ≡ one (e == c && same_bytes k (key_in (request d)))
    forward_pair k c e d es o kind h node =
        let low = listed_some i ok (target d).net e h in
        let some : (target d).net ≢ 0 = λ z. absurd (omega (arith, low, z)) in
        let g = (addressed i ok o.place o.seat o.at).low in
        let apart : same_address (target d) o.seat.address ≡ false =
        and_right ((target d).net == o.seat.address.net) _ (ap (λ n. n == o.seat.address.node) node ∙ ne_eqb _ _
        (λ z. absurd (omega (arith, g, z)))) in
        let copy = copy_one d es o some apart in
        let value : forwarded i k c (record { frame = o.frame; seat = cable_seat i o.seat }) ≡
        (e == c && same_bytes k (key_in (request d))) =
        ap (λ x. x && seeks i k c (body o.frame.bytes)) copy
        ∙ (ap (seeks i k c) o.same
        ∙ (ap (λ x. x && (same_bytes k (key_in (request d)) && is_home (home i (target d).net) c)) kind
        ∙ (ap (λ x. same_bytes k (key_in (request d)) && is_home x c) h ∙ and_swap (same_bytes k (key_in (request d))) (e == c)))) in
        ap (count (forwarded i k c)) o.only ∙ (let v = ap one value in omega (arith, v))

    -- A router that hands a datagram to a listed network on hands it to the owner of the next router's address.
    pub on_is : (r n s d : ℕ) (a : Addr) (c : ℕ) → r < length i.routers → home i n ≡ Some c → hand i r n ≡ On s d a → owner i d a ≡ Some s
    on_is r n s d a c within h e =
        elim (steps i ok r n c within h) as (λ _. owner i d a ≡ Some s) [
          | Stops here none port ↦ absurd (apart c s d a (sym here ∙ e))
          | GoesBy t f b there own le less port its other ↦
              let x : On t f b ≡ On s d a = sym there ∙ e in
              let es : t ≡ s = cc in
              let ed : f ≡ d = cc in
              let ea : b ≡ a = cc in
              ap (λ z. owner i z a) (sym ed) ∙ (ap (owner i f) (sym ea) ∙ (own ∙ ap Some es))
        ]
      where
        apart : (c s d : ℕ) (a : Addr) → Here c ≡ On s d a → ⊥
        apart c s d a x = cc

    forward_leg : (k : List ℕ) (c stamp : ℕ) (key : List ℕ) (r d : ℕ) (l : Leg) → IsMade i l → r < length i.routers → IsForward i key r d l
        → Tally k c (one (d == c && same_bytes k key)) (leg i stamp l)
    forward_leg k c stamp key r d l made within h =
        let of = leg_of stamp l made in
        let alone = forward_alone (request l.body) h.kind in
        let fresh = made.fresh in
        let own = on_is r (target l.body).net h.router l.cable h.address d within h.to h.handed in
        let o = via_one i ok stamp l h.address h.router (whole l.body made.whole) (omega (arith, fresh)) h.next own in
        record {
          found =
              let x = of_no_lookup i any l.body l.hops k c (leg i stamp l) alone.1 of in
              let y = forward_pair k c d l.body (leg i stamp l) o h.kind h.to h.node ∙ ap (λ z. one (d == c && same_bytes k z)) h.key in
              omega (arith, x, y);
          unasked = of_unasked i any l.body l.hops k (leg i stamp l) of;
          no_wait = waits_none any l.body l.hops (leg i stamp l) of k (no_request l.body alone.0);
        }

    one_leg : (k : List ℕ) (c stamp n : ℕ) (l : Leg) → is_request i l.body ≡ false → Tally k c n (leg i stamp l) → (m : ℕ) (es : List Entry)
        → Tally k c m es → Tally k c (n + m) (Sent l.station l.body ∷ (leg i stamp l ++ es))
    one_leg k c stamp n l e t m es rest =
        let same : 0 + (n + m) ≡ n + m = omega arith in
        subst (λ x. Tally k c x (Sent l.station l.body ∷ (leg i stamp l ++ es))) same
        (tally-append k c 0 (n + m) (Sent l.station l.body ∷ []) (leg i stamp l ++ es) (silent k c l.station l.body e)
        (tally-append k c n m (leg i stamp l) es t rest))

    none_said : (k : List ℕ) (c : ℕ) → Tally k c 0 []
    none_said k c = record { found = refl; unasked = refl; no_wait = refl }

    -- The answers to a broadcast request.
    pub expanded : (k : List ℕ) (c n : ℕ) (key : List ℕ) (r : ℕ) (cs : List ℕ) (ls : List Leg) (es : List Entry) → Said i n ls es
        → Each (IsMade i) ls → r < length i.routers
        → Expands i key r cs ls → Tally k c (count (λ d. d == c && same_bytes k key) cs) es
    expanded k c n key r [] ls es (Nothing m) made within h = none_said k c
    expanded k c n key r [] ls es (Another m stamp l more fs le said) made within h = absurd h
    expanded k c n key r (d ∷ cs) ls es (Nothing m) made within h = absurd h
    expanded k c n key r (d ∷ cs) ls es (Another m stamp l more fs le said) made within h =
        let own = leg i stamp l in
        let rest = expanded k c (stamp + stamps own) key r cs more fs said made.1 within h.1 in
        elim h.0 as (λ _. Tally k c (count (λ d. d == c && same_bytes k key) (d ∷ cs)) (Sent l.station l.body ∷ (own ++ fs))) [
          | inl a ↦
              one_leg k c stamp (one (d == c && same_bytes k key)) l (no_request l.body (lookup_alone (request l.body) a.kind).0)
              (lookup_leg k c stamp key r d l made.0 within a) (count (λ d. d == c && same_bytes k key) cs) fs rest
          | inr b ↦
              one_leg k c stamp (one (d == c && same_bytes k key)) l (no_request l.body (forward_alone (request l.body) b.kind).0)
              (forward_leg k c stamp key r d l made.0 within b) (count (λ d. d == c && same_bytes k key) cs) fs rest
        ]

    -- The answer to a forward request.
    pub looked_up : (k : List ℕ) (c n : ℕ) (key : List ℕ) (r d : ℕ) (l : Leg) (es : List Entry) → Said i n (l ∷ []) es → IsMade i l
        → r < length i.routers → IsLookup i key r d l → Tally k c (one (d == c && same_bytes k key) + 0) es
    looked_up k c n key r d l es said made within h =
        let w = said_one i n l es said in
        subst (Tally k c (one (d == c && same_bytes k key) + 0))
        (ap (λ x. Sent l.station l.body ∷ x) (append-nil (leg i w.stamp l)) ∙ sym w.all)
        (one_leg k c w.stamp (one (d == c && same_bytes k key)) l (no_request l.body (lookup_alone (request l.body) h.kind).0)
        (lookup_leg k c w.stamp key r d l made within h) 0 [] (none_said k c))

    -- Answers that are no requests.
    pub others_said : (k : List ℕ) (c n : ℕ) (ls : List Leg) (es : List Entry) → Said i n ls es → Each (IsMade i) ls
        → Each (λ l. is_other l.body ≡ true) ls → Tally k c 0 es
    others_said k c n ls es (Nothing m) made h = none_said k c
    others_said k c n ls es (Another m stamp l more fs le said) made h =
        let e = other_alone l.body h.0 in
        let none = no_request l.body e.0 in
        one_leg k c stamp 0 l none (quiet any l.body l.hops (leg i stamp l) (leg_of stamp l made.0) k c e.2 e.1 none) 0 fs
        (others_said k c (stamp + stamps (leg i stamp l)) more fs said made.1 h.1)
