-- The counts of requests that a station's answers to a taken pair add.
use Rattle.std.proofs.Common.{◌≡◌, ℕ, ◌+◌, ◌<◌, Bool, true, false, not, ◌&&◌, ◌||◌, ◌==◌, List, [], ◌∷◌, Option, Some, None}
use Rattle.std.proofs.Common.{ap, arith, eqb-true, inl, inr, is_some, length, lt-ltb, refl, subst, sym, true≢false, ◌∙◌}
use Rattle.std.specs.List.{AllByRecursion as Each}
use Rattle.std.proofs.lemmas.Bool.{and_left, and_parts, and_right, false_from_ne_true, or_cases}
use Rattle.at_base.specs.Address.{same_address}
use Rattle.at_base.specs.Text.{is_name, same_bytes}
use Rattle.at_base.proofs.Texts.{same_bytes_is}
use Rattle.at_base.specs.declared.address.Addr.{Addr}
use Rattle.ddp.specs.Bodies.{body, target}
use Rattle.table_image.specs.Internet.{Internet}
use Rattle.audit.specs.Routing.{Hand, Here, On, Nowhere, hand, home}
use Rattle.audit.specs.Rules.{Passes}
use Rattle.table_image.specs.Seats.{Seat as PlaceOf, seats}
use Rattle.audit.proofs.Finding.{any_at, any_from}
use Rattle.audit.proofs.SeatUnique.{addressed}
use Rattle.audit.proofs.WalkSteps.{nowhere}
use Rattle.cable_model.specs.Pending.{Pair, pairs}
use Rattle.cable_model.specs.Transcript.{Entry, count, one}
use Rattle.legal_runs.specs.Answers.{Answers, Expanded, IsMade, LookedUp, Others, ends_at, keeps_by}
use Rattle.legal_runs.specs.Legs.{Leg, is_copy, is_unicast}
use Rattle.legal_runs.specs.Losses.{Said}
use Rattle.legal_runs.specs.Lookups.{asks, ends_so, forwarded, is_home, is_request, is_routers, seeks, waits}
use Rattle.legal_runs.specs.Requests.{is_among, is_broadcast, is_forward, key_in, listing, request, zone_of}
use Rattle.legal_runs.specs.Stations.{cable_seats, has_address, is_router}
use Rattle.legal_runs.proofs.Frames.{Framed, target_inside}
use Rattle.legal_runs.proofs.Goods.{expanded_good, looked_good, others_good}
use Rattle.legal_runs.proofs.Listing.{broadcast_alone, count_listing, forward_alone, listed_once}
use Rattle.legal_runs.proofs.Passing.{PairOk, ends_parts, ends_there, keeps}
use Rattle.legal_runs.proofs.Requested.{HasPlace}
use Rattle.legal_runs.proofs.Tests.{all_three, three_are}
use Rattle.legal_runs.proofs.Tallies.{Tally, and_swap, expanded, looked_up, no_request, others_said}

or_last : (a b : Bool) → b ≡ true → (a || b) ≡ true
or_last true b e = refl
or_last false b e = e

module _ (i : Internet) (ok : Passes i) where
  -- ---- A broadcast request that ends at a router is one to a router, or to any router there

  keeper_asks : (r : ℕ) (a : Addr) → r < length i.routers → (h : Hand) → hand i r a.net ≡ h → keeps_by i r a h ≡ true
      → (is_routers i a || (a.node == 0 && is_some (home i a.net))) ≡ true
  keeper_asks r a within Nowhere e o = cc
  keeper_asks r a within (On s c b) e o = cc
  keeper_asks r a within (Here c) e o =
      elim (or_cases (a.node == 0) (has_address i r c a) o) as (λ _. (is_routers i a || (a.node == 0 && is_some (home i a.net))) ≡ true) [
        | inl z ↦ or_last (is_routers i a) _ (ap (λ b. b && is_some (home i a.net)) z ∙ listed (home i a.net) refl)
        | inr s ↦ ap (λ b. b || (a.node == 0 && is_some (home i a.net))) (seated s)
      ]
    where
      listed : (o : Option ℕ) → home i a.net ≡ o → is_some o ≡ true
      listed None h = absurd (apart c (sym (nowhere i ok r a.net within h) ∙ e))
        where
          apart : (c : ℕ) → Nowhere ≡ Here c → ⊥
          apart c x = cc
      listed (Some d) h = refl

      seated : has_address i r c a ≡ true → is_routers i a ≡ true
      seated e =
          let w = any_at (λ (s : PlaceOf). s.station == r && s.cable == c && same_address a s.address) (seats i) e in
          let h = all_three (w.1.station == r) (w.1.cable == c) (same_address a w.1.address) w.3 in
          let same : w.1.station ≡ r = eqb-true _ _ h.0 in
          any_from (λ (s : PlaceOf). is_router i s.station && same_address a s.address) (seats i) w.0 w.1 w.2
          (ap (λ b. b && same_address a w.1.address) (lt-ltb _ _ (subst (λ n. n < length i.routers) (sym same) within)) ∙ h.2)

  end_asks : (p : Pair) → HasPlace i p → Framed p.frame.bytes → is_broadcast (request (body p.frame.bytes)) ≡ true → ends_at i p ≡ true
      → is_request i (body p.frame.bytes) ≡ true
  end_asks p place f kind e =
      let h = ends_parts i p e in
      let same = target_inside p.frame.bytes f in
      let there : (is_routers i (target p.frame.bytes) || ((target p.frame.bytes).node == 0 && is_some
      (home i (target p.frame.bytes).net))) ≡ true =
      elim (or_cases (has_address i p.seat.station p.seat.cable (target p.frame.bytes)) (is_copy i p && keeps i p) h.2) as (λ _.
      (is_routers i (target p.frame.bytes) || ((target p.frame.bytes).node == 0 && is_some (home i (target p.frame.bytes).net))) ≡ true) [
        | inl own ↦
            ap (λ b. b || ((target p.frame.bytes).node == 0 && is_some (home i (target p.frame.bytes).net))) (own_router own h.1)
        | inr kept ↦
            let v = and_parts (is_copy i p) (keeps i p) kept in
            keeper_asks p.seat.station (target p.frame.bytes) h.1 (hand i p.seat.station (target p.frame.bytes).net) refl v.1
      ] in
      ap (λ x. x && (is_routers i (target (body p.frame.bytes)) || ((target (body p.frame.bytes)).node == 0 && is_some
      (home i (target (body p.frame.bytes)).net)))) kind
      ∙ (ap (λ (a : Addr). is_routers i a || (a.node == 0 && is_some (home i a.net))) same ∙ there)
    where
      own_router : has_address i p.seat.station p.seat.cable (target p.frame.bytes) ≡ true → p.seat.station < length i.routers
          → is_routers i (target p.frame.bytes) ≡ true
      own_router e within =
          let w = any_at (λ (s : PlaceOf). s.station == p.seat.station && s.cable == p.seat.cable && same_address
          (target p.frame.bytes) s.address) (seats i) e in
          let h = all_three (w.1.station == p.seat.station) (w.1.cable == p.seat.cable)
          (same_address (target p.frame.bytes) w.1.address) w.3 in
          let same : w.1.station ≡ p.seat.station = eqb-true _ _ h.0 in
          any_from (λ (s : PlaceOf). is_router i s.station && same_address (target p.frame.bytes) s.address) (seats i) w.0 w.1 w.2
          (ap (λ b. b && same_address (target p.frame.bytes) w.1.address)
          (lt-ltb _ _ (subst (λ n. n < length i.routers) (sym same) within)) ∙ h.2)

  -- ---- The answers to a taken pair

  pub record AnswersDo (p : Pair) (gs : List Entry) : Type 0 where
    pub tally : (k : List ℕ) (c : ℕ) → (n : ℕ) × Tally i k c n gs
        × (one (forwarded i k c p && not (ends_at i p)) + n ≡ one (forwarded i k c p) + one
        (is_among c (listing i (zone_of k)) && ends_so i k p))
    pub good : Each (PairOk i) (pairs (cable_seats i) gs)

  pub answers_do : (stamp : ℕ) (p : Pair) (ls : List Leg) (gs : List Entry) → Said i stamp ls gs → HasPlace i p → Framed p.frame.bytes
      → PairOk i p → ((k : List ℕ) (c : ℕ) → forwarded i k c p ≡ true → is_name (zone_of k) ≡ true) → Each (IsMade i) ls
      → Answers i p ls → AnswersDo p gs
  answers_do stamp p ls gs said place f good named made (Expanded here exp) =
      let h = and_parts (is_broadcast (request (body p.frame.bytes))) (ends_at i p) here in
      let key = key_in (request (body p.frame.bytes)) in
      let parts = ends_parts i p h.1 in
      let req = end_asks p place f h.0 h.1 in
      let alone = broadcast_alone (request (body p.frame.bytes)) h.0 in
      record {
        tally = λ k c.
            let n = count (λ d. d == c && same_bytes k key) (listing i (zone_of key)) in
            let none : forwarded i k c p ≡ false = and_right (is_copy i p) _
            (and_left (is_forward (request (body p.frame.bytes))) _ alone.0) in
            let e1 = ap one (and_left (forwarded i k c p) (not (ends_at i p)) none) in
            let e2 = ap one none in
            let ends : ends_so i k p ≡ same_bytes k key =
            ap (λ x. waits i k p && x) h.1
            ∙ (and_swap (waits i k p) true
            ∙ (ap (λ x. x && asks i k (body p.frame.bytes)) parts.0 ∙ ap (λ x. x && same_bytes k key) req)) in
            let m = count_listing c (same_bytes k key) (listing i (zone_of key)) (listed_once i (zone_of key)) in
            let v = ap one (same_listing k key c ends) in (
              n,
              expanded i ok k c stamp key p.seat.station
                  (listing i (zone_of key)) ls gs said made parts.1 exp,
              omega (arith, e1, e2, m, v),
            );
        good = expanded_good i ok stamp key p.seat.station (listing i (zone_of key)) ls gs said made exp;
      }
    where
      same_listing : (k key : List ℕ) (c : ℕ) → ends_so i k p ≡ same_bytes k key
          → (is_among c (listing i (zone_of key)) && same_bytes k key) ≡ (is_among c (listing i (zone_of k)) && ends_so i k p)
      same_listing k key c ends = by (same_bytes k key) refl
        where
          by : (b : Bool) → same_bytes k key ≡ b
              → (is_among c (listing i (zone_of key)) && same_bytes k key) ≡ (is_among c (listing i (zone_of k)) && ends_so i k p)
          by true t =
              ap (λ x. is_among c (listing i (zone_of x)) && same_bytes k key) (sym (same_bytes_is k key t))
              ∙ ap (λ x. is_among c (listing i (zone_of k)) && x) (sym ends)
          by false g =
              and_right (is_among c (listing i (zone_of key))) _ g ∙ sym (and_right (is_among c (listing i (zone_of k))) _ (ends ∙ g))
  answers_do stamp p ls gs said place f good named made (LookedUp d l here home_is only look) = record { tally = tally_is; good = good_is }
    where
      key : List ℕ
      key = key_in (request (body p.frame.bytes))

      parts : (is_forward (request (body p.frame.bytes)) ≡ true) × (ends_at i p ≡ true)
      parts = ends_of (all_three (is_forward (request (body p.frame.bytes))) (is_name (zone_of key)) (ends_at i p) here)
        where
          ends_of : {A B C : Type 0} → A × B × C → A × C
          ends_of x = (x.0, x.2)

      ends : (is_unicast p.frame.to ≡ true) × (p.seat.station < length i.routers) × (ends_there i p ≡ true)
      ends = ends_parts i p parts.1

      -- It is for any router, so it isn't for the router's own address.
      other : has_address i p.seat.station p.seat.cable (target p.frame.bytes) ≡ false
      other = no_node p.seat.station p.seat.cable (target p.frame.bytes) (good.seeker parts.0)
        where
          no_node : (r c : ℕ) (a : Addr) → a.node ≡ 0 → has_address i r c a ≡ false
          no_node r c a z =
              false_from_ne_true (has_address i r c a) (λ e.
              let w = any_at (λ (s : PlaceOf). s.station == r && s.cable == c && same_address a s.address) (seats i) e in
              let same = (all_three (w.1.station == r) (w.1.cable == c) (same_address a w.1.address) w.3).2 in
              let node : a.node ≡ w.1.address.node = eqb-true _ _ (and_parts (a.net == w.1.address.net)
              (a.node == w.1.address.node) same).1 in
              let low = (addressed i ok w.0 w.1 w.2).low in
              absurd (omega (arith, node, low, z)))

      copy : is_copy i p ≡ true
      copy =
          (and_parts (is_copy i p) (keeps i p) (sym (ap (λ x. x || (is_copy i p && keeps i p)) other) ∙ ends.2)).0

      made_one : Each (IsMade i) (l ∷ [])
      made_one = subst (Each (IsMade i)) only made

      said_one : Said i stamp (l ∷ []) gs
      said_one = subst (λ x. Said i stamp x gs) only said

      tally_is : (k : List ℕ) (c : ℕ) → (n : ℕ) × Tally i k c n gs
          × (one (forwarded i k c p && not (ends_at i p)) + n ≡ one (forwarded i k c p) + one
          (is_among c (listing i (zone_of k)) && ends_so i k p))
      tally_is k c =
          let n = one (d == c && same_bytes k key) in
          let there : home i (target (body p.frame.bytes)).net ≡ Some d = ap (λ (a : Addr). home i a.net) (target_inside p.frame.bytes f)
          ∙ home_is in
          let g : forwarded i k c p ≡ (d == c && same_bytes k key) =
          ap (λ x. x && seeks i k c (body p.frame.bytes)) copy
          ∙ (ap (λ x. x && (same_bytes k key && is_home (home i (target (body p.frame.bytes)).net) c)) parts.0
          ∙ (ap (λ o. same_bytes k key && is_home o c) there ∙ and_swap (same_bytes k key) (d == c))) in
          let e1 = ap one (and_right (forwarded i k c p) (not (ends_at i p)) (ap not parts.1)) in
          let e2 = ap one g in
          let alone = forward_alone (request (body p.frame.bytes)) parts.0 in
          let none : ends_so i k p ≡ false =
          and_left (waits i k p) _ (and_right (is_unicast p.frame.to) _
          (and_left (is_request i (body p.frame.bytes)) _ (no_request i (body p.frame.bytes) alone.0))) in
          let e3 = ap one (and_right (is_among c (listing i (zone_of k))) (ends_so i k p) none) in
          let t = looked_up i ok k c stamp key p.seat.station d l gs said_one made_one.0 ends.1 look in
          (n + 0, t, omega (arith, e1, e2, e3))

      good_is : Each (PairOk i) (pairs (cable_seats i) gs)
      good_is = looked_good i ok stamp key p.seat.station d l gs said_one made_one.0 look
  answers_do stamp p ls gs said place f good named made (Others first second others) = record {
    tally = tally_is;
    good = others_good i ok stamp ls gs said made others;
  }
    where
      tally_is : (k : List ℕ) (c : ℕ) → (n : ℕ) × Tally i k c n gs
          × (one (forwarded i k c p && not (ends_at i p)) + n ≡ one (forwarded i k c p) + one
          (is_among c (listing i (zone_of k)) && ends_so i k p))
      tally_is k c =
          let none : ends_so i k p ≡ false =
          false_from_ne_true (ends_so i k p) (λ t.
          let x = and_parts (waits i k p) (ends_at i p) t in
          let y = and_parts (is_unicast p.frame.to) (asks i k (body p.frame.bytes)) x.0 in
          let z = and_parts (is_request i (body p.frame.bytes)) (same_bytes k (key_in (request (body p.frame.bytes)))) y.1 in
          let w = and_parts (is_broadcast (request (body p.frame.bytes))) _ z.0 in
          true≢false (sym (ap (λ b. b && ends_at i p) w.0 ∙ x.1) ∙ first)) in
          let e3 = ap one (and_right (is_among c (listing i (zone_of k))) (ends_so i k p) none) in
          let e1 = ap one (goes_on (forwarded i k c p) refl) in
          (0, others_said i ok k c stamp ls gs said made others, omega (arith, e1, e3))
        where
          goes_on : (b : Bool) → forwarded i k c p ≡ b → (forwarded i k c p && not (ends_at i p)) ≡ forwarded i k c p
          goes_on false e = and_left (forwarded i k c p) _ e ∙ sym e
          goes_on true e =
              let x = and_parts (is_copy i p) (seeks i k c (body p.frame.bytes)) e in
              let y = and_parts (is_forward (request (body p.frame.bytes))) _ x.1 in
              let z = and_parts (same_bytes k (key_in (request (body p.frame.bytes)))) _ y.1 in
              let key : k ≡ key_in (request (body p.frame.bytes)) = same_bytes_is _ _ z.0 in
              let name : is_name (zone_of (key_in (request (body p.frame.bytes)))) ≡ true =
              ap (λ q. is_name (zone_of q)) (sym key) ∙ named k c e in
              let never : ends_at i p ≡ false =
              false_from_ne_true (ends_at i p) (λ t.
              true≢false (sym (three_are (is_forward (request (body p.frame.bytes)))
              (is_name (zone_of (key_in (request (body p.frame.bytes)))))
              (ends_at i p) y.0 name t) ∙ second)) in
              ap (λ b. forwarded i k c p && not b) never ∙ and_swap (forwarded i k c p) true
