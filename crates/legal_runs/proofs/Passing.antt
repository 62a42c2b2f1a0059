-- Requests that a router passes on.
use Rattle.std.proofs.Common.{◌+◌, ◌≡◌, ◌≢◌, ℕ, ◌<◌, ◌≤◌, Bool, true, false, not, ◌&&◌, ◌||◌, ◌==◌, cond, List, [], ◌∷◌}
use Rattle.std.proofs.Common.{Some, length, inl, inr, refl, sym, ap, ◌∙◌, subst, arith, eq-eqb, true≢false, lt-ltb, ltb-true, is_some}
use Rattle.std.specs.List.{AllByRecursion as Each}
use Rattle.std.proofs.lemmas.Bool.{and_parts, ne_eqb, or_cases, or_parts}
use Rattle.at_base.specs.Address.{same_address}
use Rattle.at_base.specs.declared.address.Addr.{Addr}
use Rattle.ddp.specs.Bodies.{body, hops, target}
use Rattle.table_image.specs.Internet.{Internet}
use Rattle.audit.specs.Routing.{Here, hand, home}
use Rattle.audit.specs.Rules.{Passes}
use Rattle.table_image.specs.Seats.{Seat as PlaceOf, seat_at, seats}
use Rattle.audit.specs.Walks.{Stops, StepsTo as GoesBy}
use Rattle.audit.proofs.Finding.{any_at, any_from}
use Rattle.audit.proofs.SeatUnique.{addressed, unique}
use Rattle.audit.proofs.WalkFacts.{some_of}
use Rattle.audit.proofs.WalkLists.{at_one, find_found}
use Rattle.audit.proofs.WalkSteps.{steps}
use Rattle.station.specs.declared.output.DropCause.TheVariants.{HopLimit}
use Rattle.cable_model.specs.declared.entry.How.TheVariants as how
use Rattle.cable_model.specs.Pending.{Pair, pairs}
use Rattle.cable_model.specs.Transcript.{Reached, Dropped}
use Rattle.cable_model.proofs.Counting.{At}
use Rattle.legal_runs.specs.Answers.{ends_at, keeps_by}
use Rattle.legal_runs.specs.Legs.{fate, fate_by, final, is_copy, is_datagram, is_unicast, leg, passed}
use Rattle.legal_runs.specs.Lookups.{is_request, is_routers}
use Rattle.legal_runs.specs.Requests.{is_broadcast, is_forward, is_lookup, request}
use Rattle.legal_runs.specs.Stations.{cable_seats, has_address, is_router}
use Rattle.legal_runs.proofs.Does.{HopsFine, IsOf}
use Rattle.legal_runs.proofs.Fates.{fate_does}
use Rattle.legal_runs.proofs.Frames.{Framed, target_inside, whole_inside}
use Rattle.legal_runs.proofs.Legs.{same_address_is, same_address_self, seat_home, seat_there}
use Rattle.legal_runs.proofs.Requested.{OnePair, kept_none, to_seat, via_one}
use Rattle.legal_runs.proofs.Runs.{any}
use Rattle.legal_runs.proofs.Seated.{listed_some}
use Rattle.station.specs.declared.output.Next.TheVariants as next

-- ---- Parts of tests

-- The parts of the test `is_copy`.
pub record CopyParts (i : Internet) (p : Pair) : Type 0 where
  pub unicast : is_unicast p.frame.to ≡ true
  pub router : p.seat.station < length i.routers
  pub some : (target p.frame.bytes).net ≢ 0
  pub other : has_address i p.seat.station p.seat.cable (target p.frame.bytes) ≡ false

pub copy_parts : (i : Internet) (p : Pair) → is_copy i p ≡ true → CopyParts i p
copy_parts i p e =
    let h = parts (is_datagram p.frame.kind) (is_unicast p.frame.to) (is_router i p.seat.station) ((target p.frame.bytes).net == 0)
    (has_address i p.seat.station p.seat.cable (target p.frame.bytes)) e in
    record {
      unicast = h.0;
      router = ltb-true _ _ h.1;
      some = λ z. true≢false (sym (ap (λ n. n == 0) z) ∙ h.2);
      other = h.3;
    }
  where
    parts : (k u r z h : Bool) → (k && u && r && not z && not h) ≡ true → (u ≡ true) × (r ≡ true) × (z ≡ false) × (h ≡ false)
    parts true true true false false e = (refl, refl, refl, refl)
    parts true true true false true e = cc
    parts true true true true h e = cc
    parts true true false z h e = cc
    parts true false r z h e = cc
    parts false u r z h e = cc

pub copy_when : (i : Internet) (p : Pair) → is_datagram p.frame.kind ≡ true → is_unicast p.frame.to ≡ true
    → is_router i p.seat.station ≡ true
    → (target p.frame.bytes).net ≢ 0 → has_address i p.seat.station p.seat.cable (target p.frame.bytes) ≡ false → is_copy i p ≡ true
copy_when i p ek eu er some eh =
    all (is_datagram p.frame.kind) (is_unicast p.frame.to) (is_router i p.seat.station) ((target p.frame.bytes).net == 0)
    (has_address i p.seat.station p.seat.cable (target p.frame.bytes)) ek eu er (ne_eqb _ _ some) eh
  where
    all : (k u r z h : Bool) → k ≡ true → u ≡ true → r ≡ true → z ≡ false → h ≡ false → (k && u && r && not z && not h) ≡ true
    all true true true false false a b c d e = refl
    all false u r z h a b c d e = cc
    all true false r z h a b c d e = cc
    all true true false z h a b c d e = cc
    all true true true true h a b c d e = cc
    all true true true false true a b c d e = cc

-- The router keeps the datagram of a copy.
abbrev pub keeps : Internet → Pair → Bool
keeps i p = keeps_by i p.seat.station (target p.frame.bytes) (hand i p.seat.station (target p.frame.bytes).net)

-- The datagram ends at this station, whatever address the frame has.
abbrev pub ends_there : Internet → Pair → Bool
ends_there i p = has_address i p.seat.station p.seat.cable (target p.frame.bytes) || (is_copy i p && keeps i p)

pub ends_parts : (i : Internet) (p : Pair) → ends_at i p ≡ true
    → (is_unicast p.frame.to ≡ true) × (p.seat.station < length i.routers) × (ends_there i p ≡ true)
ends_parts i p e =
    let h = parts (is_unicast p.frame.to) (is_router i p.seat.station) (ends_there i p) e in (h.0, ltb-true _ _ h.1, h.2)
  where
    parts : (u r e : Bool) → (u && r && e) ≡ true → (u ≡ true) × (r ≡ true) × (e ≡ true)
    parts true true true e = (refl, refl, refl)
    parts true true false e = cc
    parts true false x e = cc
    parts false r x e = cc

pub ends_is : (i : Internet) (p : Pair) → is_unicast p.frame.to ≡ true → p.seat.station < length i.routers → ends_at i p ≡ ends_there i p
ends_is i p u r = two (is_unicast p.frame.to) (is_router i p.seat.station) (ends_there i p) u (lt-ltb _ _ r)
  where
    two : (u r e : Bool) → u ≡ true → r ≡ true → (u && r && e) ≡ e
    two true true e a b = refl
    two false r e a b = cc
    two true false e a b = cc

pub copy_end : (i : Internet) (p : Pair) → is_copy i p ≡ true → ends_at i p ≡ keeps i p
copy_end i p e =
    let c = copy_parts i p e in
    ends_is i p c.unicast c.router
    ∙ (ap (λ x. x || (is_copy i p && keeps i p)) c.other ∙ ap (λ x. x && keeps i p) e)

-- The invariant of every pair of a run: a broadcast request in a frame to one station is for a router; a forward
-- request is for any router of its network; a lookup isn't in a frame to one station.
pub record PairOk (i : Internet) (p : Pair) : Type 0 where
  pub asker : is_unicast p.frame.to ≡ true → is_request i (body p.frame.bytes) ≡ true → p.seat.station < length i.routers
  pub seeker : is_forward (request (body p.frame.bytes)) ≡ true → (target p.frame.bytes).node ≡ 0
  pub looker : is_lookup (request (body p.frame.bytes)) ≡ true → is_unicast p.frame.to ≡ false
  pub kind : is_datagram p.frame.kind ≡ true

module _ (i : Internet) (ok : Passes i) where
  -- ---- Addresses of routers

  pub record RouterSeat (a : Addr) : Type 0 where
    pub place : ℕ
    pub seat : PlaceOf
    pub at : At (seats i) place seat
    pub router : seat.station < length i.routers
    pub address : seat.address ≡ a
    pub home_is : home i a.net ≡ Some seat.cable

  pub router_seat : (a : Addr) → is_routers i a ≡ true → RouterSeat a
  router_seat a e =
      let w = any_at (λ s. is_router i s.station && same_address a s.address) (seats i) e in
      let h = and_parts (is_router i w.1.station) (same_address a w.1.address) w.3 in
      let same = sym (same_address_is a w.1.address h.1) in
      record {
        place = w.0;
        seat = w.1;
        at = w.2;
        router = ltb-true _ _ h.0;
        address = same;
        home_is = seat_home i ok w.1.cable a w.1 (record { place = w.0; at = w.2; cable_is = refl; address = same });
      }

  -- The target of a request is listed.
  pub request_home : (d : List ℕ) → is_request i d ≡ true → (c : ℕ) × (home i (target d).net ≡ Some c)
  request_home d e =
      let h = and_parts (is_broadcast (request d)) (is_routers i (target d) ||
      ((target d).node == 0 && is_some (home i (target d).net))) e in
      elim (or_cases (is_routers i (target d)) ((target d).node == 0 && is_some (home i (target d).net)) h.1) as
      (λ _. (c : ℕ) × (home i (target d).net ≡ Some c)) [
        | inl a ↦ let u = router_seat (target d) a in (u.seat.cable, u.home_is)
        | inr b ↦ some_of (home i (target d).net) (and_parts ((target d).node == 0) (is_some (home i (target d).net)) b).1
      ]

  pub request_some : (d : List ℕ) → is_request i d ≡ true → (target d).net ≢ 0
  request_some d e z =
      let h = request_home d e in
      let low = listed_some i ok (target d).net h.0 h.1 in
      absurd (omega (arith, low, z))

  -- A request that isn't for any router is for a router's address.
  only_router : (d : List ℕ) → is_request i d ≡ true → ((target d).node == 0) ≡ false → is_routers i (target d) ≡ true
  only_router d e node =
      let h = and_parts (is_broadcast (request d)) (is_routers i (target d) ||
      ((target d).node == 0 && is_some (home i (target d).net))) e in
      elim (or_cases (is_routers i (target d)) ((target d).node == 0 && is_some (home i (target d).net)) h.1) as
      (λ _. is_routers i (target d) ≡ true) [
        | inl a ↦ a
        | inr b ↦ absurd (true≢false (sym (and_parts ((target d).node == 0) (is_some (home i (target d).net)) b).0 ∙ node))
      ]

  -- A router's seat is the one found for its address on its home cable.
  pub router_found : (a : Addr) (c : ℕ) → is_routers i a ≡ true → home i a.net ≡ Some c
      → (s : PlaceOf) × (seat_at i c a ≡ Some s) × (s.station < length i.routers)
  router_found a c e h =
      let u = router_seat a e in
      let here : u.seat.cable ≡ c = some_same u.seat.cable c (sym u.home_is ∙ h) in
      let passes : (u.seat.cable == c && same_address u.seat.address a) ≡ true =
      ap (λ b. b && same_address u.seat.address a) (eq-eqb _ _ here) ∙ (ap (λ x. same_address x a) u.address ∙ same_address_self a) in
      let w = find_found (λ s. s.cable == c && same_address s.address a) (seats i)
      (any_from (λ (s : PlaceOf). s.cable == c && same_address s.address a) (seats i) u.place u.seat u.at passes) in
      let f = seat_there i c a w.0 w.1 in
      let alike : same_address w.0.address u.seat.address ≡ true =
      ap (λ x. same_address x u.seat.address) (f.address ∙ sym u.address) ∙ same_address_self u.seat.address in
      let same : f.place ≡ u.place = (unique i ok).by_address f.place u.place w.0 u.seat f.at u.at alike in
      let one_seat : w.0 ≡ u.seat = at_one (seats i) u.place w.0 u.seat (subst (λ n. At (seats i) n w.0) same f.at) u.at in
      (w.0, w.1, subst (λ (s : PlaceOf). s.station < length i.routers) (sym one_seat) u.router)
    where
      some_same : (c d : ℕ) → Some c ≡ Some d → c ≡ d
      some_same c d e = cc

  -- ---- A request that doesn't end goes on

  module _ (stamp : ℕ) (p : Pair) (f : Framed p.frame.bytes) where
    same : target (body p.frame.bytes) ≡ target p.frame.bytes
    same = target_inside p.frame.bytes f

    -- On the cable of the router that it is for, a request goes to that router.
    at_home : (st c : ℕ) → keeps_by i st (target p.frame.bytes) (Here c) ≡ false → is_request i (body p.frame.bytes) ≡ true
        → home i (target p.frame.bytes).net ≡ Some c → hops p.frame.bytes ≤ 14 → OnePair i (body p.frame.bytes)
        (fate_by i stamp st p (Here c))
    at_home st c not_kept req home_is few =
        let node : ((target p.frame.bytes).node == 0) ≡ false =
        (or_parts ((target p.frame.bytes).node == 0) (has_address i st c (target p.frame.bytes)) not_kept).0 in
        let router : is_routers i (target p.frame.bytes) ≡ true =
        ap (is_routers i) (sym same) ∙ only_router (body p.frame.bytes) req (ap (λ (a : Addr). a.node == 0) same ∙ node) in
        let u = router_seat (target p.frame.bytes) router in
        let w = router_found (target p.frame.bytes) c router home_is in
        let high = (addressed i ok u.place u.seat u.at).high in
        let same_node : (target p.frame.bytes).node ≡ u.seat.address.node = ap (λ (a : Addr). a.node) (sym u.address) in
        let not_all : ((target p.frame.bytes).node == 255) ≡ false = ne_eqb _ _ (λ e. absurd (omega (arith, e, high, same_node))) in
        let next : final (target p.frame.bytes) ≡ next.Station (target p.frame.bytes) =
        ap (λ b. cond b next.All (next.Station (target p.frame.bytes))) not_all in
        subst (λ b. OnePair i (body p.frame.bytes) (cond b (Reached c st how.Own (body p.frame.bytes) ∷ [])
        (cond (hops p.frame.bytes == 15) (Dropped st HopLimit (body p.frame.bytes) ∷ [])
        (leg i stamp (passed st p c (final (target p.frame.bytes))))))) (sym not_kept)
        (subst (λ b. OnePair i (body p.frame.bytes)
        (cond b (Dropped st HopLimit (body p.frame.bytes) ∷ []) (leg i stamp (passed st p c (final (target p.frame.bytes))))))
        (sym (ne_eqb (hops p.frame.bytes) 15 (λ e. absurd (omega (arith, e, few)))))
        (to_seat i ok stamp (passed st p c (final (target p.frame.bytes))) (target p.frame.bytes) w.0 (whole_inside p.frame.bytes f)
        (omega (arith, few)) next w.1 w.2))

    pub goes_on : PairOk i p → is_unicast p.frame.to ≡ true → is_request i (body p.frame.bytes) ≡ true → ends_at i p ≡ false → HopsFine i p
        → OnePair i (body p.frame.bytes) (fate i stamp p)
    goes_on good u req never fine =
        let router = good.asker u req in
        let some : (target p.frame.bytes).net ≢ 0 = λ z. request_some (body p.frame.bytes) req (ap (λ (a : Addr). a.net) same ∙ z) in
        let listed = request_home (body p.frame.bytes) req in
        let home_is : home i (target p.frame.bytes).net ≡ Some listed.0 = ap (λ (a : Addr). home i a.net) (sym same) ∙ listed.1 in
        let inner = or_parts (has_address i p.seat.station p.seat.cable (target p.frame.bytes)) (is_copy i p && keeps i p)
        (sym (ends_is i p u router) ∙ never) in
        let copy = copy_when i p good.kind u (lt-ltb _ _ router) some inner.0 in
        let not_kept : keeps i p ≡ false = sym (copy_end i p copy) ∙ never in
        let few = fine listed.0 copy home_is in
        subst (λ b. OnePair i (body p.frame.bytes) (cond b (fate_by i stamp p.seat.station p
        (hand i p.seat.station (target p.frame.bytes).net)) [])) (sym copy)
        (elim (steps i ok p.seat.station (target p.frame.bytes).net listed.0 router home_is) as (λ _. OnePair i (body p.frame.bytes)
        (fate_by i stamp p.seat.station p (hand i p.seat.station (target p.frame.bytes).net))) [
          | Stops here none port ↦
              subst (λ h. OnePair i (body p.frame.bytes) (fate_by i stamp p.seat.station p h)) (sym here)
              (at_home p.seat.station listed.0 (ap (keeps_by i p.seat.station (target p.frame.bytes)) (sym here) ∙ not_kept) req home_is
              (omega (arith, few)))
          | GoesBy s d a there own less nearer port its other ↦
              subst (λ h. OnePair i (body p.frame.bytes) (fate_by i stamp p.seat.station p h)) (sym there)
              (subst (λ b. OnePair i (body p.frame.bytes)
              (cond b (Dropped p.seat.station HopLimit (body p.frame.bytes) ∷ [])
              (leg i stamp (passed p.seat.station p d (next.Station a)))))
              (sym (ne_eqb (hops p.frame.bytes) 15 (λ e. absurd (omega (arith, e, few)))))
              (via_one i ok stamp (passed p.seat.station p d (next.Station a)) a s (whole_inside p.frame.bytes f)
              (omega (arith, few, nearer)) refl own))
        ])

    -- ---- The fate of a pair that was taken

    pub fate_of : HopsFine i p → Each (IsOf i any (body p.frame.bytes) (hops p.frame.bytes + 1)) (fate i stamp p)
    fate_of fine = by (is_copy i p) refl
      where
        by : (b : Bool) → is_copy i p ≡ b → Each (IsOf i any (body p.frame.bytes) (hops p.frame.bytes + 1)) (fate i stamp p)
        by true e = (fate_does i ok any any stamp p f e fine (λ c h at. tt) (λ s d a on. tt)).of
        by false e =
            subst (λ b. Each (IsOf i any (body p.frame.bytes) (hops p.frame.bytes + 1))
            (cond b (fate_by i stamp p.seat.station p (hand i p.seat.station (target p.frame.bytes).net)) [])) (sym e) tt

    -- No frame is put for a datagram that ends at the station.
    pub end_none : ends_at i p ≡ true → pairs (cable_seats i) (fate i stamp p) ≡ []
    end_none e = by (is_copy i p) refl
      where
        by : (b : Bool) → is_copy i p ≡ b → pairs (cable_seats i) (fate i stamp p) ≡ []
        by true y =
            ap (λ b. pairs (cable_seats i) (cond b (fate_by i stamp p.seat.station p
            (hand i p.seat.station (target p.frame.bytes).net)) [])) y
            ∙ kept_none i ok stamp p.seat.station p (hand i p.seat.station (target p.frame.bytes).net) (sym (copy_end i p y) ∙ e)
        by false y =
            ap (λ b. pairs (cable_seats i) (cond b (fate_by i stamp p.seat.station p
            (hand i p.seat.station (target p.frame.bytes).net)) [])) y

    -- No frame is put for a frame that isn't for one station.
    pub not_unicast : is_unicast p.frame.to ≡ false → fate i stamp p ≡ []
    not_unicast u =
        ap (λ b. cond b (fate_by i stamp p.seat.station p (hand i p.seat.station (target p.frame.bytes).net)) [])
        (none (is_datagram p.frame.kind) (is_unicast p.frame.to) (is_router i p.seat.station) ((target p.frame.bytes).net == 0)
        (has_address i p.seat.station p.seat.cable (target p.frame.bytes)) u)
      where
        none : (k u r z h : Bool) → u ≡ false → (k && u && r && not z && not h) ≡ false
        none true false r z h e = refl
        none false false r z h e = refl
        none k true r z h e = cc
