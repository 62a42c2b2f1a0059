-- Live cables keep what the empty transcript says where each seat has learnt the mappings of the image.
use Rattle.std.proofs.Common.{◌≡◌, ℕ, zero, suc, ◌+◌, ◌<◌, ◌≤◌, Bool, true, false, not, ◌==◌, if◌then◌else◌, cond, List, [], ◌∷◌, ◌++◌, Some, None}
use Rattle.std.proofs.Common.{refl, sym, ap, ◌∙◌, subst, arith, length, map, slice_get, eqb-true, eq-eqb, ◌-◌, inl, inr, length-append}
use Rattle.std.specs.Option.{option_or}
use Rattle.std.proofs.lemmas.Bool.{false_from_ne_true, le-ltb}
use Rattle.aarp.specs.Mapping.{Mappings, forgotten, learnt, mapping_of}
use Rattle.at_base.specs.Address.{address_number, same_address}
use Rattle.at_base.specs.Limits.{max_mappings}
use Rattle.at_base.specs.declared.address.Addr.{Addr}
use Rattle.at_base.specs.declared.address.Hw.{Hw}
use Rattle.audit.specs.Rules.{Passes}
use Rattle.table_image.specs.Bounds.{AreMappings, IsBounded, Rises}
use Rattle.table_image.specs.Internet.{Internet}
use Rattle.table_image.specs.Seats.{Seat as PlaceOf, seats}
use Rattle.table_image.specs.declared.mapping.Mapping.{Mapping}
use Rattle.cable_model.specs.Transcript.{count}
use Rattle.legal_runs.proofs.Legs.{same_address_is}
use Rattle.resolved_runs.specs.Mapped.{given, mapping_in}
use Rattle.audit.proofs.Finding.{any_from}
use Rattle.audit.proofs.WalkLists.{at_append, at_map, at_one, find_at, find_found}
use Rattle.table_image.specs.Seats.{node_seats, port_seat, router_seats}
use Rattle.table_image.specs.declared.node.Node.{Node}
use Rattle.table_image.specs.declared.port.Port.{Port}
use Rattle.table_image.specs.declared.router.Router.{Router}
use Rattle.cable_model.specs.Logs.{entry_at}
use Rattle.cable_model.proofs.Counting.{At, map_at}
use Rattle.legal_runs.specs.Stations.{cable_seats, node_of, port_on}
use Rattle.legal_stations.proofs.NodeSeats.{past_end}
use Rattle.legal_stations.proofs.Ports.{at_left, at_right, port_number}
use Rattle.live_cables.specs.Living.{Wires}
use Rattle.resolved_runs.specs.Mapped.{given_to, port_mappings}
use Rattle.image_cables.specs.Settled.{cable_ranges, learnt_all, node_maps, port_maps, router_maps, seat_addresses, seat_maps, seeded}
use Rattle.legal_cables.specs.Keeping.{AreKept, IsKept}
use Rattle.legal_cables.proofs.Known.{mapping_learnt, maps, once_learnt, whole}

-- ---- Learning mappings one by one

-- The addresses of the mappings rise.
abbrev Rising : List Mapping → Type 0
Rising ms = Rises (λ (m : Mapping). address_number m.address) ms

rest_rises : (m : Mapping) (ms : List Mapping) → Rising (m ∷ ms) → Rising ms
rest_rises m ms rises = λ j k a b ej ek lt. rises (suc j) (suc k) a b ej ek (omega (arith, lt))

-- An address has no mapping among those that rise above it.
none_above : (a : Addr) (m : Mapping) (ms : List Mapping) → Rising (m ∷ ms) → same_address a m.address ≡ true → mapping_in a ms ≡ None
none_above a m ms rises same = by ms 0 (λ k x e. rises 0 (suc k) m x refl e (omega arith))
  where
    by : (xs : List Mapping) (from : ℕ) → ((k : ℕ) (x : Mapping) → slice_get xs k ≡ Some x → address_number m.address < address_number x.address)
        → mapping_in a xs ≡ None
    by [] from above = refl
    by (x ∷ xs) from above =
        ap (λ b. cond b (Some x.hardware) (mapping_in a xs)) (false_from_ne_true (same_address a x.address) (λ p.
        let one : m.address ≡ x.address = sym (same_address_is a m.address same) ∙ same_address_is a x.address p in
        let number = ap address_number one in
        let lt = above 0 x refl in
        absurd (omega (arith, number, lt))))
        ∙ by xs (suc from) (λ k y e. above (suc k) y e)

length_forgotten : (a : Addr) (known : List (Addr × Hw)) → length (forgotten a known) ≤ length known
length_forgotten a [] = omega arith
length_forgotten a (m ∷ known) = by (same_address a m.0) (length_forgotten a known)
  where
    by : (b : Bool) → length (forgotten a known) ≤ length known
        → length (cond (not b) (m ∷ forgotten a known) (forgotten a known)) ≤ suc (length known)
    by true le = omega (arith, le)
    by false le = omega (arith, le)

-- What is known after some were learnt.
record Learnt (known : List (Addr × Hw)) (ms : List Mapping) : Type 0 where
  maps_to : (a : Addr) → mapping_of a (learnt_all known ms) ≡ option_or (mapping_in a ms) (mapping_of a known)
  once : (a : Addr) → count (maps a) (learnt_all known ms) ≤ 1

all_learnt : (ms : List Mapping) (known : List (Addr × Hw)) → Rising ms → length known + length ms ≤ max_mappings
    → ((a : Addr) → count (maps a) known ≤ 1) → Learnt known ms
all_learnt [] known rises few once = record { maps_to = λ a. refl; once = once }
all_learnt (m ∷ ms) known rises few once =
    let less = length_forgotten m.address known in
    let room : length (forgotten m.address known) < max_mappings = omega (arith, less, few) in
    let next : List (Addr × Hw) = learnt m.address m.hardware known in
    let len = ap (λ (l : List (Addr × Hw)). length l) (whole m.address m.hardware known room) in
    let rest = all_learnt ms next (rest_rises m ms rises) (omega (arith, len, less, few))
    (once_learnt m.address m.hardware known room once) in
    record {
      maps_to = λ a.
          rest.maps_to a
          ∙ (ap (option_or (mapping_in a ms)) (mapping_learnt m.address m.hardware known room a)
          ∙ by a (same_address a m.address) refl);
      once = rest.once;
    }
  where
    by : (a : Addr) (b : Bool) → same_address a m.address ≡ b
        → option_or (mapping_in a ms) (if b then Some m.hardware else mapping_of a known)
        ≡ option_or (cond b (Some m.hardware) (mapping_in a ms)) (mapping_of a known)
    by a true e = ap (λ o. option_or o (Some m.hardware)) (none_above a m ms rises e)
    by a false e = refl

-- ---- The mappings of each seat

length_of_map : {X Y : Type 0} (f : X → Y) (xs : List X) → length (map f xs) ≡ length xs
length_of_map f [] = refl
length_of_map f (x ∷ xs) = ap suc (length_of_map f xs)

-- A seat of a port, with the mappings at its place.
record PortThere (m : ℕ) (rs : List Router) (k : ℕ) (q : PlaceOf) : Type 0 where
  r : ℕ
  place : ℕ
  router : Router
  port : Port
  known : At rs r router
  at : At router.ports place port
  is : q ≡ port_seat (m + r) port
  maps_at : At (router_maps rs) k (port_maps port)

port_there : (m : ℕ) (rs : List Router) (k : ℕ) (q : PlaceOf) → At (router_seats m rs) k q → PortThere m rs k q
port_there m [] k q e = cc
port_there m (router ∷ rs) k q e =
    elim (at_append (map (port_seat m) router.ports) (router_seats (suc m) rs) k q e) as (λ _. PortThere m (router ∷ rs) k q) [
      | inl h ↦
          let w = at_map (port_seat m) router.ports k q h in
          let n : m ≡ m + 0 = omega arith in
          record {
            r = 0;
            place = k;
            router = router;
            port = w.0;
            known = refl;
            at = w.1;
            is = w.2 ∙ ap (λ z. port_seat z w.0) n;
            maps_at = at_left (map port_maps router.ports) (router_maps rs) k (port_maps w.0) (map_at port_maps router.ports k w.0 w.1);
          }
      | inr w ↦ later w.0 w.1 (port_there (suc m) rs w.0 q w.2)
    ]
  where
    later : (j : ℕ) → k ≡ length (map (port_seat m) router.ports) + j → PortThere (suc m) rs j q → PortThere m (router ∷ rs) k q
    later j far x =
        let a = length_of_map (port_seat m) router.ports in
        let b = length_of_map port_maps router.ports in
        let place : length (map port_maps router.ports) + j ≡ k = omega (arith, far, a, b) in
        let n : suc m + x.r ≡ m + suc x.r = omega arith in
        record {
          r = suc x.r;
          place = x.place;
          router = x.router;
          port = x.port;
          known = x.known;
          at = x.at;
          is = x.is ∙ ap (λ z. port_seat z x.port) n;
          maps_at = subst (λ z. At (map port_maps router.ports ++ router_maps rs) z (port_maps x.port)) place
              (at_right (map port_maps router.ports) (router_maps rs) j (port_maps x.port) x.maps_at);
        }

same_lengths : (m : ℕ) (rs : List Router) → length (router_seats m rs) ≡ length (router_maps rs)
same_lengths m [] = refl
same_lengths m (router ∷ rs) =
    let rest = same_lengths (suc m) rs in
    let a = length-append (map (port_seat m) router.ports) (router_seats (suc m) rs) in
    let b = length-append (map port_maps router.ports) (router_maps rs) in
    let c = length_of_map (port_seat m) router.ports in
    let d = length_of_map port_maps router.ports in
    omega (arith, rest, a, b, c, d)

-- A seat of a node, with the mappings at its place.
record NodeThere (s : ℕ) (nodes : List Node) (k : ℕ) (q : PlaceOf) : Type 0 where
  node : Node
  known : At nodes k node
  station : q.station ≡ s + k
  cable : q.cable ≡ node.cable

node_there : (s : ℕ) (nodes : List Node) (k : ℕ) (q : PlaceOf) → At (node_seats s nodes) k q → NodeThere s nodes k q
node_there s [] k q e = cc
node_there s (node ∷ nodes) zero q e =
    let same : record { station = s; cable = node.cable; address = node.address; hardware = node.hardware } ≡ q = cc in
    let n : s ≡ s + 0 = omega arith in
    record {
      node = node;
      known = refl;
      station = sym (ap (λ (x : PlaceOf). x.station) same) ∙ n;
      cable = sym (ap (λ (x : PlaceOf). x.cable) same);
    }
node_there s (node ∷ nodes) (suc k) q e =
    let x = node_there (suc s) nodes k q e in
    let n : suc s + k ≡ s + suc k = omega arith in
    record { node = x.node; known = x.known; station = x.station ∙ n; cable = x.cable }

module _ (i : Internet) (ok : Passes i) (bounded : IsBounded i) where
  -- The mappings that the image has for a port.
  of_port : (r place : ℕ) (router : Router) (port : Port) → At i.routers r router → At router.ports place port
      → given i r port.cable ≡ port.mappings
  of_port r place router port known at =
      let w = find_found (λ (p : Port). p.cable == port.cable) router.ports
      (any_from (λ (p : Port). p.cable == port.cable) router.ports place port at (eq-eqb port.cable port.cable refl)) in
      let f = find_at (λ (p : Port). p.cable == port.cable) router.ports w.0 w.1 in
      let there : f.0 ≡ place =
      sym (port_number i ok r router known f.0 w.0 f.1)
      ∙ (ap (port_on (slice_get i.routers r)) (eqb-true w.0.cable port.cable f.2) ∙ port_number i ok r router known place port at) in
      let same : w.0 ≡ port = at_one router.ports place w.0 port (subst (λ n. At router.ports n w.0) there f.1) at in
      ap (λ o. given_to port.cable o (node_of i r)) known
      ∙ (ap port_mappings w.1 ∙ ap (λ (p : Port). p.mappings) same)

  -- The mappings that the image has for a node.
  of_node : (k : ℕ) (node : Node) → At i.nodes k node → given i (length i.routers + k) node.cable ≡ node.mappings
  of_node k node known =
      let n : (length i.routers + k) - length i.routers ≡ k = omega arith in
      let is : node_of i (length i.routers + k) ≡ Some node =
      ap (λ b. if b then None else slice_get i.nodes (length i.routers + k - length i.routers))
      (le-ltb (length i.routers + k) (length i.routers) (omega arith))
      ∙ (ap (slice_get i.nodes) n ∙ known) in
      ap (λ o. given_to node.cable o (node_of i (length i.routers + k))) (past_end i.routers k)
      ∙ (ap (given_to node.cable None) is
      ∙ ap (λ b. if b then node.mappings else []) (eq-eqb node.cable node.cable refl))

  -- What a seat knows at first.
  first_kept : (s c : ℕ) (ms : List Mapping) → given i s c ≡ ms → AreMappings ms → IsKept i [] s c (seeded ms)
  first_kept s c ms is are =
      let few = are.few in
      let all = all_learnt ms [] are.rising (omega (arith, few)) (λ a. omega arith) in
      record {
        known = λ a not_own. all.maps_to a ∙ ap (λ l. option_or (mapping_in a l) None) (sym is);
        once = all.once;
        held = refl;
      }

  pub first_keeps : (n : ℕ) (q : PlaceOf) → At (seats i) n q
      → (m : Mappings) × (slice_get (seat_maps i) n ≡ Some m) × IsKept i [] q.station q.cable m
  first_keeps n q at =
      elim (at_append (router_seats 0 i.routers) (node_seats (length i.routers) i.nodes) n q at) as
      (λ _. (m : Mappings) × (slice_get (seat_maps i) n ≡ Some m) × IsKept i [] q.station q.cable m) [
        | inl h ↦
            let x = port_there 0 i.routers n q h in
            let zero_r : 0 + x.r ≡ x.r = omega arith in
            let station : q.station ≡ x.r = ap (λ (z : PlaceOf). z.station) x.is ∙ zero_r in
            let cable : q.cable ≡ x.port.cable = ap (λ (z : PlaceOf). z.cable) x.is in (
              port_maps x.port,
              at_left (router_maps i.routers) (map node_maps i.nodes) n (port_maps x.port) x.maps_at,
              first_kept q.station q.cable x.port.mappings
                  (ap (λ z. given i z q.cable) station
                  ∙ (ap (given i x.r) cable ∙ of_port x.r x.place x.router x.port x.known x.at))
                  ((bounded.each x.r x.router x.known).each_known x.place x.port x.at),
            )
        | inr w ↦
            let x = node_there (length i.routers) i.nodes w.0 q w.2 in
            let far = w.1 in
            let lens = same_lengths 0 i.routers in
            let place : length (router_maps i.routers) + w.0 ≡ n = omega (arith, far, lens) in (
              node_maps x.node,
              subst (λ z. At (router_maps i.routers ++ map node_maps i.nodes) z (node_maps x.node)) place
                  (at_right (router_maps i.routers) (map node_maps i.nodes) w.0 (node_maps x.node)
                  (map_at node_maps i.nodes w.0 x.node x.known)),
              first_kept q.station q.cable x.node.mappings
                  (ap (λ z. given i z q.cable) x.station
                  ∙ (ap (given i (length i.routers + w.0)) x.cable ∙ of_node w.0 x.node x.known))
                  (bounded.each_node w.0 x.node x.known).known,
            )
      ]

  -- Fresh cables keep what the empty transcript says.
  pub begins : (w : Wires) → w.cabling.seats ≡ cable_seats i → w.cabling.lines ≡ [] → w.own ≡ seat_addresses i
      → w.maps ≡ seat_maps i → w.ranges ≡ cable_ranges i → AreKept i w
  begins w seats_are lines own maps_are ranges = record {
    seats_are = seats_are;
    own = own;
    ranges = ranges;
    each = λ n q at.
        let e = first_keeps n q at in (
          e.0,
          ap (λ ms. slice_get ms n) maps_are ∙ e.1,
          subst (λ t. IsKept i t q.station q.cable e.0) (sym (ap (map (entry_at w.cabling.kept)) lines)) e.2,
        );
  }
