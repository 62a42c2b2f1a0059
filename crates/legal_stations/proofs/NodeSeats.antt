-- The seat of a node, and the stations of seats.
use Rattle.std.proofs.Common.{◌≡◌, ℕ, zero, suc, ◌+◌, ◌<◌, Bool, true, ◌&&◌, ◌==◌, List, [], ◌∷◌, Some, None, length, refl, sym, ap, ◌∙◌}
use Rattle.std.proofs.Common.{subst, arith, slice_get, eqb-true, eq-eqb}
use Rattle.std.proofs.lemmas.Bool.{and_from, and_parts}
use Rattle.audit.specs.Rules.{Passes}
use Rattle.table_image.specs.Seats.{Seat as PlaceOf, node_seats, router_seats, seats}
use Rattle.audit.specs.Walks.{IsAddressed}
use Rattle.audit.proofs.Finding.{any_from}
use Rattle.audit.proofs.SeatPlaces.{AtNode, AtPort, sits}
use Rattle.audit.proofs.SeatUnique.{addressed}
use Rattle.audit.proofs.WalkLists.{At, at_map, at_one, at_within, find_at, find_found}
use Rattle.cable_model.specs.Outcomes.{cable_of}
use Rattle.cable_model.specs.declared.seat.Seat.{Seat}
use Rattle.cable_model.proofs.Counting.{map_at}
use Rattle.legal_runs.specs.Stations.{cable_seat, cable_seats, is_on, port_on}
use Rattle.table_image.specs.Internet.{Internet}
use Rattle.table_image.specs.declared.node.Node.{Node}
use Rattle.legal_stations.proofs.Ports.{at_right}

-- A list has no element past its end.
pub past_end : {X : Type 0} (xs : List X) (k : ℕ) → slice_get xs (length xs + k) ≡ None
past_end [] k = refl
past_end (x ∷ xs) k =
    let n : suc (length xs + k) ≡ suc (length xs) + k = omega arith in
    subst (λ m. slice_get (x ∷ xs) m ≡ None) n (past_end xs k)

-- The station of a seat of an internet is one of its routers and nodes.
pub station_within : (i : Internet) (k : ℕ) (s : PlaceOf) → At (seats i) k s → s.station < length i.routers + length i.nodes
station_within i k s at = elim (sits i k s at) as (λ _. s.station < length i.routers + length i.nodes) [
  | AtPort w ↦
      let here = w.station in
      let below = at_within i.routers w.r w.router w.known in
      omega (arith, here, below)
  | AtNode j far w ↦
      let here = w.station in
      let below = at_within i.nodes j w.node w.known in
      omega (arith, here, below)
]

-- The seat of a station that is a node.
abbrev pub node_seat : ℕ → Node → PlaceOf
node_seat s node = record { station = s; cable = node.cable; address = node.address; hardware = node.hardware }

seat_among : (s k : ℕ) (node : Node) (nodes : List Node) → At nodes k node → At (node_seats s nodes) k (node_seat (s + k) node)
seat_among s k node [] e = cc
seat_among s zero node (first ∷ nodes) e =
    let same : first ≡ node = cc in
    let n : s ≡ s + 0 = omega arith in
    ap (λ x. Some (node_seat s x)) same ∙ ap (λ m. Some (node_seat m node)) n
seat_among s (suc k) node (first ∷ nodes) e =
    let n : suc s + k ≡ s + suc k = omega arith in
    subst (λ m. At (node_seats (suc s) nodes) k (node_seat m node)) n (seat_among (suc s) k node nodes e)

module _ (i : Internet) (ok : Passes i) (k s : ℕ) (far : s ≡ length i.routers + k) (node : Node) (known : At i.nodes k node) where
  pub seat_of_node : (m : ℕ) × At (seats i) m (node_seat s node)
  seat_of_node = (
    length (router_seats 0 i.routers) + k,
    at_right (router_seats 0 i.routers) (node_seats (length i.routers) i.nodes) k (node_seat s node)
        (subst (λ n. At (node_seats (length i.routers) i.nodes) k (node_seat n node)) (sym far)
        (seat_among (length i.routers) k node i.nodes known)),
  )

  port_is : port_on (slice_get i.routers s) node.cable ≡ 0
  port_is = ap (λ n. port_on (slice_get i.routers n) node.cable) far ∙ ap (λ o. port_on o node.cable) (past_end i.routers k)

  -- Each seat of the node is on its cable.
  on_cable : (m : ℕ) (x : PlaceOf) → At (seats i) m x → x.station ≡ s → x.cable ≡ node.cable
  on_cable m x at mine =
      elim (sits i m x at) as (λ _. x.cable ≡ node.cable) [
        | AtPort w ↦
            let station = w.station in
            let within = at_within i.routers w.r w.router w.known in
            absurd (omega (arith, station, mine, far, within))
        | AtNode j there w ↦
            let station = w.station in
            let one : j ≡ k = omega (arith, station, mine, far) in
            let same : w.node ≡ node = at_one i.nodes k w.node node (subst (λ n. At i.nodes n w.node) one w.known) known in
            w.cable ∙ ap (λ (y : Node). y.cable) same
      ]

  seat_on : (x : Seat) (m : ℕ) (y : PlaceOf) → At (seats i) m y → x ≡ cable_seat i y → x.station ≡ s → x.cable ≡ node.cable
  seat_on x m y at is station =
      ap (λ (z : Seat). z.cable) is ∙ on_cable m y at (ap (λ (z : Seat). z.station) (sym is) ∙ station)

  -- The cable of the node's port.
  pub node_cable : cable_of (cable_seats i) s 0 ≡ node.cable
  node_cable =
      let test : Seat → Bool = λ x. x.station == s && x.port == 0 in
      let m = seat_of_node in
      let passes : test (cable_seat i (node_seat s node)) ≡ true =
      and_from (s == s) (port_on (slice_get i.routers s) node.cable == 0) (eq-eqb s s refl)
      (eq-eqb (port_on (slice_get i.routers s) node.cable) 0 port_is) in
      let there = map_at (cable_seat i) (seats i) m.0 (node_seat s node) m.1 in
      let f = find_found test (cable_seats i) (any_from test (cable_seats i) m.0 (cable_seat i (node_seat s node)) there passes) in
      let g = find_at test (cable_seats i) f.0 f.1 in
      let y = at_map (cable_seat i) (seats i) g.0 f.0 g.1 in
      let parts = and_parts (f.0.station == s) (f.0.port == 0) g.2 in
      let cable = seat_on f.0 g.0 y.0 y.1 y.2 (eqb-true f.0.station s parts.0) in
      rw f.1 cable

  -- The node is on its cable.
  pub node_on : is_on i s node.cable ≡ true
  node_on =
      let m = seat_of_node in
      any_from (λ (x : PlaceOf). x.station == s && x.cable == node.cable) (seats i) m.0 (node_seat s node) m.1
      (and_from (s == s) (node.cable == node.cable) (eq-eqb s s refl) (eq-eqb node.cable node.cable refl))

  pub node_addressed : IsAddressed i (node_seat s node)
  node_addressed = let m = seat_of_node in addressed i ok m.0 (node_seat s node) m.1
