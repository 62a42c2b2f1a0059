-- The stations of an image have the seats that their ports need.
use Rattle.std.proofs.Common.{◌≡◌, ℕ, ◌+◌, ◌<◌, true, ◌&&◌, ◌==◌, inl, inr, List, Some, None, Option, length, refl, sym}
use Rattle.std.proofs.Common.{ap, ◌∙◌, subst, arith}
use Rattle.std.proofs.Common.{Contains, find, option_map, slice_get}
use Rattle.std.proofs.lemmas.Bool.{and_from, and_parts}
use Rattle.std.proofs.lemmas.List.{length-map}
use Rattle.std.proofs.lemmas.Option.{none-some, slice_get_cases}
use Rattle.std.specs.Option.{unwrap_or}
use Rattle.at_base.specs.declared.address.Addr.{Addr}
use Rattle.audit.proofs.Finding.{any_at, any_from}
use Rattle.audit.proofs.WalkLists.{At, at_map, at_within, find_at}
use Rattle.audit.specs.Rules.{Passes}
use Rattle.table_image.specs.Seats.{Seat as PlaceOf, port_seat, seats}
use Rattle.cable_model.proofs.Counting.{contained_at, map_at}
use Rattle.cable_model.proofs.Finds.{contains_at}
use Rattle.cable_model.specs.Pending.{pending}
use Rattle.cable_model.specs.Outcomes.{AreSeatsOf, has_cable, is_seated}
use Rattle.cable_model.specs.declared.seat.Seat.{Seat}
use Rattle.end_node.specs.Holding.{NodeHolding}
use Rattle.frozen.specs.Events.{IsNext}
use Rattle.frozen.specs.Runs.{IsFrozen, Running, ports_of, transcript}
use Rattle.image_stations.specs.Finding.{is_at, spot_of, station_at}
use Rattle.image_stations.specs.Holders.{HoldStations, HoldsNode, HoldsRouter, choice_on}
use Rattle.station.specs.declared.member.Member.{Member}
use Rattle.station.specs.declared.member.Member.TheVariants as member
use Rattle.image_stations.specs.declared.whereabouts.Spot.{Spot}
use Rattle.legal_cables.proofs.Members.{taker_within}
use Rattle.legal_stations.proofs.NodeSeats.{node_seat, past_end, seat_of_node, station_within}
use Rattle.legal_stations.proofs.Ports.{port_number, port_of, seat_of_port}
use Rattle.legal_runs.specs.Stations.{cable_seat, cable_seats, is_on, port_on}
use Rattle.router.specs.Holding.{Holding}
use Rattle.table_image.specs.Internet.{Internet}
use Rattle.table_image.specs.declared.port.Port.{Port}

-- An index below a list's length has an element.
there : {X : Type 0} (xs : List X) (k : ℕ) → k < length xs → (x : X) × At xs k x
there xs k below = elim ((slice_get_cases xs k).1) [
  | inl h ↦ (h.0, h.2)
  | inr h ↦ let far = h.0 in absurd (omega (arith, far, below))
]

-- A station that has an address is one of the internet's routers and nodes.
pub found_within : (i : Internet) (a : Addr) (s : ℕ) → station_at i a ≡ Some s → s < length i.routers + length i.nodes
found_within i a s h = by (find (is_at None a) (seats i)) refl h
  where
    by : (o : Option PlaceOf) → find (is_at None a) (seats i) ≡ o → option_map (λ (x : Spot). x.station) (option_map spot_of o) ≡ Some s
        → s < length i.routers + length i.nodes
    by None e h = absurd (none-some s h)
    by (Some x) e h =
        let w = find_at (is_at None a) (seats i) x e in
        let within = station_within i w.0 x w.1 in
        let same : x.station ≡ s = ap (λ o. unwrap_or o 0) h in
        subst (λ n. n < length i.routers + length i.nodes) same within

module _ (i : Internet) (ok : Passes i) where
  -- A router's seats.
  router_seated : (s : ℕ) (h : Holding) → HoldsRouter i s h → AreSeatsOf (cable_seats i) s (length h.ports)
  router_seated s h holds =
      let few : length h.ports ≡ length holds.router.ports =
      ap length holds.ports ∙ length-map holds.router.ports (λ (p : Port). choice_on i p.cable p.address p.hardware) in
      record {
        inside = λ x c mine.
            let k = contained_at (cable_seats i) x c in
            let m = at_map (cable_seat i) (seats i) k.0 x k.1 in
            let station : m.0.station ≡ s = ap (λ (y : Seat). y.station) (sym m.2) ∙ mine in
            let of = port_of i ok s holds.router holds.known k.0 m.0 m.1 station in
            let number : x.port ≡ of.place = ap (λ (y : Seat). y.port) m.2 ∙ of.number in
            let below = at_within holds.router.ports of.place of.port of.at in
            omega (arith, few, number, below);
        seated = λ q below.
            let w = there holds.router.ports q (omega (arith, few, below)) in
            let k = seat_of_port i s q holds.router w.0 holds.known w.1 in (
              cable_seat i (port_seat s w.0),
              contains_at (cable_seats i) k.0 (cable_seat i (port_seat s w.0)) (map_at (cable_seat i) (seats i) k.0 (port_seat s w.0) k.1),
              refl,
              port_number i ok s holds.router holds.known q w.0 w.1,
            );
      }

  -- A node's seat.
  node_seated : (s k : ℕ) (h : NodeHolding) → s ≡ length i.routers + k → HoldsNode i k h → AreSeatsOf (cable_seats i) s 1
  node_seated s k h far holds =
      let zeroth : (c : ℕ) → port_on (slice_get i.routers s) c ≡ 0 =
      λ c. ap (λ n. port_on (slice_get i.routers n) c) far ∙ ap (λ o. port_on o c) (past_end i.routers k) in
      record {
        inside = λ x c mine.
            let j = contained_at (cable_seats i) x c in
            let m = at_map (cable_seat i) (seats i) j.0 x j.1 in
            let station : m.0.station ≡ s = ap (λ (y : Seat). y.station) (sym m.2) ∙ mine in
            let number : x.port ≡ 0 =
            ap (λ (y : Seat). y.port) m.2 ∙ (ap (λ n. port_on (slice_get i.routers n) m.0.cable) station ∙ zeroth m.0.cable) in
            omega (arith, number);
        seated = λ q below.
            let w = seat_of_node i ok k s far holds.node holds.known in
            let first : 0 ≡ q = omega (arith, below) in (
              cable_seat i (node_seat s holds.node),
              contains_at (cable_seats i) w.0 (cable_seat i (node_seat s holds.node))
                  (map_at (cable_seat i) (seats i) w.0 (node_seat s holds.node) w.1),
              refl,
              zeroth holds.node.cable ∙ first,
            );
      }

  -- The seats of a station.
  pub seats_of_station : (stations : List (Member Holding NodeHolding)) → HoldStations i stations → (s : ℕ) (m : Member Holding NodeHolding)
      → slice_get stations s ≡ Some m → AreSeatsOf (cable_seats i) s (ports_of m)
  seats_of_station stations all s (member.Router h) at = router_seated s h (all.each s (member.Router h) at)
  seats_of_station stations all s (member.Node h) at =
      let w = all.each s (member.Node h) at in
      node_seated s w.0 h w.1 w.2

-- A station on a cable has a seat there.
pub on_seated : (i : Internet) (s c : ℕ) → is_on i s c ≡ true → is_seated (cable_seats i) c s ≡ true
on_seated i s c h =
    let w = any_at (λ (x : PlaceOf). x.station == s && x.cable == c) (seats i) h in
    let parts = and_parts (w.1.station == s) (w.1.cable == c) w.3 in
    any_from (λ (x : Seat). x.cable == c && x.station == s) (cable_seats i) w.0 (cable_seat i w.1)
    (map_at (cable_seat i) (seats i) w.0 w.1 w.2) (and_from _ _ parts.1 parts.0)

pub seated_cable : (i : Internet) (s c : ℕ) → is_on i s c ≡ true → has_cable (cable_seats i) c ≡ true
seated_cable i s c h =
    let w = any_at (λ (x : PlaceOf). x.station == s && x.cable == c) (seats i) h in
    let parts = and_parts (w.1.station == s) (w.1.cable == c) w.3 in
    any_from (λ (x : Seat). x.cable == c) (cable_seats i) w.0 (cable_seat i w.1) (map_at (cable_seat i) (seats i) w.0 w.1 w.2) parts.1

-- The lowest station for which a frame is pending is one of the run's.
pub next_within : (r : Running) → IsFrozen r → (stamp s : ℕ) → IsNext r stamp s → s < length r.stations
next_within r frozen stamp s least =
    let i = r.internet in
    let t = transcript r in
    let p = least.there.0 in
    let there : Contains (pending (cable_seats i) t) p = subst (λ l. Contains (pending l t) p) frozen.seats least.there.1 in
    let within = taker_within i t p there in
    let station : p.seat.station ≡ s = least.there.3 in
    let number = frozen.holders.number in
    omega (arith, station, within, number)
