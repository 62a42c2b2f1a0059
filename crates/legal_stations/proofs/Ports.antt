-- The ports of a router that holds the image's tables, and its seats.
use Rattle.std.proofs.Common.{◌≡◌, ℕ, zero, suc, ◌+◌, Bool, true, false, ◌==◌, List, [], ◌∷◌, ◌++◌, Some, length, map}
use Rattle.std.proofs.Common.{refl, sym, ap, ◌∙◌, subst, arith, slice_get, option_and_then, eq-eqb}
use Rattle.std.specs.Option.{unwrap_or}
use Rattle.std.proofs.lemmas.Bool.{or_parts}
use Rattle.aarp.specs.Choosing.{settled}
use Rattle.at_base.specs.Address.{same_address}
use Rattle.at_base.specs.declared.address.Addr.{Addr}
use Rattle.at_base.specs.declared.error.Place.TheVariants as place
use Rattle.audit.specs.Places.{index_of, on}
use Rattle.audit.specs.Rules.{Passes, bad_port}
use Rattle.table_image.specs.Seats.{Seat as PlaceOf, node_seats, port_seat, router_seats, seats}
use Rattle.audit.specs.Walks.{HasPort, IsAddressed}
use Rattle.audit.proofs.Finding.{first_index}
use Rattle.audit.proofs.SeatPlaces.{AtNode, AtPort, sits}
use Rattle.audit.proofs.SeatUnique.{addressed}
use Rattle.audit.proofs.WalkLists.{At, at_one, at_within, none_before}
use Rattle.cable_model.specs.Outcomes.{cable_of}
use Rattle.cable_model.proofs.Counting.{map_at}
use Rattle.legal_stations.proofs.RouterPorts.{cable_is as cable_there, has_port as port_there}
use Rattle.image_stations.specs.Holders.{HoldsRouter, choice_on}
use Rattle.legal_runs.specs.Stations.{cable_seat, cable_seats, has_address, is_on, port_on}
use Rattle.legal_runs.proofs.Legs.{has_no_other, has_own, same_address_is}
use Rattle.legal_runs.proofs.Seated.{port_seated}
use Rattle.router.specs.Holding.{Holding, own_at}
use Rattle.station.specs.Ports.{has}
use Rattle.table_image.specs.Internet.{Internet}
use Rattle.table_image.specs.declared.port.Port.{Port}
use Rattle.table_image.specs.declared.router.Router.{Router}

-- ---- Where the seats of ports are

pub at_left : {X : Type 0} (xs ys : List X) (k : ℕ) (x : X) → At xs k x → At (xs ++ ys) k x
at_left [] ys k x e = cc
at_left (y ∷ xs) ys zero x e = e
at_left (y ∷ xs) ys (suc k) x e = at_left xs ys k x e

pub at_right : {X : Type 0} (xs ys : List X) (k : ℕ) (x : X) → At ys k x → At (xs ++ ys) (length xs + k) x
at_right [] ys k x e = let n : k ≡ 0 + k = omega arith in subst (λ m. At ys m x) n e
at_right (y ∷ xs) ys k x e =
    let n : suc (length xs + k) ≡ suc (length xs) + k = omega arith in
    subst (λ m. At (y ∷ xs ++ ys) m x) n (at_right xs ys k x e)

seat_among : (m r q : ℕ) (router : Router) (port : Port) (routers : List Router) → At routers r router → At router.ports q port
    → (k : ℕ) × At (router_seats m routers) k (port_seat (m + r) port)
seat_among m r q router port [] known at = cc
seat_among m zero q router port (first ∷ routers) known at =
    let same : first ≡ router = cc in
    let here : At first.ports q port = subst (λ (x : Router). At x.ports q port) (sym same) at in
    let n : m ≡ m + 0 = omega arith in (
      q,
      at_left (map (port_seat m) first.ports) (router_seats (suc m) routers) q (port_seat (m + 0) port)
          (subst (λ z. At (map (port_seat m) first.ports) q (port_seat z port)) n (map_at (port_seat m) first.ports q port here)),
    )
seat_among m (suc r) q router port (first ∷ routers) known at =
    let n : suc m + r ≡ m + suc r = omega arith in
    let w = seat_among (suc m) r q router port routers known at in (
      length (map (port_seat m) first.ports) + w.0,
      at_right (map (port_seat m) first.ports) (router_seats (suc m) routers) w.0 (port_seat (m + suc r) port)
          (subst (λ z. At (router_seats (suc m) routers) w.0 (port_seat z port)) n w.1),
    )

-- The seat of a port.
pub seat_of_port : (i : Internet) (r q : ℕ) (router : Router) (port : Port) → At i.routers r router → At router.ports q port
    → (k : ℕ) × At (seats i) k (port_seat r port)
seat_of_port i r q router port known at =
    let w = seat_among 0 r q router port i.routers known at in
    let n : 0 + r ≡ r = omega arith in (
      w.0,
      at_left (router_seats 0 i.routers) (node_seats (length i.routers) i.nodes) w.0 (port_seat r port)
          (subst (λ z. At (router_seats 0 i.routers) w.0 (port_seat z port)) n w.1),
    )

module _ (i : Internet) (ok : Passes i) (r : ℕ) (router : Router) (known : At i.routers r router) where
  -- A port's number is the index of the first port on its cable.
  number_is : (q : ℕ) (port : Port) → At router.ports q port → index_of (λ p. p.cable == port.cable) router.ports ≡ Some q
  number_is q port at =
      let here : on (slice_get i.routers r) (λ router. on (slice_get router.ports q) (bad_port i r q router)) ≡ bad_port i r q router port =
      ap (λ o. on o (λ router. on (slice_get router.ports q) (bad_port i r q router))) known ∙ ap (λ o. on o (bad_port i r q router)) at in
      let apart = or_parts _ _ (sym here ∙ ok 2 (place.Port (suc r) (suc q))) in
      first_index (λ p. p.cable == port.cable) router.ports q port at (eq-eqb port.cable port.cable refl)
      (λ j x below e. none_before (λ p. p.cable == port.cable) router.ports q apart.1 j x below e)

  pub port_number : (q : ℕ) (port : Port) → At router.ports q port → port_on (slice_get i.routers r) port.cable ≡ q
  port_number q port at =
      ap (λ o. port_on o port.cable) known ∙ ap (λ o. unwrap_or o 0) (number_is q port at)

  -- The port of a seat.
  pub record PortOf (s : PlaceOf) : Type 0 where
    pub place : ℕ
    pub port : Port
    pub at : At router.ports place port
    pub cable : s.cable ≡ port.cable
    pub address : s.address ≡ port.address
    pub hardware : s.hardware ≡ port.hardware
    pub number : (cable_seat i s).port ≡ place

  pub port_of : (k : ℕ) (s : PlaceOf) → At (seats i) k s → s.station ≡ r → PortOf s
  port_of k s at mine =
      elim (sits i k s at) as (λ _. PortOf s) [
        | AtPort w ↦
            let station = w.station in
            let one : w.r ≡ r = omega (arith, station, mine) in
            let same : w.router ≡ router = at_one i.routers r w.router router (subst (λ n. At i.routers n w.router) one w.known) known in
            let there : At router.ports w.p w.port = subst (λ (x : Router). At x.ports w.p w.port) same w.at in
            record {
              place = w.p;
              port = w.port;
              at = there;
              cable = w.cable;
              address = w.address;
              hardware = w.hardware;
              number = ap (λ n. port_on (slice_get i.routers n) s.cable) mine
                  ∙ (ap (port_on (slice_get i.routers r)) w.cable ∙ port_number w.p w.port there);
            }
        | AtNode j far w ↦
            let station = w.station in
            let within = at_within i.routers r router known in
            absurd (omega (arith, station, mine, within))
      ]

  -- The cable of a port.
  pub cable_is : (q : ℕ) (port : Port) → At router.ports q port → cable_of (cable_seats i) r q ≡ port.cable
  cable_is q port at = cable_there i ok r router q port (record { known = known; at = at })

  -- Which address the router has on the port's cable.
  pub has_is : (q : ℕ) (port : Port) → At router.ports q port → (a : Addr) → has_address i r port.cable a ≡ same_address a port.address
  has_is q port at a = by (same_address a port.address) refl
    where
      by : (b : Bool) → same_address a port.address ≡ b → has_address i r port.cable a ≡ b
      by true e =
          let k = seat_of_port i r q router port known at in
          ap (has_address i r port.cable) (same_address_is a port.address e) ∙ has_own i ok (port_seat r port) k.0 k.1
      by false e =
          let k = seat_of_port i r q router port known at in
          has_no_other i ok (port_seat r port) k.0 a k.1 e

  pub has_port : (q : ℕ) (port : Port) → At router.ports q port → HasPort i r port.cable
  has_port q port at = port_there i r router q port (record { known = known; at = at })

  pub seated : (q : ℕ) (port : Port) → At router.ports q port → is_on i r port.cable ≡ true
  seated q port at = port_seated i r port.cable (has_port q port at)

  pub port_addressed : (q : ℕ) (port : Port) → At router.ports q port → IsAddressed i (port_seat r port)
  port_addressed q port at = let k = seat_of_port i r q router port known at in addressed i ok k.0 (port_seat r port) k.1

-- ---- The router's contents

module _ (i : Internet) (ok : Passes i) (r : ℕ) (h : Holding) (holds : HoldsRouter i r h) where
  -- The address of a port.
  pub own_is : (q : ℕ) (port : Port) → At holds.router.ports q port → own_at h.ports q ≡ Some port.address
  own_is q port at =
      ap (λ ports. own_at ports q) holds.ports
      ∙ ap (option_and_then settled) (map_at (λ (p : Port). choice_on i p.cable p.address p.hardware) holds.router.ports q port at)

  pub has_at : (q : ℕ) (port : Port) → At holds.router.ports q port → (a : Addr)
      → has a (own_at h.ports q) ≡ has_address i r port.cable a
  has_at q port at a = ap (has a) (own_is q port at) ∙ sym (has_is i ok r holds.router holds.known q port at a)
