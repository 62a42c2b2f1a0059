-- A router's ports: where their seats are, and which addresses they have.
use Rattle.std.proofs.Common.{◌≡◌, ℕ, suc, ◌<◌, ◌≤◌, Bool, true, false, ◌&&◌, ◌==◌, Option, Some, None, refl, sym, ap, ◌∙◌, subst, arith}
use Rattle.std.proofs.Common.{take, slice_get, eq-eqb, eqb-true}
use Rattle.std.specs.List.{list_any}
use Rattle.std.specs.Option.{unwrap_or}
use Rattle.std.proofs.lemmas.Bool.{and_from, and_parts, ltb-false, not-false, or_parts}
use Rattle.at_base.specs.Range.{is_between}
use Rattle.at_base.specs.declared.address.Addr.{Addr}
use Rattle.at_base.specs.declared.error.Place.TheVariants as place
use Rattle.table_image.specs.Internet.{Internet}
use Rattle.table_image.specs.declared.cable.Cable.{Cable}
use Rattle.table_image.specs.declared.port.Port.{Port}
use Rattle.table_image.specs.declared.router.Router.{Router}
use Rattle.audit.specs.Places.{on}
use Rattle.audit.specs.Routing.{home}
use Rattle.audit.specs.Rules.{Passes, bad_address, bad_port}
use Rattle.table_image.specs.Seats.{Seat as PlaceOf, seats}
use Rattle.audit.specs.Walks.{HasPort}
use Rattle.audit.proofs.Finding.{any_at, any_from, first_index}
use Rattle.audit.proofs.SeatPlaces.{AtNode, AtPort, sits}
use Rattle.audit.proofs.WalkFacts.{between_is}
use Rattle.audit.proofs.WalkLists.{At, at_one, at_within, find_at, find_found, index_at, index_found, at_map, none_before}
use Rattle.audit.proofs.WalkSteps.{cable_good}
use Rattle.cable_model.specs.Outcomes.{cable_of}
use Rattle.cable_model.specs.declared.seat.Seat.{Seat}
use Rattle.cable_model.proofs.Counting.{map_at}
use Rattle.legal_runs.specs.Stations.{cable_seat, cable_seats, port_on}
use Rattle.legal_runs.proofs.Seated.{port_seated}

-- A port of a router of an internet.
pub record IsPort (i : Internet) (r : ℕ) (router : Router) (q : ℕ) (port : Port) : Type 0 where
  pub known : At i.routers r router
  pub at : At router.ports q port

-- An address whose numbers fit their fields.
pub record Fits (a : Addr) : Type 0 where
  pub net : a.net < 65536
  pub node : a.node < 256

pub has_port : (i : Internet) (r : ℕ) (router : Router) (q : ℕ) (port : Port) → IsPort i r router q port → HasPort i r port.cable
has_port i r router q port h = record { router = router; place = q; port = port; known = h.known; at = h.at; on = refl }

module _ (i : Internet) (ok : Passes i) where
  -- A port has a valid address, and no earlier port is on its cable.
  port_good : (r : ℕ) (router : Router) (q : ℕ) (port : Port) → IsPort i r router q port
      → (bad_address i port.cable port.address port.hardware ≡ false)
      × (list_any (λ p. p.cable == port.cable) (take q router.ports) ≡ false)
  port_good r router q port h =
      let here : on (slice_get i.routers r) (λ router. on (slice_get router.ports q) (bad_port i r q router)) ≡ bad_port i r q router port =
      ap (λ o. on o (λ router. on (slice_get router.ports q) (bad_port i r q router))) h.known
      ∙ ap (λ o. on o (bad_port i r q router)) h.at in
      let one = or_parts _ _ (sym here ∙ ok 2 (place.Port (suc r) (suc q))) in
      ((or_parts _ _ one.0).0, one.1)

  -- The index of a port's cable among the router's ports.
  port_on_is : (r : ℕ) (router : Router) (q : ℕ) (port : Port) → IsPort i r router q port
      → port_on (slice_get i.routers r) port.cable ≡ q
  port_on_is r router q port h =
      let none = (port_good r router q port h).1 in
      let found = first_index (λ (p : Port). p.cable == port.cable) router.ports q port h.at (eq-eqb port.cable port.cable refl)
      (λ j p below there. none_before (λ (p : Port). p.cable == port.cable) router.ports q none j p below there) in
      ap (λ o. port_on o port.cable) h.known ∙ ap (λ o. unwrap_or o 0) found

  -- A seat with the router's port is on the port's cable.
  module _ (r : ℕ) (router : Router) (q : ℕ) (port : Port) (h : IsPort i r router q port) where
    is_its : Seat → Bool
    is_its s = s.station == r && s.port == q

    its_cable : (s : PlaceOf) (k : ℕ) → At (seats i) k s → s.station ≡ r → port_on (slice_get i.routers s.station) s.cable ≡ q
        → s.cable ≡ port.cable
    its_cable s k at station number =
        elim (sits i k s at) [
          | AtPort a ↦
              let is_r : a.r ≡ r = omega (arith, a.station, station) in
              let its : At i.routers r a.router = subst (λ r. At i.routers r a.router) is_r a.known in
              let same : a.router ≡ router = at_one i.routers r a.router router its h.known in
              let theirs : At router.ports a.p a.port = subst (λ (x : Router). At x.ports a.p a.port) same a.at in
              let found = index_found (λ (p : Port). p.cable == s.cable) router.ports a.p a.port theirs (eq-eqb _ _ (sym a.cable)) in
              let known : slice_get i.routers s.station ≡ Some router = ap (slice_get i.routers) station ∙ h.known in
              let first : found.0 ≡ q = sym (ap (λ o. port_on o s.cable) known ∙ ap (λ o. unwrap_or o 0) found.1) ∙ number in
              let w = index_at (λ (p : Port). p.cable == s.cable) router.ports q (found.1 ∙ ap Some first) in
              let one : w.0 ≡ port = at_one router.ports q w.0 port w.1 h.at in
              sym (eqb-true _ _ w.2) ∙ ap (λ (p : Port). p.cable) one
          | AtNode k far b ↦ let below = at_within i.routers r router h.known in absurd (omega (arith, b.station, station, below))
        ]

    some_seat : list_any is_its (cable_seats i) ≡ true
    unfolding is_its
    some_seat =
        let there = port_seated i r port.cable (has_port i r router q port h) in
        let w = any_at (λ (s : PlaceOf). s.station == r && s.cable == port.cable) (seats i) there in
        let parts = and_parts (w.1.station == r) (w.1.cable == port.cable) w.3 in
        let station = eqb-true _ _ parts.0 in
        let cable = eqb-true _ _ parts.1 in
        let number = ap (λ n. port_on (slice_get i.routers n) w.1.cable) station
        ∙ (ap (λ n. port_on (slice_get i.routers r) n) cable ∙ port_on_is r router q port h) in
        any_from is_its (cable_seats i) w.0 (cable_seat i w.1) (map_at (cable_seat i) (seats i) w.0 w.1 w.2)
        (and_from _ _ parts.0 (eq-eqb _ _ number))

    -- The cable of the router's port, by its seats.
    pub cable_is : cable_of (cable_seats i) r q ≡ port.cable
    unfolding is_its
    cable_is =
        let f = find_found is_its (cable_seats i) some_seat in
        let w = find_at is_its (cable_seats i) f.0 f.1 in
        let m = at_map (cable_seat i) (seats i) w.0 f.0 w.1 in
        let parts = and_parts (f.0.station == r) (f.0.port == q) w.2 in
        let station : m.0.station ≡ r = ap (λ (s : Seat). s.station) (sym m.2) ∙ eqb-true _ _ parts.0 in
        let number : port_on (slice_get i.routers m.0.station) m.0.cable ≡ q = ap (λ (s : Seat). s.port) (sym m.2) ∙ eqb-true _ _ parts.1 in
        let there : f.0.cable ≡ port.cable = ap (λ (s : Seat). s.cable) m.2 ∙ its_cable m.0 w.0 m.1 station number in
        rw f.1 there

  -- ---- Numbers that fit

  -- A listed network fits its field.
  pub listed_fits : (n c : ℕ) → home i n ≡ Some c → n < 65536
  listed_fits n c e =
      let w = index_at (λ c. is_between c.start c.end n) i.cables c e in
      let high = (cable_good i ok c w.0 w.1).high in
      let within = between_is w.0.start w.0.end n w.2 in
      omega (arith, high, within.1)

  -- The address of a port fits its fields.
  pub port_fits : (r : ℕ) (router : Router) (q : ℕ) (port : Port) → IsPort i r router q port → Fits port.address
  port_fits r router q port h = good (port_good r router q port h).0
    where
      near : (o : Option Cable) → slice_get i.cables port.cable ≡ o → on o (λ c. is_between c.start c.end port.address.net) ≡ true
          → port.address.net < 65536
      near None e h = cc
      near (Some cable) e h =
          let high = (cable_good i ok port.cable cable e).high in
          let within = between_is cable.start cable.end port.address.net h in
          omega (arith, high, within.1)

      good : bad_address i port.cable port.address port.hardware ≡ false → Fits port.address
      good e =
          let one = or_parts _ _ e in
          let two = or_parts _ _ one.0 in
          let three = or_parts _ _ two.0 in
          let node : port.address.node ≤ 253 = ltb-false 253 port.address.node two.1 in
          record { net = near (slice_get i.cables port.cable) refl (not-false _ three.0); node = omega (arith, node) }
