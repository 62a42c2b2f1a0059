-- The seat of a port of a station.
use Rattle.std.proofs.Common.{◌≡◌, ℕ, Bool, true, false, ◌&&◌, ◌==◌, Some, sym, refl, ap, ◌∙◌, subst, arith, eqb-true, eq-eqb}
use Rattle.std.proofs.lemmas.Bool.{and_parts, false_from_ne_true}
use Rattle.audit.proofs.Finding.{first_index, index_position}
use Rattle.audit.proofs.SeatPlaces.{AtNode, AtPort, sits}
use Rattle.audit.proofs.SeatUnique.{unique}
use Rattle.audit.proofs.WalkLists.{at_map, at_one, at_within}
use Rattle.audit.specs.Rules.{Passes}
use Rattle.table_image.specs.Internet.{Internet}
use Rattle.table_image.specs.Seats.{Seat as PlaceOf, seats}
use Rattle.table_image.specs.declared.port.Port.{Port}
use Rattle.cable_model.specs.declared.seat.Seat.{Seat}
use Rattle.cable_model.proofs.Counting.{At, map_at}
use Rattle.legal_runs.specs.Stations.{cable_seat, cable_seats}
use Rattle.legal_stations.proofs.Ports.{port_of}
use Rattle.live_cables.specs.Finding.{seat_by}

module _ (i : Internet) (ok : Passes i) where
  -- A station's seats with one port are one.
  one_port : (j k : ℕ) (x y : PlaceOf) → At (seats i) j x → At (seats i) k y → x.station ≡ y.station
      → (cable_seat i x).port ≡ (cable_seat i y).port → j ≡ k
  one_port j k x y ax ay same port = elim (sits i j x ax) as (λ _. j ≡ k) [
    | AtPort w ↦
        let here : x.station ≡ w.r = let e = w.station in omega (arith, e) in
        let p = port_of i ok w.r w.router w.known j x ax here in
        let q = port_of i ok w.r w.router w.known k y ay (sym same ∙ here) in
        let place : p.place ≡ q.place = sym p.number ∙ (port ∙ q.number) in
        let one : p.port ≡ q.port = at_one w.router.ports q.place p.port q.port (subst (λ n. At w.router.ports n p.port) place p.at) q.at in
        (unique i ok).by_station j k x y ax ay same (p.cable ∙ (ap (λ (z : Port). z.cable) one ∙ sym q.cable))
    | AtNode m far w ↦
        elim (sits i k y ay) as (λ _. j ≡ k) [
          | AtPort v ↦
              let ex = w.station in
              let ey = v.station in
              let within = at_within i.routers v.r v.router v.known in
              absurd (omega (arith, ex, ey, within, same))
          | AtNode n near v ↦
              let ex = w.station in
              let ey = v.station in
              omega (arith, ex, ey, same, far, near)
        ]
  ]

  module _ (n : ℕ) (q : PlaceOf) (at : At (seats i) n q) where
    abbrev here : Seat → Bool
    here x = x.station == q.station && x.port == (cable_seat i q).port

    both : (a b : Bool) → a ≡ true → b ≡ true → (a && b) ≡ true
    both true true x y = sym y
    both true false x y = cc
    both false b x y = cc

    -- A seat is found by its station and port.
    pub by_port : seat_by (cable_seats i) q.station (cable_seat i q).port ≡ Some n
    by_port =
        index_position here (cable_seats i)
        ∙ first_index here (cable_seats i) n (cable_seat i q) (map_at (cable_seat i) (seats i) n q at)
        (both (q.station == q.station) ((cable_seat i q).port == (cable_seat i q).port) (eq-eqb q.station q.station refl)
        (eq-eqb (cable_seat i q).port (cable_seat i q).port refl))
        (λ j y lt there. false_from_ne_true (here y) (λ e.
        let w = at_map (cable_seat i) (seats i) j y there in
        let p = and_parts (y.station == q.station) (y.port == (cable_seat i q).port) e in
        let same : j ≡ n = one_port j n w.0 q w.1 at
        (sym (ap (λ (x : Seat). x.station) w.2) ∙ eqb-true y.station q.station p.0)
        (sym (ap (λ (x : Seat). x.port) w.2) ∙ eqb-true y.port (cable_seat i q).port p.1) in
        absurd (omega (arith, same, lt))))
