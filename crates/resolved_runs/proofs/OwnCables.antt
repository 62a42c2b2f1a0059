-- A router puts a datagram for one of its own cables there itself.
use Rattle.std.proofs.Common.{◌≡◌, ℕ, suc, ◌<◌, Bool, true, false, cond, ◌==◌, Option, Some, None, length}
use Rattle.std.proofs.Common.{ap, arith, eq-eqb, is_some, refl, slice_get, subst, sym, ◌∙◌}
use Rattle.std.proofs.lemmas.Bool.{and_parts, not-false}
use Rattle.at_base.specs.Range.{is_between}
use Rattle.at_base.specs.declared.address.Addr.{Addr}
use Rattle.at_base.specs.declared.error.Place.TheVariants as place
use Rattle.table_image.specs.Internet.{Internet}
use Rattle.table_image.specs.Rows.{is_direct}
use Rattle.table_image.specs.Seats.{Seat, seats}
use Rattle.table_image.specs.declared.port.Port.{Port}
use Rattle.table_image.specs.declared.router.Router.{Router}
use Rattle.table_image.specs.declared.row.Row.{Row}
use Rattle.audit.specs.Places.{on}
use Rattle.audit.specs.Routing.{Here, On, hand, hand_at, hand_by, hand_over, hand_to, home, owner, row_for}
use Rattle.audit.specs.Rules.{Passes, at_row, bad_direct, bad_range, cable_of, is_for, port_on}
use Rattle.audit.specs.Walks.{HasPort, Stops, StepsTo as GoesBy}
use Rattle.audit.proofs.SeatPlaces.{AtNode, AtPort, sits}
use Rattle.audit.proofs.WalkFacts.{between_is, for_is, indirect_is, is_between_when, not_both, some_of}
use Rattle.audit.proofs.WalkLists.{At, at_one, find_at, index_at, index_found}
use Rattle.audit.proofs.WalkSteps.{one_cable, steps}

-- The row by which a router hands a datagram on isn't direct.
record IsOnward (i : Internet) (r n : ℕ) : Type 0 where
  router : Router
  known : At i.routers r router
  row : Row
  found : row_for router.rows n ≡ Some row
  indirect : is_direct row ≡ false

handed_on : (i : Internet) (r n s d : ℕ) (a : Addr) → hand i r n ≡ On s d a → IsOnward i r n
handed_on i r n s d a h = at (slice_get i.routers r) refl h
  where
    indirect : (row : Row) (port : Port) (b : Bool) → is_direct row ≡ b
        → cond b (Here port.cable) (hand_to (owner i port.cable row.next) port.cable row.next) ≡ On s d a → is_direct row ≡ false
    indirect row port true e g = cc
    indirect row port false e g = e

    over : (row : Row) (o : Option Port) → hand_over i row o ≡ On s d a → is_direct row ≡ false
    over row None g = cc
    over row (Some port) g = indirect row port (is_direct row) refl g

    by : (router : Router) → slice_get i.routers r ≡ Some router → (o : Option Row) → row_for router.rows n ≡ o
        → hand_by i router o ≡ On s d a → IsOnward i r n
    by router e None f g = cc
    by router e (Some row) f g = record {
      router = router;
      known = e;
      row = row;
      found = f;
      indirect = over row (slice_get router.ports row.port) g;
    }

    at : (o : Option Router) → slice_get i.routers r ≡ o → hand_at i o n ≡ On s d a → IsOnward i r n
    at None e g = cc
    at (Some router) e g = by router e (row_for router.rows n) refl g

-- A router's seat is that of a port.
pub seat_port : (i : Internet) (k : ℕ) (s : Seat) → At (seats i) k s → s.station < length i.routers → HasPort i s.station s.cable
seat_port i k s at within =
    elim (sits i k s at) [
      | AtPort w ↦
          let station = w.station in
          let same : w.r ≡ s.station = omega (arith, station) in
          record {
            router = w.router;
            place = w.p;
            port = w.port;
            known = subst (λ r. At i.routers r w.router) same w.known;
            at = w.at;
            on = sym w.cable;
          }
      | AtNode m far w ↦ let station = w.station in absurd (omega (arith, station, within))
    ]

module _ (i : Internet) (ok : Passes i) where
  at_row_is : (r k : ℕ) (router : Router) (row : Row) (test : Router → Row → Bool) → At i.routers r router → At router.rows k row
      → at_row i r k test ≡ test router row
  at_row_is r k router row test er ek =
      ap (λ o. on o (λ router. on (slice_get router.rows k) (test router))) er ∙ ap (λ o. on o (test router)) ek

  -- A row whose range holds a network is for the network's cable.
  row_cable : (r k : ℕ) (router : Router) (row : Row) (n c : ℕ) → At i.routers r router → At router.rows k row
      → is_between row.start row.end n ≡ true → home i n ≡ Some c → cable_of i row ≡ Some c
  row_cable r k router row n c er ek within listed =
      let good = not-false _ (sym (at_row_is r k router row (bad_range i) er ek)
      ∙ ok 3 (place.Row (suc r) (suc k))) in
      let known = some_of (cable_of i row) (and_parts _ (is_some (cable_of i row)) good).1 in
      let w = index_at (is_for row) i.cables known.0 known.1 in
      let v = index_at (λ c. is_between c.start c.end n) i.cables c listed in
      let range = for_is row w.0 w.2 in
      let inside = between_is row.start row.end n within in
      let holds : is_between w.0.start w.0.end n ≡ true =
      is_between_when w.0.start w.0.end n (omega (arith, range, inside)) (omega (arith, range, inside)) in
      known.1 ∙ ap Some (one_cable i ok known.0 c w.0 v.0 n w.1 v.1 holds v.2)

  -- A row by which a router hands a datagram on is for a cable where the router has no port.
  no_port : (r n c : ℕ) (router : Router) → At i.routers r router → IsOnward i r n → home i n ≡ Some c → port_on router c ≡ None
  no_port r n c router er w listed =
      let row = w.row in
      let f = find_at _ w.router.rows row w.found in
      let same : w.router ≡ router = at_one i.routers r w.router router w.known er in
      let of = row_cable r f.0 w.router row n c w.known f.1 (and_parts _ (is_between row.start row.end n) f.2).1 listed in
      let test : Router → Row → Bool = λ router row. on (cable_of i row) (λ c. bad_direct row (port_on router c)) in
      let good : bad_direct row (port_on w.router c) ≡ false =
      sym (ap (λ o. on o (λ c. bad_direct row (port_on w.router c))) of)
      ∙ (sym (at_row_is r f.0 w.router row test w.known f.1) ∙ ok 4 (place.Row (suc r) (suc f.0))) in
      subst (λ (x : Router). port_on x c ≡ None) same (indirect_is row (port_on w.router c) w.indirect good)

  -- A router with a port on a network's cable puts datagrams for that network there.
  pub own_cable : (r n c : ℕ) → r < length i.routers → HasPort i r c → home i n ≡ Some c → hand i r n ≡ Here c
  own_cable r n c within port listed =
      elim (steps i ok r n c within listed) as (λ _. hand i r n ≡ Here c) [
        | Stops here none mine ↦ here
        | GoesBy s d a on own less nearer mine its other ↦
            let none = no_port r n c port.router port.known (handed_on i r n s d a on) listed in
            let some = index_found (λ p. p.cable == c) port.router.ports port.place port.port port.at (eq-eqb _ _ port.on) in
            absurd (not_both (port_on port.router c) some.0 none some.1)
      ]
