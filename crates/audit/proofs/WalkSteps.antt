-- The action of a router for a datagram, over tables that pass: it stops at the home of the network, or hands on to a
-- router that is one nearer.
use Rattle.std.proofs.Common.{◌≡◌, ℕ, suc, ◌<◌, ◌≤◌, inl, inr, Bool, true, false, cond, ◌&&◌, not, Some, None, length, refl, sym, ap, ◌∙◌}
use Rattle.std.proofs.Common.{subst, arith, slice_get, option_and_then, find, nat_lt, ◌==◌, is_some, eqb-true, eq-eqb}
use Rattle.std.specs.List.{list_any}
use Rattle.std.proofs.lemmas.Bool.{and_parts, not-false, cases_order, cases_Bool, ltb-false, false_from_ne_true}
use Rattle.at_base.specs.declared.address.Addr.{Addr}
use Rattle.at_base.specs.declared.error.Place.TheVariants as place
use Rattle.table_image.specs.Internet.{Internet}
use Rattle.audit.specs.Places.{on}
use Rattle.table_image.specs.Seats.{seats}
use Rattle.at_base.specs.Address.{same_address}
use Rattle.audit.specs.Routing.{Here, On, Nowhere, home, row_for, owner, hand, hand_to, hand_over, hand_by, hand_at, distance, distance_in}
use Rattle.at_base.specs.Range.{is_between}
use Rattle.rtmp.specs.States.{is_usable}
use Rattle.table_image.specs.Rows.{is_direct}
use Rattle.table_image.specs.declared.cable.Cable.{Cable}
use Rattle.table_image.specs.declared.port.Port.{Port}
use Rattle.table_image.specs.declared.row.Row.{Row}
use Rattle.table_image.specs.declared.router.Router.{Router}
use Rattle.audit.specs.Rules.{end_before, at_row, is_for, cable_of, bad_range, lacks_row, port_on, bad_direct, next_router, is_no_other}
use Rattle.audit.specs.Rules.{same_row, bad_step, Passes}
use Rattle.audit.specs.Walks.{Steps, Stops, StepsTo, HasPort}
use Rattle.audit.proofs.WalkLists.{At, at_below, at_one, index_at, index_found, find_at, find_found, find_agree, find_none}
use Rattle.audit.proofs.CableOrder.{good_at, rising, only_cable}
use Rattle.audit.proofs.WalkFacts.{GoodCable, between_is, is_between_when, for_is, same_bool, some_of, not_both, direct_is, indirect_is}
use Rattle.audit.proofs.WalkFacts.{other_is, one_less_is, next_is, owner_is}
use Rattle.audit.proofs.SeatPlaces.{AtPort, AtNode, sits}

-- the owner of an address on a cable has a port there
pub owner_has_port : (i : Internet) (c : ℕ) (a : Addr) (r : ℕ) → owner i c a ≡ Some r → HasPort i r c
owner_has_port i c a r e =
    let known = owner_is i c a r e in
    let seat = known.0.0 in
    let w = find_at (λ s. s.cable == c && same_address s.address a) (seats i) seat known.0.1 in
    let here : seat.cable ≡ c = eqb-true _ _ (and_parts _ _ w.2).0 in
    let its = known.0.2 in
    let within = known.1 in
    elim (sits i w.0 seat w.1) [
      | AtPort s ↦
          let station = s.station in
          let same : s.r ≡ r = omega arith in
          record {
            router = s.router;
            place = s.p;
            port = s.port;
            known = subst (λ r. At i.routers r s.router) same s.known;
            at =
                s.at;
            on = sym s.cable ∙ here;
          }
      | AtNode k far s ↦ let station = s.station in absurd (omega arith)
    ]

module _ (i : Internet) (ok : Passes i) where
  -- ---- cables

  pub cable_good : (k : ℕ) (c : Cable) → At i.cables k c → GoodCable (end_before i.cables k) c
  cable_good k c e = good_at i k c (ok 1) e

  -- no network is on two cables
  pub one_cable : (j k : ℕ) (a b : Cable) (n : ℕ) → At i.cables j a → At i.cables k b → is_between a.start a.end n ≡ true
      → is_between b.start b.end n ≡ true → j ≡ k
  one_cable j k a b n ea eb ha hb =
      let x = between_is a.start a.end n ha in let y = between_is b.start b.end n hb in
      elim (cases_order j k) [
        | inl e ↦ e
        | inr h ↦ elim h [
          | inl lt ↦ let o = rising i (ok 1) k j a b ea eb lt in absurd (omega arith)
          | inr gt ↦ let o = rising i (ok 1) j k b a eb ea gt in absurd (omega arith)
        ]
      ]

  -- ---- the row of a router for a network

  at_row_is : (r k : ℕ) (router : Router) (row : Row) (test : Router → Row → Bool) → At i.routers r router → At router.rows k row
      → at_row i r k test ≡ test router row
  at_row_is r k router row test er ek =
      ap (λ o. on o (λ router. on (slice_get router.rows k) (test router))) er ∙ ap (λ o. on o (test router)) ek

  -- a row is usable, and for a cable
  row_good : (r k : ℕ) (router : Router) (row : Row) → At i.routers r router → At router.rows k row → (is_usable row.state ≡ true)
      × ((c : ℕ) × (cable : Cable) × At i.cables c cable × (is_for row cable ≡ true))
  row_good r k router row er ek =
      let good = not-false (is_usable row.state && is_some (cable_of i row)) (sym (at_row_is r k router row (bad_range i) er ek)
      ∙ ok 3 (place.Row (suc r) (suc k))) in
      let parts = and_parts (is_usable row.state) (is_some (cable_of i row)) good in
      let known = some_of (cable_of i row) parts.1 in
      let w = index_at (is_for row) i.cables known.0 known.1 in
      (parts.0, (known.0, w.0, w.1, w.2))

  -- the rows of a router that contain n are those for its cable
  agree : (r : ℕ) (router : Router) (n c : ℕ) (cable : Cable) → At i.routers r router → At i.cables c cable
      → is_between cable.start cable.end n ≡ true → (k : ℕ) (row : Row) → At router.rows k row
      → (is_usable row.state && is_between row.start row.end n) ≡ is_for row cable
  agree r router n c cable er ec holds k row ek =
      let good = row_good r k router row er ek in
      let other = good.1.1 in
      let z = for_is row other good.1.3 in
      same_bool _ _
      (λ e.
      let h = between_is row.start row.end n (and_parts _ _ e).1 in
      let same : good.1.0 ≡ c =
      one_cable good.1.0 c other cable n good.1.2 ec (is_between_when other.start other.end n (omega arith) (omega arith)) holds in
      let one : other ≡ cable = at_one i.cables c other cable (subst (λ k. At i.cables k other) same good.1.2) ec in
      ap (is_for row) (sym one) ∙ good.1.3)
      (λ e.
      let s = for_is row cable e in let h = between_is cable.start cable.end n holds in
      let hn : is_between row.start row.end n ≡ true = is_between_when row.start row.end n (omega arith) (omega arith) in
      ap (λ b. b && is_between row.start row.end n) good.0 ∙ hn)

  row_for_is : (r : ℕ) (router : Router) (n c : ℕ) (cable : Cable) → At i.routers r router → At i.cables c cable
      → is_between cable.start cable.end n ≡ true → row_for router.rows n ≡ find (λ row. is_for row cable) router.rows
  row_for_is r router n c cable er ec holds = find_agree _ _ router.rows (agree r router n c cable er ec holds)

  has_row : (r : ℕ) (router : Router) (c : ℕ) (cable : Cable) → At i.routers r router → At i.cables c cable
      → list_any (λ row. is_for row cable) router.rows ≡ true
  has_row r router c cable er ec =
      not-false _ (sym (ap (λ o. on o (λ router. on (slice_get i.cables c) (lacks_row router))) er ∙ ap (λ o. on o (lacks_row router)) ec)
      ∙ ok 3 (place.Missing (suc r) (suc c)))

  -- the row that a router has for a listed network
  record TheRow (r : ℕ) (router : Router) (n c : ℕ) : Type 0 where
    row : Row
    place_of : ℕ
    at : At router.rows place_of row
    found : row_for router.rows n ≡ Some row
    of : cable_of i row ≡ Some c
    cable : Cable
    at_cable : At i.cables c cable
    holds : is_between cable.start cable.end n ≡ true
    same : is_for row cable ≡ true

  the_row : (r : ℕ) (router : Router) (n c : ℕ) → At i.routers r router → home i n ≡ Some c → TheRow r router n c
  the_row r router n c er listed =
      let w = index_at (λ c. is_between c.start c.end n) i.cables c listed in
      let f = find_found _ router.rows (has_row r router c w.0 er w.1) in
      let g = find_at _ router.rows f.0 f.1 in
      record {
        row = f.0;
        place_of = g.0;
        at = g.1;
        found = row_for_is r router n c w.0 er w.1 w.2 ∙ f.1;
        of = sym (only_cable i f.0 c w.0 (ok 1) w.1 g.2);
        cable = w.0;
        at_cable = w.1;
        holds = w.2;
        same = g.2;
      }

  distance_is : (r : ℕ) (router : Router) (n : ℕ) (row : Row) → At i.routers r router → row_for router.rows n ≡ Some row
      → distance i r n ≡ row.distance
  distance_is r router n row er e =
      ap (λ o. distance_in (option_and_then (λ (router : Router). row_for router.rows n) o)) er ∙ ap distance_in e

  hand_is : (r : ℕ) (router : Router) (n : ℕ) (row : Row) (port : Port) → At i.routers r router → row_for router.rows n ≡ Some row
      → At router.ports row.port port
      → hand i r n ≡ cond (is_direct row) (Here port.cable) (hand_to (owner i port.cable row.next) port.cable row.next)
  hand_is r router n row port er e ep =
      ap (λ o. hand_at i o n) er ∙ (ap (hand_by i router) e ∙ ap (hand_over i row) ep)

  -- a router whose row is direct puts the datagram on the cable of the row's port
  stops_at : (r : ℕ) (router : Router) (n : ℕ) (row : Row) (port : Port) (c : ℕ) → At i.routers r router → row_for router.rows n ≡ Some row
      → At router.ports row.port port → is_direct row ≡ true → port.cable ≡ c → hand i r n ≡ Here c
  stops_at r router n row port c er e ep direct on =
      let by : hand i r n ≡ Here port.cable =
      hand_is r router n row port er e ep
      ∙ ap (λ b. cond b (Here port.cable) (hand_to (owner i port.cable row.next) port.cable row.next)) direct in
      by ∙ ap Here on

  -- a router whose row isn't direct hands the datagram on to the owner of the row's next address
  goes_to : (r : ℕ) (router : Router) (n : ℕ) (row : Row) (port : Port) (s : ℕ) → At i.routers r router → row_for router.rows n ≡ Some row
      → At router.ports row.port port → is_direct row ≡ false → owner i port.cable row.next ≡ Some s
      → hand i r n ≡ On s port.cable row.next
  goes_to r router n row port s er e ep indirect own =
      let by : hand i r n ≡ hand_to (owner i port.cable row.next) port.cable row.next =
      hand_is r router n row port er e ep
      ∙ ap (λ b. cond b (Here port.cable) (hand_to (owner i port.cable row.next) port.cable row.next)) indirect in
      by ∙ ap (λ o. hand_to o port.cable row.next) own

  -- ---- the consequences of the rules for a row

  direct_good : (r k : ℕ) (router : Router) (row : Row) (c : ℕ) → At i.routers r router → At router.rows k row → cable_of i row ≡ Some c
      → bad_direct row (port_on router c) ≡ false
  direct_good r k router row c er ek of =
      let test : Router → Row → Bool = λ router row. on (cable_of i row) (λ c. bad_direct row (port_on router c)) in
      let here : at_row i r k test ≡ bad_direct row (port_on router c) =
      at_row_is r k router row test er ek ∙ ap (λ o. on o (λ c. bad_direct row (port_on router c))) of in
      sym here ∙ ok 4 (place.Row (suc r) (suc k))

  near_good : (r k : ℕ) (router : Router) (row : Row) → At i.routers r router → At router.rows k row → row.distance ≤ 14
  near_good r k router row er ek =
      ltb-false 14 row.distance (sym (at_row_is r k router row (λ router row. nat_lt 14 row.distance) er ek)
      ∙ ok 5 (place.Row (suc r) (suc k)))

  next_good : (r k : ℕ) (router : Router) (row : Row) → At i.routers r router → At router.rows k row → is_direct row ≡ false
      → is_no_other r (next_router i router row) ≡ false
  next_good r k router row er ek indirect =
      let rule : (not (is_direct row) && is_no_other r (next_router i router row)) ≡ false =
      sym (at_row_is r k router row (λ router row. not (is_direct row) && is_no_other r (next_router i router row)) er ek)
      ∙ ok 6 (place.Row (suc r) (suc k)) in
      ap (λ b. not b && is_no_other r (next_router i router row)) (sym indirect) ∙ rule

  step_good : (r k : ℕ) (router : Router) (row : Row) → At i.routers r router → At router.rows k row → is_direct row ≡ false
      → bad_step i row (next_router i router row) ≡ false
  step_good r k router row er ek indirect =
      let rule : (not (is_direct row) && bad_step i row (next_router i router row)) ≡ false =
      sym (at_row_is r k router row (λ router row. not (is_direct row) && bad_step i row (next_router i router row)) er ek)
      ∙ ok 7 (place.Row (suc r) (suc k)) in
      ap (λ b. not b && bad_step i row (next_router i router row)) (sym indirect) ∙ rule

  -- the row of another router for n is the one with the range of a row for n's cable
  their_row : (s : ℕ) (router : Router) (n c : ℕ) (cable : Cable) (row other : Row) → At i.routers s router → At i.cables c cable
      → is_between cable.start cable.end n ≡ true → is_for row cable ≡ true → same_row (slice_get i.routers s) row ≡ Some other
      → row_for router.rows n ≡ Some other
  their_row s router n c cable row other es ec holds same found =
      let ends = for_is row cable same in
      let agrees : (k : ℕ) (x : Row) → At router.rows k x → is_for x cable ≡ (x.start == row.start && x.end == row.end) =
      λ k x e. ap (λ m. x.start == m && x.end == cable.end) (sym ends.0) ∙ ap (λ m. x.start == row.start && x.end == m) (sym ends.1) in
      let theirs : same_row (Some router) row ≡ Some other = ap (λ o. same_row o row) (sym es) ∙ found in
      row_for_is s router n c cable es ec holds ∙ (find_agree _ _ router.rows agrees ∙ theirs)

  -- ---- the laws

  -- the row is direct
  steps_here : (r : ℕ) (router : Router) (n c : ℕ) (er : At i.routers r router) (t : TheRow r router n c) → is_direct t.row ≡ true
      → Steps i n c r
  steps_here r router n c er t direct =
      let row = t.row in
      let d = direct_is row (port_on router c) direct (direct_good r t.place_of router row c er t.at t.of) in
      let w = index_at (λ p. p.cable == c) router.ports d.0 d.1 in
      let ep : At router.ports row.port w.0 = ap (slice_get router.ports) d.2 ∙ w.1 in
      let on : w.0.cable ≡ c = eqb-true _ _ w.2 in
      Stops (stops_at r router n row w.0 c er t.found ep direct on) (distance_is r router n row er t.found ∙ d.3)
      (record { router = router; place = row.port; port = w.0; known = er; at = ep; on = on })

  -- the row isn't direct
  steps_on : (r : ℕ) (router : Router) (n c : ℕ) (er : At i.routers r router) (t : TheRow r router n c) → is_direct t.row ≡ false
      → Steps i n c r
  steps_on r router n c er t indirect =
      let row = t.row in
      let next = other_is r (next_router i router row) (next_good r t.place_of router row er t.at indirect) in
      let s = next.0 in
      let via = next_is i router row s next.1 in
      let port = via.0 in
      let known = owner_is i port.cable row.next s via.2 in
      let w = at_below i.routers s known.1 in
      let less = one_less_is row (same_row (slice_get i.routers s) row) (ap (bad_step i row) (sym next.1)
      ∙ step_good r t.place_of router row er t.at indirect) in
      let mine = distance_is r router n row er t.found in
      let theirs = distance_is s w.0 n less.0 w.1 (their_row s w.0 n c t.cable row less.0 w.1 t.at_cable t.holds t.same less.1) in
      StepsTo s port.cable row.next
      (goes_to r router n row port s er t.found via.1 indirect via.2)
      via.2
      known.1
      (let fewer = less.2 in omega arith)
      (record { router = router; place = row.port; port = port; known = er; at = via.1; on = refl })
      (owner_has_port i port.cable row.next s via.2)
      (λ e.
      let none = indirect_is row (port_on router c) indirect (direct_good r t.place_of router row c er t.at t.of) in
      let some = index_found (λ p. p.cable == c) router.ports row.port port via.1 (eq-eqb _ _ e) in
      not_both (port_on router c) some.0 none some.1)

  pub steps : (r n c : ℕ) → r < length i.routers → home i n ≡ Some c → Steps i n c r
  steps r n c within listed =
      let found = at_below i.routers r within in
      let t = the_row r found.0 n c found.1 listed in
      elim (cases_Bool (is_direct t.row)) [
        | inl direct ↦ steps_here r found.0 n c found.1 t direct
        | inr indirect ↦ steps_on r found.0 n c found.1 t indirect
      ]

  pub near : (r n c : ℕ) → r < length i.routers → home i n ≡ Some c → distance i r n ≤ 14
  near r n c within listed =
      let found = at_below i.routers r within in
      let t = the_row r found.0 n c found.1 listed in
      let dist = distance_is r found.0 n t.row found.1 t.found in
      let fits = near_good r t.place_of found.0 t.row found.1 t.at in
      omega arith

  -- for a network that isn't listed, a router has no row
  pub nowhere : (r n : ℕ) → r < length i.routers → home i n ≡ None → hand i r n ≡ Nowhere
  nowhere r n within unlisted =
      let found = at_below i.routers r within in
      let router = found.0 in let er = found.1 in
      let none = find_none (λ row. is_usable row.state && is_between row.start row.end n) router.rows (λ k row ek.
      let good = row_good r k router row er ek in
      let cable = good.1.1 in
      let z = for_is row cable good.1.3 in
      false_from_ne_true (is_usable row.state && is_between row.start row.end n) (λ e.
      let h = between_is row.start row.end n (and_parts (is_usable row.state) (is_between row.start row.end n) e).1 in
      let f = index_found (λ c. is_between c.start c.end n) i.cables good.1.0 cable good.1.2
      (is_between_when cable.start cable.end n (omega arith) (omega arith)) in
      not_both (home i n) f.0 unlisted f.1)) in
      ap (λ o. hand_at i o n) er ∙ ap (hand_by i router) none
