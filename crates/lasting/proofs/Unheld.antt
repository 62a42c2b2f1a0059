-- After a tick in which no cable loses frames, and which leaves no frame under way, no router holds a datagram for an address to which
-- a row of its own leads.
use Rattle.std.proofs.Common.{◌≡◌, ℕ, ◌<◌, ◌≤◌, Bool, true, false, [], Some}
use Rattle.std.proofs.Common.{refl, sym, ap, ◌∙◌, subst, slice_get, length, arith, eq-eqb, true≢false}
use Rattle.aarp.specs.Choosing.{Choice}
use Rattle.aarp.specs.declared.held.Held.{Held as Waiter}
use Rattle.at_base.specs.Address.{same_address}
use Rattle.at_base.specs.Range.{Span, is_between}
use Rattle.at_base.specs.declared.address.Addr.{Addr}
use Rattle.audit.proofs.WalkLists.{At, at_below, at_map, at_one, at_within}
use Rattle.audit.proofs.WalkSteps.{one_cable}
use Rattle.cable_model.specs.Books.{HasOneSeat}
use Rattle.cable_model.specs.Logs.{pending_on}
use Rattle.cable_model.specs.declared.seat.Seat.{Seat}
use Rattle.freeze.specs.Freezing.{frozen_router}
use Rattle.freeze.specs.Frozen.{cables_by}
use Rattle.internet_file.specs.Files.{Planned}
use Rattle.internet_file.specs.Stations.{cable_at}
use Rattle.internet_file.specs.declared.port.Port.{Port as PlannedPort}
use Rattle.lasting.proofs.Again.{stood}
use Rattle.lasting.proofs.Alike.{IsRouterAt}
use Rattle.lasting.proofs.Awaiting.{IsOwner}
use Rattle.lasting.proofs.Earlier.{AreHeldIn, ranges_by, ranges_in}
use Rattle.lasting.proofs.Evenly.{HasAddress, live_router, owner_port, port_in, valid}
use Rattle.lasting.proofs.Ground.{grounded, image_count, image_router, router_first}
use Rattle.lasting.proofs.Images.{mapped, seat_of}
use Rattle.lasting.proofs.Origins.{comes_right}
use Rattle.lasting.proofs.Refreshed.{port_back}
use Rattle.lasting.proofs.Rested.{IsResting}
use Rattle.lasting.proofs.Run.{run_on}
use Rattle.lasting.proofs.Stored.{same_is}
use Rattle.lasting.proofs.Waited.{choices_of, none_waits, one, ports}
use Rattle.lasting.specs.Begun.{HasRun, IsNextTick}
use Rattle.lasting.specs.Resting.{AreOther, IsNumbered}
use Rattle.lasting.specs.Settled.{IsNoNextRouter}
use Rattle.lasting.specs.Standing.{IsStandingRouter}
use Rattle.live_cables.proofs.Pending.{Has}
use Rattle.live_cables.specs.Finding.{held_at}
use Rattle.live_router.specs.Living.{Living}
use Rattle.planned_stations.specs.Beginning.{range_of}
use Rattle.planned_stations.specs.Seating.{plan_seats}
use Rattle.rtmp.specs.Routes.{is_direct}
use Rattle.rtmp.specs.declared.row.Row.{Row as RouteRow}
use Rattle.settled.specs.Exchange.{AreMovedRows, image_row}
use Rattle.settled.specs.Moved.{IsMoved, IsWay}
use Rattle.station.specs.declared.member.Member.TheVariants.{Router as RouterMember}
use Rattle.table_image.specs.declared.cable.Cable.{Cable}
use Rattle.table_image.specs.declared.port.Port.{Port}
use Rattle.table_image.specs.declared.router.Router.{Router}
use Rattle.table_image.specs.declared.version.Version.TheVariants.{V1}
use Rattle.world.specs.Frozen.{frozen_as}
use Rattle.world.specs.Losing.{loses_at}
use Rattle.world.specs.Worlds.{Worldly}

-- No router holds a datagram for an address to which a row of its own leads.
abbrev pub NoRouterWaits : Worldly → Type 0
NoRouterWaits w =
    (seat k : ℕ) (h : Waiter) → slice_get (held_at w.wires.maps seat) k ≡ Some h → IsNoNextRouter w.stations (plan_seats w.plan) seat h.next

module _ (old new : Worldly) (phase : ℕ) (rest : IsResting phase old) (run : HasRun old) (t : IsNextTick old new) (others : AreOther old.plan new.now)
    (lossless : (cable : ℕ) → loses_at old.plan new.now cable ≡ false) (numbered : IsNumbered old) (empty : pending_on new.wires.cabling ≡ []) where
  -- what is held after the tick is for addresses in ranges
  held_in : AreHeldIn old.plan new.wires.maps
  held_in =
      let same_one : HasOneSeat (plan_seats new.plan) = subst (λ p. HasOneSeat (plan_seats p)) (sym t.plan) (one old phase rest run) in
      let same_valid : (k q : ℕ) (range : Span) → At (ranges_by new.plan k) q range → 1 ≤ range.start =
      subst (λ (p : Planned). (k q : ℕ) (range : Span) → At (ranges_by p k) q range → 1 ≤ range.start) (sym t.plan)
      (valid old.plan phase old.stations old.wires.maps rest.standing rest.passes rest.settled rest.bounded) in
      subst (λ p. AreHeldIn p new.wires.maps) t.plan (comes_right new (run_on old new run t) same_one same_valid).held

  -- the cable of a seat of a router's port, and its range
  seat_range : (j : ℕ) (s : Seat) (a : Living) → At (plan_seats old.plan) j s → (ea : At old.stations s.station (RouterMember a)) → (x : Waiter)
      → Has (held_at new.wires.maps j) x
      → (z : Cable) × At (frozen_as V1 old).cables s.cable z × (is_between z.start z.end x.next.net ≡ true)
  seat_range j s a es ea x there =
      let g : IsRouterAt (frozen_as V1 old) (plan_seats old.plan) s.station a =
      grounded old.plan phase old.stations old.wires.maps rest.standing rest.passes rest.settled rest.bounded s.station (RouterMember a) ea in
      let seat = g.seat s (j, es) refl in
      let port = g.port s.port seat.0 seat.2 in
      let same : port.0 ≡ seat.1 = at_one g.x.ports s.port port.0 seat.1 port.1 seat.3 in
      let cable : At (frozen_as V1 old).cables s.cable port.2 =
      subst (λ n. At (frozen_as V1 old).cables n port.2) (ap (λ (p : Port). p.cable) same ∙ seat.4) port.3 in
      let r = at_below old.plan.routers s.station (router_first old.plan phase old.stations old.wires.maps rest.standing s.station a ea) in
      let h : IsStandingRouter old.plan.cables phase r.0 a = rest.standing.routers s.station r.0 (RouterMember a) r.1 ea in
      let at : At (ranges_by old.plan s.station) s.port seat.0.range =
      subst (λ o. At (ranges_in old.plan.cables o) s.port seat.0.range) (sym r.1)
      (subst (λ l. At l s.port seat.0.range) h.ranges (mapped (λ (c : Choice). c.range) a.router.ports s.port seat.0 seat.2)) in
      let within = held_in j s es seat.0.range at x there in
      (port.2, cable, subst (λ (z : Span). is_between z.start z.end x.next.net ≡ true) port.4 within)

  -- the seat of the port that has an address on a cable
  owner_seat : (r cable : ℕ) (a : Addr) → HasAddress (frozen_as V1 old) r cable a
      → (z : Seat) × Has (plan_seats old.plan) z × (z.station ≡ r) × (z.cable ≡ cable) × (r < length old.plan.routers)
      × ((c : Choice) × At (choices_of (slice_get old.stations r)) z.port c × (c.tentative ≡ a))
  owner_seat r cable a own =
      let low = at_within (frozen_as V1 old).routers r own.router own.router_at in
      let many = image_count old.plan phase old.stations old.wires.maps rest.standing in
      let planned = at_below old.plan.routers r (omega (arith, low, many)) in
      let l = live_router old.plan phase old.stations old.wires.maps rest.standing rest.passes rest.settled rest.bounded r planned.0 planned.1 in
      let g : IsRouterAt (frozen_as V1 old) (plan_seats old.plan) r l.0 =
      grounded old.plan phase old.stations old.wires.maps rest.standing rest.passes rest.settled rest.bounded r (RouterMember l.0) l.1 in
      let x = image_router old.plan phase old.stations old.wires.maps rest.standing r planned.0 l.0 planned.1 l.1 in
      let same_x : own.router ≡ frozen_router V1 (cables_by planned.0) l.0.router x.0 =
      at_one (frozen_as V1 old).routers r own.router _ own.router_at x.1 in
      let same_g : own.router ≡ g.x = at_one (frozen_as V1 old).routers r own.router g.x own.router_at g.x_at in
      let c = port_back (cables_by planned.0) l.0.router.ports x.0 own.q own.port (subst (λ (y : Router). At y.ports own.q own.port) same_x own.port_at) in
      let port = g.port own.q c.0 c.1 in
      let mine : At g.x.ports own.q own.port = subst (λ (y : Router). At y.ports own.q own.port) same_g own.port_at in
      let same_port : port.0 ≡ own.port = at_one g.x.ports own.q port.0 own.port port.1 mine in
      let p = at_map (λ (p : PlannedPort). range_of (cable_at old.plan.cables p.cable)) planned.0.port own.q c.0.range
      (subst (λ l. At l own.q c.0.range) l.2.ranges (mapped (λ (c : Choice). c.range) l.0.router.ports own.q c.0 c.1)) in
      let z = seat_of old.plan r planned.0 own.q p.0 planned.1 p.1 in
      let seat = g.seat z.0 z.1 z.2 in
      let on : seat.1 ≡ own.port = at_one g.x.ports own.q seat.1 own.port (subst (λ n. At g.x.ports n seat.1) z.3 seat.3) mine in (
        z.0,
        z.1,
        z.2,
        sym seat.4 ∙ (ap (λ (y : Port). y.cable) on ∙ own.on_cable),
        omega (arith, low, many),
        (
          c.0,
          subst (λ o. At (choices_of o) z.0.port c.0) (sym l.1) (subst (λ n. At l.0.router.ports n c.0) (sym z.3) c.1),
          sym port.5 ∙ (ap (λ (y : Port). y.address) same_port ∙ own.address),
        ),
      )

  -- no row leads to an address for which something is held
  never : (j : ℕ) (s : Seat) (x : Waiter) (l : Living) (n : ℕ) (row : RouteRow) → At (plan_seats old.plan) j s → Has (held_at new.wires.maps j) x
      → At new.stations s.station (RouterMember l) → At l.router.routes n row → is_direct row ≡ false → row.next ≡ x.next → ⊥
  never j s x l n row es there el er off is =
      let i = frozen_as V1 old in
      let was = stood old new phase rest others t.tick ⊥ (λ no. absurd no) s.station l el in
      let g : IsRouterAt i (plan_seats old.plan) s.station was.0 =
      grounded old.plan phase old.stations old.wires.maps rest.standing rest.passes rest.settled rest.bounded s.station (RouterMember was.0) was.1 in
      let moved : AreMovedRows i s.station g.x l.router.routes = was.2.1 g.x g.x_at in
      let low = at_within l.router.routes n row er in
      let count = moved.count in
      let b = at_below g.x.rows n (omega (arith, low, count)) in
      let m : IsMoved i s.station g.x b.0 (image_row row) = moved.each n b.0 row b.1 er in
      let way : IsWay i s.station g.x (image_row row) = m.leads off in
      let own = owner_port i way.port.cable row.next way.next way.owned in
      let z = owner_seat way.next way.port.cable row.next own in
      let mine = seat_range j s was.0 es was.1 x there in
      let its = port_in i rest.passes way.next own.q own.router own.port own.router_at own.port_at in
      let theirs : is_between its.0.start its.0.end x.next.net ≡ true =
      subst (λ (a : Addr). is_between its.0.start its.0.end a.net ≡ true) (own.address ∙ is) its.2 in
      let cable : s.cable ≡ own.port.cable = one_cable i rest.passes s.cable own.port.cable mine.0 its.0 x.next.net mine.1 its.1 mine.2 theirs in
      let owner : IsOwner (plan_seats old.plan) (ports old phase rest run) (length old.plan.routers) s x.next z.0 = record {
        has = z.1;
        cable = z.3 ∙ (sym own.on_cable ∙ sym cable);
        other = λ same. true≢false (sym (eq-eqb s.station way.next (sym same ∙ z.2)) ∙ way.other);
        router = let station = z.2 in let less = z.4 in omega (arith, station, less);
        c = z.5.0;
        c_at = subst (λ k. At (choices_of (slice_get old.stations k)) z.0.port z.5.0) (sym z.2) z.5.1;
        is = z.5.2 ∙ is;
      } in
      none_waits old phase rest run new t.tick lossless numbered empty j s es
      (router_first old.plan phase old.stations old.wires.maps rest.standing s.station was.0 was.1) x there z.0 owner

  -- so no router waits
  pub none_held : NoRouterWaits new
  none_held seat k h e s l n row es el er off =
      by (same_address row.next h.next) refl
    where
      by : (b : Bool) → same_address row.next h.next ≡ b → b ≡ false
      by false f = refl
      by true f =
          absurd (never seat s h l n row (subst (λ p. At (plan_seats p) seat s) t.plan es) (k, e) el er off (same_is row.next h.next f))
