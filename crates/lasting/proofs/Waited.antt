-- A tick of a world whose ports have settled, in which no cable loses frames, leaves nothing held at a router's seat for another
-- router's address on the cable, if it leaves no frame under way.
use Rattle.std.proofs.Common.{◌≡◌, ◌⊎◌, inl, inr, ℕ, suc, ◌+◌, ◌<◌, ◌≤◌, ◌==◌, ◌%◌, true, false, List, [], Option, Some, None, Ok}
use Rattle.std.proofs.Common.{refl, sym, ap, ◌∙◌, subst, slice_get, length, arith}
use Rattle.std.specs.Prelude.{slice_index}
use Rattle.std.proofs.lemmas.List.{length-map}
use Rattle.aarp.specs.Choosing.{Choice}
use Rattle.aarp.specs.declared.held.Held.{Held as Waiter}
use Rattle.at_base.specs.declared.address.Addr.{Addr}
use Rattle.at_base.specs.declared.address.Hw.{Hw}
use Rattle.audit.proofs.WalkLists.{At, at_below, at_one}
use Rattle.cable_model.specs.Books.{HasOneSeat}
use Rattle.cable_model.specs.Logs.{pending_on}
use Rattle.cable_model.specs.Outcomes.{cable_of}
use Rattle.cable_model.specs.Pending.{is_for, pending}
use Rattle.cable_model.specs.declared.seat.Seat.{Seat}
use Rattle.internet_file.specs.declared.action.Do.{Do}
use Rattle.internet_file.specs.declared.port.Port.{Port as PlannedPort}
use Rattle.internet_file.specs.declared.router.Router.{Router as PlannedRouter}
use Rattle.lasting.proofs.Awaiting.{IsUnderWay, Owns}
use Rattle.lasting.proofs.Carrying as carrying
use Rattle.lasting.proofs.Evenly.{apart, even, live_choice, live_router, own_heard, valid}
use Rattle.lasting.proofs.Ground.{node_later, router_first}
use Rattle.lasting.proofs.Hardware.{hardware_of}
use Rattle.lasting.proofs.History.{hardware_by, hardware_in}
use Rattle.lasting.proofs.Images.{first_next, first_seat, mapped}
use Rattle.lasting.proofs.Taking.{takes_waited}
use Rattle.lasting.proofs.Origins.{HasComeRight, comes_right}
use Rattle.lasting.proofs.Ranges.{datagram_ports, taught_ranges}
use Rattle.lasting.proofs.Reasked.{AreAwaited, seat_passes}
use Rattle.lasting.proofs.Rested.{IsResting}
use Rattle.lasting.proofs.Routers.{ports_stay, ticks}
use Rattle.lasting.proofs.Sending.{IsKnown, gives_waited}
use Rattle.lasting.proofs.Sitting.{begins, one_seat, router_seat_placed, seat_cabled, seat_is, seat_low}
use Rattle.lasting.specs.Begun.{HasRun}
use Rattle.lasting.specs.Resting.{IsNumbered}
use Rattle.lasting.specs.Standing.{IsStandingRouter}
use Rattle.live_cables.proofs.Pending.{Has}
use Rattle.live_cables.specs.Finding.{held_at, seat_by}
use Rattle.live_cables.specs.Living.{GivesOut, TakesIn, Wires, happened}
use Rattle.live_node.specs.Living.{LivingNode, LiveHears as NodeHears}
use Rattle.live_node.specs.Ticking.{LiveTicks as NodeTicks}
use Rattle.live_router.proofs.Settled.{AreSettled}
use Rattle.live_router.specs.Living.{Living, LiveHears as RouterHears, heard_live}
use Rattle.live_router.specs.Ticking.{LiveTicks as RouterTicks}
use Rattle.internet_file.specs.Stations.{cable_at}
use Rattle.planned_stations.specs.Beginning.{range_of}
use Rattle.planned_stations.specs.Planning.{ports_of}
use Rattle.planned_stations.specs.Seating.{plan_seats}
use Rattle.router.specs.Answers.{heard_kind}
use Rattle.router.specs.Holding.{Holding}
use Rattle.station.specs.Hearing.{Hearing}
use Rattle.station.specs.Members.{EitherHears, EitherTicks}
use Rattle.station.specs.Resolution.{packet_at}
use Rattle.station.specs.Values.{datagram_at}
use Rattle.station.specs.declared.heard.Kind.{Kind}
use Rattle.station.specs.declared.heard.Kind.TheVariants.{Aarp, Ddp}
use Rattle.station.specs.declared.member.Member.{Member}
use Rattle.station.specs.declared.member.Member.TheVariants.{Router as RouterMember, Node as NodeMember}
use Rattle.station.specs.declared.output.Output.{Output}
use Rattle.world.specs.Doing.{acted_by, given_up}
use Rattle.world.specs.Losing.{loses_at}
use Rattle.world.specs.Ticking.{IsTick}
use Rattle.world.specs.Worlds.{Worldly}

-- ---- Ports that have settled

-- a frame leaves settled ports, before the router learns of it
kind_ports : (h : Holding) (x : Hearing) (k : Kind) → AreSettled h.ports → (heard_kind k h x).1.ports ≡ h.ports
kind_ports h x Ddp settled = datagram_ports h x (datagram_at x.bytes)
kind_ports h x Aarp settled = ports_stay h.ports x.port (packet_at x.bytes) settled

-- settled ports stay where a router hears a frame
pub hears_ports : (l new : Living) (x : Hearing) (added : List Output) → AreSettled l.router.ports → RouterHears l x added new
    → new.router.ports ≡ l.router.ports
hears_ports l new x added settled h =
    let is : new ≡ (heard_live l x).1 = ap (λ (r : List Output × Living). r.1) h in
    ap (λ (z : Living). z.router.ports) is
    ∙ (taught_ranges l.router (heard_kind x.kind l.router x).1 _ ∙ kind_ports l.router x x.kind settled)

-- the ports of a router, and none of anything else
abbrev pub choices_of : Option (Member Living LivingNode) → List Choice
choices_of None = []
choices_of (Some (RouterMember l)) = l.router.ports
choices_of (Some (NodeMember n)) = []

module _ (old : Worldly) (phase : ℕ) (rest : IsResting phase old) (run : HasRun old) where
  -- the ports of a station, if it is a router
  abbrev pub ports : ℕ → List Choice
  ports k = choices_of (slice_get old.stations k)

  -- a router stands as planned
  stands : (k : ℕ) (l : Living) → At old.stations k (RouterMember l)
      → (r : PlannedRouter) × At old.plan.routers k r × IsStandingRouter old.plan.cables phase r l
  stands k l e =
      let r = at_below old.plan.routers k (router_first old.plan phase old.stations old.wires.maps rest.standing k l e) in
      (r.0, r.1, rest.standing.routers k r.0 (RouterMember l) r.1 e)

  -- its ports are settled
  pub settled : (k : ℕ) → AreSettled (choices_of (slice_get old.stations k))
  settled k = by (slice_get old.stations k) refl
    where
      by : (o : Option (Member Living LivingNode)) → slice_get old.stations k ≡ o → AreSettled (choices_of o)
      by None e = refl
      by (Some (RouterMember l)) e = (stands k l e).2.settled
      by (Some (NodeMember n)) e = refl

  -- a station has one seat on a cable
  pub one : HasOneSeat (plan_seats old.plan)
  one =
      one_seat old.plan
      (λ k r p q a b er ea eb same. apart old.plan phase old.stations old.wires.maps rest.standing rest.passes rest.settled rest.bounded k r p q a b er ea eb same)

  -- what is held is in ranges
  pub right : HasComeRight old
  right = comes_right old run one (valid old.plan phase old.stations old.wires.maps rest.standing rest.passes rest.settled rest.bounded)

  -- a seat is found by its port
  pub by_port : (j : ℕ) (s : Seat) → At (plan_seats old.plan) j s → s.station < length old.plan.routers
      → seat_by (plan_seats old.plan) s.station s.port ≡ Some j
  by_port j s e lt = seat_is old.plan j s e lt

  -- and so is its cable
  pub cabled : (s : Seat) → Has (plan_seats old.plan) s → s.station < length old.plan.routers → cable_of (plan_seats old.plan) s.station s.port ≡ s.cable
  cabled s h lt = seat_cabled old.plan s h lt

  -- a seat has the hardware address of its port
  seat_hw : (j : ℕ) (s : Seat) → At (plan_seats old.plan) j s → s.station < length old.plan.routers → (slice_index s.hw.0 0 % 2 == 1) ≡ false
  seat_hw j s e lt =
      let w = router_seat_placed old.plan j s e lt in
      let station = w.station in
      let here : s.station ≡ w.k = omega (arith, station) in
      let l = live_router old.plan phase old.stations old.wires.maps rest.standing rest.passes rest.settled rest.bounded w.k w.r w.r_at in
      let c = live_choice old.plan phase old.stations old.wires.maps rest.standing rest.passes rest.settled rest.bounded w.r l.0 l.2 s.port w.p w.p_at in
      let same = (right.stations w.k (RouterMember l.0) l.1).1 in
      let planned : At (hardware_by old.plan w.k) s.port w.p.hardware =
      subst (λ o. At (hardware_in o) s.port w.p.hardware) (sym w.r_at) (mapped (λ (p : PlannedPort). p.hardware) w.r.port s.port w.p w.p_at) in
      let mine : At (hardware_of l.0.router.ports) s.port c.0.hw = mapped (λ (c : Choice). c.hw) l.0.router.ports s.port c.0 c.1 in
      let is : c.0.hw ≡ s.hw =
      at_one (hardware_by old.plan w.k) s.port c.0.hw w.p.hardware (subst (λ hs. At hs s.port c.0.hw) same mine) planned ∙ sym w.hw in
      subst (λ (h : Hw). (slice_index h.0 0 % 2 == 1) ≡ false) is
      (even old.plan phase old.stations old.wires.maps rest.standing rest.passes rest.settled rest.bounded w.k w.r l.0 w.r_at l.1 s.port w.p c.0 w.p_at c.1)

  -- a seat hears what is sent to its hardware address
  pub reached : (j : ℕ) (s : Seat) → At (plan_seats old.plan) j s → s.station < length old.plan.routers → (sender : ℕ) → (sender ≡ s.station → ⊥)
      → is_for s.hw sender s ≡ true
  reached j s e lt sender other = own_heard s sender (seat_hw j s e lt)

  -- ---- The tick

  -- what is known of a station
  abbrev Known : ℕ → Member Living LivingNode → Type 0
  Known k m = IsKnown (plan_seats old.plan) ports (length old.plan.routers) settled one by_port reached cabled k m

  -- what holds of the cables
  abbrev Inv : ℕ → Wires → Type 0
  Inv n w = AreAwaited (plan_seats old.plan) ports (length old.plan.routers) n w

  -- each station is known before the tick
  known : (k : ℕ) (m : Member Living LivingNode) → At old.stations k m → Known k m
  known k (RouterMember l) e = sym (ap choices_of e)
  known k (NodeMember n) e = node_later old.plan phase old.stations old.wires.maps rest.standing k n e

  -- the seats of a router follow those of the one before
  next_seat : (k : ℕ) (m : Member Living LivingNode) → Known k m → k < length old.plan.routers
      → first_seat old.plan.routers (suc k) ≡ first_seat old.plan.routers k + ports_of m
  next_seat k (NodeMember n) h lt = absurd (omega (arith, h, lt))
  next_seat k (RouterMember l) h lt =
      let r = at_below old.plan.routers k lt in
      let a = live_router old.plan phase old.stations old.wires.maps rest.standing rest.passes rest.settled rest.bounded k r.0 r.1 in
      let next = first_next old.plan.routers k r.0 r.1 in
      let same : length l.router.ports ≡ length a.0.router.ports = ap length (h ∙ ap choices_of a.1) in
      let many = ap length a.2.ranges in
      let mine = length-map a.0.router.ports (λ (c : Choice). c.range) in
      let its = length-map r.0.port (λ (p : PlannedPort). range_of (cable_at old.plan.cables p.cable)) in
      omega (arith, next, same, many, mine, its)

  -- the addresses of seats make no difference
  owns : (n : ℕ) (w : Wires) (own : List (Option Addr)) → Inv n w → Inv n (record w { own = own })
  owns n w own inv = record { same = inv.same; lossless = inv.lossless; counted = inv.counted; waited = inv.waited }

  -- a station that gives up an address is known as before
  gives_up : (k : ℕ) (m : Member Living LivingNode) (a : Addr) → Known k m → Known k (given_up m a)
  gives_up k (RouterMember l) a h = h
  gives_up k (NodeMember n) a h = h

  -- a station passes a tick
  ticks_on : (k n : ℕ) (m after : Member Living LivingNode) (os : List Output) (v w : Wires) → Known k m
      → EitherTicks RouterTicks NodeTicks m os after → GivesOut k os v w → Inv n v → Inv n w × Known k after
  ticks_on k n m after os v w is t h inv = (
    gives_waited (plan_seats old.plan) ports (length old.plan.routers) settled one by_port reached cabled n k os v w h inv,
    by m after is t,
  )
    where
      by : (m after : Member Living LivingNode) → Known k m → EitherTicks RouterTicks NodeTicks m os after → Known k after
      by (RouterMember l) (RouterMember l2) is t = (ticks l l2 os (subst AreSettled (sym is) (settled k)) t).ports ∙ is
      by (NodeMember a) (NodeMember b) is t = is
      by (RouterMember l) (NodeMember b) is t = absurd t
      by (NodeMember a) (RouterMember l) is t = absurd t

  -- a station carries out an operation
  acts_on : (k n : ℕ) (m : Member Living LivingNode) (action : Do) (os : List Output) (v w : Wires) → Known k m → acted_by m action ≡ Ok os
      → GivesOut k os v w → Inv n v → Inv n w
  acts_on k n m action os v w is made h inv =
      gives_waited (plan_seats old.plan) ports (length old.plan.routers) settled one by_port reached cabled n k os v w h inv

  -- a frame is taken
  takes_on : (stamp k n : ℕ) (m after : Member Living LivingNode) (v w : Wires) → Known k m
      → TakesIn stamp k (ports_of m) (λ heard added. EitherHears RouterHears NodeHears m heard added after) v w → Inv n v → Inv n w × Known k after
  takes_on stamp k n m after v w is h inv = (
    takes_waited (plan_seats old.plan) ports (length old.plan.routers) settled one by_port reached cabled stamp k n m after v w is h inv,
    by m after _ h.2.took.added is h.2.took.heard,
  )
    where
      by : (m after : Member Living LivingNode) (x : Hearing) (added : List Output) → Known k m → EitherHears RouterHears NodeHears m x added after
          → Known k after
      by (RouterMember l) (RouterMember l2) x added is t = hears_ports l l2 x added (subst AreSettled (sym is) (settled k)) t ∙ is
      by (NodeMember a) (NodeMember b) x added is t = is
      by (RouterMember l) (NodeMember b) x added is t = absurd t
      by (NodeMember a) (RouterMember l) x added is t = absurd t

  module _ (new : Worldly) (tick : IsTick old new) (lossless : (cable : ℕ) → loses_at old.plan new.now cable ≡ false) (numbered : IsNumbered old)
      (empty : pending_on new.wires.cabling ≡ []) where
    -- after the tick what is held at routers' seats is waited for
    ends : (n : ℕ) × Inv n new.wires × (length old.plan.routers ≤ length old.stations → first_seat old.plan.routers (length old.plan.routers) ≤ n)
    ends =
        let start : Inv 0 (record old.wires { losing = tick.losing }) = record {
          same = rest.seats;
          lossless = λ cable. tick.loses cable ∙ lossless cable;
          counted = record { once = numbered.once; below = numbered.below };
          waited = λ j s e lt router x there z own. absurd (omega (arith, lt));
        } in
        let w =
        carrying.ticked Known Inv (first_seat old.plan.routers) (length old.plan.routers) (begins old.plan.routers) next_seat owns gives_up
        (seat_passes (plan_seats old.plan) ports (length old.plan.routers)) ticks_on acts_on takes_on old new tick known start in
        (w.0, w.1, w.3)

    -- nothing is held for such an address
    pub none_waits : (j : ℕ) (s : Seat) → At (plan_seats old.plan) j s → s.station < length old.plan.routers → (x : Waiter)
        → Has (held_at new.wires.maps j) x → (z : Seat) → Owns (plan_seats old.plan) ports (length old.plan.routers) s x.next z → ⊥
    none_waits j s e router x there z own =
        let w = ends in
        let low = seat_low old.plan j s e router in
        let enough = w.2 rest.standing.whole in
        of (w.1.waited j s e (omega (arith, low, enough)) router x there z own)
      where
        of : IsUnderWay (plan_seats old.plan) (happened new.wires) s x.next z ⊎ ⊥ → ⊥
        of (inr bad) = bad
        of (inl v) =
            let none : pending (plan_seats old.plan) (happened new.wires) ≡ [] =
            subst (λ l. pending l (happened new.wires) ≡ []) ends.1.same empty in
            let e = subst (λ l. slice_get l v.waits.0 ≡ Some v.p) none v.waits.1 in cc
