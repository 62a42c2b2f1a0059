-- In a world that has run, what is held at the seat of a router's port is for addresses in the range of the port's cable, and the
-- port has the hardware address of the plan.
use Rattle.std.proofs.Common.{◌≡◌, ℕ, zero, suc, ◌<◌, ◌≤◌, List, [], ◌∷◌, Option, Some, None, Ok}
use Rattle.std.proofs.Common.{refl, sym, ap, ◌∙◌, subst, slice_get, length, map, arith}
use Rattle.std.specs.List.{All, AllByRecursion as Each}
use Rattle.std.proofs.lemmas.List.{length-map}
use Rattle.aarp.specs.Choosing.{Choice}
use Rattle.at_base.specs.Range.{Span}
use Rattle.at_base.specs.declared.address.Addr.{Addr}
use Rattle.at_base.specs.declared.address.Hw.{Hw}
use Rattle.audit.proofs.WalkLists.{At}
use Rattle.cable_model.specs.Books.{HasOneSeat}
use Rattle.internet_file.specs.Files.{Planned}
use Rattle.internet_file.specs.declared.action.Do.{Do}
use Rattle.internet_file.specs.declared.router.Router.{Router as PlannedRouter}
use Rattle.lasting.proofs.Carrying as carrying
use Rattle.lasting.proofs.Earlier.{AreHeldIn, FitsIn, HeldInv, MayIn, any_loss, by_port, by_seat, held_grows, held_holds, held_learns, held_lost, held_ticks, ranges_by, ranges_in}
use Rattle.lasting.proofs.Hardware.{hardware_of, hears_same, ticks_same}
use Rattle.lasting.proofs.Leading.{GoesIn, IsNextIn}
use Rattle.lasting.proofs.Nearing.{GoesBy, IsWithin, hears_right, ticks_right}
use Rattle.lasting.proofs.Numbered.{gives_counts, passes_counts, takes_counts}
use Rattle.lasting.proofs.Ranges.{ranges_of, router_hears, router_ticks}
use Rattle.lasting.proofs.Rightly.{AreRight, poisoned_right}
use Rattle.lasting.proofs.Walking as walking
use Rattle.lasting.specs.Begun.{AreNextTicks, IsNextTick}
use Rattle.lasting.specs.Resting.{last_of}
use Rattle.live_cables.specs.Living.{GivesOut, PassesFor, TakesIn, Wires}
use Rattle.live_node.specs.Living.{LivingNode, LiveHears as NodeHears}
use Rattle.live_node.specs.Ticking.{LiveTicks as NodeTicks}
use Rattle.live_router.specs.Living.{Living, LiveHears as RouterHears}
use Rattle.live_router.specs.Ticking.{LiveTicks as RouterTicks}
use Rattle.planned_stations.specs.Planning.{ports_of}
use Rattle.planned_stations.specs.Seating.{plan_seats}
use Rattle.station.specs.Hearing.{Hearing}
use Rattle.station.specs.Lawful.{IsGood}
use Rattle.station.specs.Members.{EitherHears, EitherTicks}
use Rattle.station.specs.declared.member.Member.{Member}
use Rattle.station.specs.declared.member.Member.TheVariants.{Router as RouterMember, Node as NodeMember}
use Rattle.station.specs.declared.output.Next.{Next}
use Rattle.station.specs.declared.output.Next.TheVariants as next
use Rattle.station.specs.declared.output.Output.{Output}
use Rattle.station.specs.declared.output.Output.TheVariants as output
use Rattle.world.specs.Doing.{acted_by, given_up}
use Rattle.world.specs.Worlds.{Worldly}

-- the hardware addresses of a planned router's ports
abbrev pub hardware_in : Option PlannedRouter → List Hw
hardware_in None = []
hardware_in (Some r) = map (λ p. p.hardware) r.port

-- those of a station's ports: a node has none
abbrev pub hardware_by : Planned → ℕ → List Hw
hardware_by plan k = hardware_in (slice_get plan.routers k)

-- A router's ports have the ranges and the hardware addresses of the plan, and its rows lead by them; and a node comes after the
-- routers.
abbrev pub IsRight : Planned → ℕ → Member Living LivingNode → Type 0
IsRight plan k (RouterMember l) =
    (ranges_of l.router.ports ≡ ranges_by plan k) × (hardware_of l.router.ports ≡ hardware_by plan k) × AreRight (ranges_by plan k) l.router.routes
IsRight plan k (NodeMember n) = length plan.routers ≤ k

-- there is nothing past the end of a list
none_at : {X : Type 0} (xs : List X) (k : ℕ) → length xs ≤ k → slice_get xs k ≡ None
none_at [] k le = refl
none_at (x ∷ xs) zero le = absurd (omega (arith, le))
none_at (x ∷ xs) (suc k) le = none_at xs k (omega (arith, le))

-- what holds of each element by its place
each_within : {X : Type 0} (P : X → Type 0) (xs : List X) → All P xs → Each P xs
each_within P [] h = tt
each_within P (x ∷ xs) h = (h 0 x (omega arith), each_within P xs (λ k d lt. h (suc k) d (omega (arith, lt))))

module _ (plan : Planned) (one : HasOneSeat (plan_seats plan))
    (valid : (k q : ℕ) (range : Span) → At (ranges_by plan k) q range → 1 ≤ range.start) where
  abbrev Inv : ℕ → Wires → Type 0
  Inv n w = (w.cabling.seats ≡ plan_seats plan) × AreHeldIn plan w.maps

  -- the station may put out this
  abbrev MayOut : ℕ → Output → Type 0
  MayOut =
      walking.MayPutOut (HeldInv plan one) (plan_seats plan) (FitsIn plan one) (MayIn plan one) (any_loss plan one)
      (by_port plan one) (by_seat plan one) (held_grows plan one) (held_holds plan one) (held_lost plan one) (held_learns plan one)

  -- a router may send to what is next by its port
  may_next : (k port : ℕ) (to : Next) → port < length (ranges_by plan k) → IsNextIn (ranges_by plan k) port to
      → walking.MaySend (HeldInv plan one) (plan_seats plan) (FitsIn plan one) (MayIn plan one) (any_loss plan one)
      (by_port plan one) (by_seat plan one) (held_grows plan one) (held_holds plan one) (held_lost plan one) (held_learns plan one) k port to
  may_next k port (next.Station a) lt p = (λ q range at. lt, p)
  may_next k port next.All lt p = tt
  may_next k port (next.Group g) lt p = tt

  -- and put out what goes so
  may_out : (k : ℕ) (o : Output) → GoesBy (ranges_by plan k) o → MayOut k o
  may_out k (output.Made port to bytes) p = may_next k port to p.1 p.0
  may_out k (output.Passed port to bytes) p = may_next k port to p.1 p.0
  may_out k (output.Kept port bytes) p = tt
  may_out k (output.Dropped cause bytes) p = tt
  may_out k (output.Wire port to bytes) p = tt

  -- and all of several
  all_may : (k : ℕ) (os : List Output) → Each (GoesBy (ranges_by plan k)) os → Each (MayOut k) os
  all_may k [] h = tt
  all_may k (o ∷ os) h = (may_out k o h.0, all_may k os h.1)

  -- a node may send anything, since its seat is no router's
  nodes_next : (k port : ℕ) (to : Next) → length plan.routers ≤ k
      → walking.MaySend (HeldInv plan one) (plan_seats plan) (FitsIn plan one) (MayIn plan one) (any_loss plan one)
      (by_port plan one) (by_seat plan one) (held_grows plan one) (held_holds plan one) (held_lost plan one) (held_learns plan one) k port to
  nodes_next k port (next.Station a) le =
      let none : ranges_by plan k ≡ [] = ap (ranges_in plan.cables) (none_at plan.routers k le) in
      (λ q range at. absurd (let bad = subst (λ l. At l q range) none at in cc), λ range at. absurd (let bad = subst (λ l. At l port range) none at in cc))
  nodes_next k port next.All le = tt
  nodes_next k port (next.Group g) le = tt

  -- so it may put out anything
  nodes_may : (k : ℕ) (os : List Output) → length plan.routers ≤ k → Each (MayOut k) os
  nodes_may k [] le = tt
  nodes_may k (o ∷ os) le = (of o, nodes_may k os le)
    where
      of : (o : Output) → MayOut k o
      of (output.Made port to bytes) = nodes_next k port to le
      of (output.Passed port to bytes) = nodes_next k port to le
      of (output.Kept port bytes) = tt
      of (output.Dropped cause bytes) = tt
      of (output.Wire port to bytes) = tt

  -- what is lawful goes by a port that there is
  both : (n : ℕ) (rs : List Span) (os : List Output) → n ≡ length rs → Each (IsGood n) os → Each (GoesIn rs) os → Each (GoesBy rs) os
  both n rs [] same l p = tt
  both n rs (o ∷ os) same l p = ((p.0, of o l.0), both n rs os same l.1 p.1)
    where
      of : (o : Output) → IsGood n o → IsWithin (length rs) o
      of (output.Made port to bytes) g = subst (λ m. port < m) same g.0
      of (output.Passed port to bytes) g = subst (λ m. port < m) same g.0
      of (output.Kept port bytes) g = tt
      of (output.Dropped cause bytes) g = tt
      of (output.Wire port to bytes) g = tt

  -- ---- Steps

  -- outputs are given out
  gives_right : (k : ℕ) (os : List Output) (old new : Wires) → Each (MayOut k) os → GivesOut k os old new → (n : ℕ) → Inv n old → Inv n new
  gives_right k os old new may h n inv = (
    (gives_counts k os old new h).seats ∙ inv.0,
    walking.gives (HeldInv plan one) (plan_seats plan) (FitsIn plan one) (MayIn plan one) (any_loss plan one) (by_port plan one)
        (by_seat plan one) (held_grows plan one) (held_holds plan one) (held_lost plan one) (held_learns plan one) k os old new inv.0 (λ c. tt) may h inv.1,
  )

  -- the mappings of a seat pass a tick
  passes_right : (seat : ℕ) (old new : Wires) → PassesFor seat old new → Inv seat old → Inv (suc seat) new
  passes_right seat old new h inv =
      ((passes_counts seat old new h).seats ∙ inv.0, subst (AreHeldIn plan) (sym h.5) (held_ticks plan one old.maps seat inv.1))

  -- a station passes a tick
  ticks_on : (k n : ℕ) (m after : Member Living LivingNode) (os : List Output) (old new : Wires) → IsRight plan k m
      → EitherTicks RouterTicks NodeTicks m os after → GivesOut k os old new → Inv n old → Inv n new × IsRight plan k after
  ticks_on k n (RouterMember l) (RouterMember l2) os old new is t h inv =
      let right : AreRight (ranges_of l.router.ports) l.router.routes = subst (λ rs. AreRight rs l.router.routes) (sym is.0) is.2 in
      let w = ticks_right l l2 os right t in
      let may : Each (GoesBy (ranges_by plan k)) os = subst (λ rs. Each (GoesBy rs) os) is.0 w.0 in (
        gives_right k os old new (all_may k os may) h n inv,
        ((router_ticks l l2 os t).1 ∙ is.0, ticks_same l l2 os t ∙ is.1, subst (λ rs. AreRight rs l2.router.routes) is.0 w.1),
      )
  ticks_on k n (NodeMember a) (NodeMember b) os old new is t h inv = (gives_right k os old new (nodes_may k os is) h n inv, is)
  ticks_on k n (RouterMember l) (NodeMember b) os old new is t h inv = absurd t
  ticks_on k n (NodeMember a) (RouterMember l) os old new is t h inv = absurd t

  -- a station carries out an operation
  acts_on : (k n : ℕ) (m : Member Living LivingNode) (action : Do) (os : List Output) (old new : Wires) → IsRight plan k m → acted_by m action ≡ Ok os
      → GivesOut k os old new → Inv n old → Inv n new
  acts_on k n (RouterMember l) action os old new is made h inv =
      let none : [] ≡ os = cc in gives_right k os old new (subst (Each (MayOut k)) none tt) h n inv
  acts_on k n (NodeMember a) action os old new is made h inv = gives_right k os old new (nodes_may k os is) h n inv

  -- a frame is taken by a station that puts out what it may
  taken : (stamp k n ports : ℕ) (Hears : Hearing → List Output → Type 0) (old new : Wires)
      → (h : TakesIn stamp k ports Hears old new) → Each (MayOut k) h.2.took.added → Inv n old → Inv n new
  taken stamp k n ports Hears old new h may inv = (
    (takes_counts stamp k ports Hears old new h).seats ∙ inv.0,
    walking.takes (HeldInv plan one) (plan_seats plan) (FitsIn plan one) (MayIn plan one) (any_loss plan one) (by_port plan one)
        (by_seat plan one) (held_grows plan one) (held_holds plan one) (held_lost plan one) (held_learns plan one) stamp k ports Hears old new inv.0 (λ c. tt) h
        may inv.1,
  )

  -- a frame is taken
  takes_on : (stamp k n : ℕ) (m after : Member Living LivingNode) (old new : Wires) → IsRight plan k m
      → TakesIn stamp k (ports_of m) (λ heard added. EitherHears RouterHears NodeHears m heard added after) old new → Inv n old
      → Inv n new × IsRight plan k after
  takes_on stamp k n (RouterMember l) (RouterMember l2) old new is h inv =
      let took = h.2.took in
      let right : AreRight (ranges_of l.router.ports) l.router.routes = subst (λ rs. AreRight rs l.router.routes) (sym is.0) is.2 in
      let w = hears_right l l2 _ took.added (λ q range at. valid k q range (subst (λ rs. At rs q range) is.0 at)) right took.heard in
      let many : length l.router.ports ≡ length (ranges_of l.router.ports) = sym (length-map l.router.ports (λ (c : Choice). c.range)) in
      let goes : Each (GoesBy (ranges_of l.router.ports)) took.added =
      both (length l.router.ports) (ranges_of l.router.ports) took.added many (each_within (IsGood (length l.router.ports)) took.added took.lawful.each) w.0 in
      let may : Each (GoesBy (ranges_by plan k)) took.added = subst (λ rs. Each (GoesBy rs) took.added) is.0 goes in (
        taken stamp k n (ports_of (RouterMember l)) _ old new h (all_may k took.added may) inv,
        (
          (router_hears l l2 _ took.added took.heard).1 ∙ is.0,
          hears_same l l2 _ took.added took.heard ∙ is.1,
          subst (λ rs. AreRight rs l2.router.routes) is.0 w.1,
        ),
      )
  takes_on stamp k n (NodeMember a) (NodeMember b) old new is h inv =
      (taken stamp k n (ports_of (NodeMember a)) _ old new h (nodes_may k h.2.took.added is) inv, is)
  takes_on stamp k n (RouterMember l) (NodeMember b) old new is h inv = absurd h.2.took.heard
  takes_on stamp k n (NodeMember a) (RouterMember l) old new is h inv = absurd h.2.took.heard

  -- an address is given up
  gives_up_on : (k : ℕ) (m : Member Living LivingNode) (a : Addr) → IsRight plan k m → IsRight plan k (given_up m a)
  gives_up_on k (RouterMember l) a is = (is.0, is.1, poisoned_right (ranges_by plan k) a l.router.routes is.2)
  gives_up_on k (NodeMember n) a is = is

  -- ---- From tick to tick

  -- all stations are right, and what is held is for addresses in ranges
  pub record AreAllRight (w : Worldly) : Type 0 where
    pub plan_is : w.plan ≡ plan
    pub seats : w.wires.cabling.seats ≡ plan_seats plan
    pub held : AreHeldIn plan w.wires.maps
    pub stations : (k : ℕ) (m : Member Living LivingNode) → At w.stations k m → IsRight plan k m

  -- a world passes a tick
  tick_on : (old new : Worldly) → AreAllRight old → IsNextTick old new → AreAllRight new
  tick_on old new h t =
      let w =
      carrying.ticked (IsRight plan) Inv (λ k. 0) 0 refl (λ k m is lt. absurd (omega (arith, lt))) (λ n w own inv. inv) gives_up_on passes_right ticks_on acts_on
      takes_on old new t.tick h.stations (h.seats, h.held) in
      record { plan_is = t.plan ∙ h.plan_is; seats = w.1.0; held = w.1.1; stations = w.2 }

  -- and several ticks
  pub all_on : (w : Worldly) (vs : List Worldly) → AreAllRight w → AreNextTicks w vs → AreAllRight (last_of w vs)
  all_on w [] h ticks = h
  all_on w (v ∷ vs) h (t, ticks) = all_on v vs (tick_on w v h t) ticks
