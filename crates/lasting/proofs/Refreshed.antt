-- A tick in which routers send routing data leaves all rows fresh.
use Rattle.std.proofs.Common.{◌≡◌, ◌⊎◌, inl, inr, ℕ, zero, suc, ◌+◌, ◌*◌, ◌%◌, ◌≤◌, ◌==◌, Bool, true, false, cond, ◌||◌, List, [], ◌∷◌, ◌++◌, Some, None}
use Rattle.std.proofs.Common.{refl, sym, ap, ◌∙◌, subst, length, map, take, drop, arith, nat_lt, length-append}
use Rattle.std.specs.Prelude.{nat_le}
use Rattle.std.proofs.lemmas.Bool.{le-leb}
use Rattle.std.proofs.lemmas.List.{length-map, length-take}
use Rattle.aarp.specs.Choosing.{Choice}
use Rattle.aarp.specs.Mapping.{Mappings}
use Rattle.at_base.specs.Range.{Span}
use Rattle.at_base.specs.Spelling.{bytes_of, list_bytes}
use Rattle.at_base.specs.declared.address.Addr.{Addr}
use Rattle.audit.proofs.WalkLists.{At, at_below, at_map, at_one, at_within}
use Rattle.cable_model.specs.Logs.{pending_on, transcript}
use Rattle.cable_model.specs.Pending.{pending}
use Rattle.cable_model.specs.Transcript.{Entry}
use Rattle.cable_model.specs.declared.seat.Seat.{Seat}
use Rattle.ddp.proofs.Shape.{bytes_laid}
use Rattle.ddp.specs.Datagram.{datagram}
use Rattle.freeze.specs.Freezing.{frozen_ports, frozen_router}
use Rattle.freeze.specs.Frozen.{cables_by}
use Rattle.internet_file.specs.Stations.{cable_at}
use Rattle.internet_file.specs.declared.port.Port.{Port as PlannedPort}
use Rattle.internet_file.specs.declared.router.Router.{Router as PlannedRouter}
use Rattle.lasting.proofs.Again.{AreFresh, stood}
use Rattle.lasting.proofs.Ageing.{all_spoken}
use Rattle.lasting.proofs.Brightening.{bright}
use Rattle.lasting.proofs.Given.{IsFineOn, IsLossless}
use Rattle.lasting.proofs.Ground.{grounded, image_count, image_router, laid, router_first}
use Rattle.lasting.proofs.Images.{mapped, seat_of}
use Rattle.lasting.proofs.Promising.{AreBright, IsPromise, all_fresh, all_kept}
use Rattle.lasting.proofs.Refreshing.{IsFreshAt}
use Rattle.lasting.proofs.Rested.{IsResting}
use Rattle.lasting.proofs.Staying.{calm_stays}
use Rattle.lasting.proofs.Telling.{IsToldOf}
use Rattle.lasting.proofs.Ticking.{fine, good}
use Rattle.lasting.proofs.Turning.{all_done, all_passed}
use Rattle.lasting.specs.Hears.{data_datagram}
use Rattle.lasting.specs.Resting.{AreOther, IsNumbered}
use Rattle.lasting.specs.Standing.{IsStandingAsRouter, IsStandingRouter}
use Rattle.live_cables.proofs.Pending.{Has}
use Rattle.live_cables.specs.Living.{Wires, happened}
use Rattle.live_cables.specs.Steps.{are_calm}
use Rattle.live_node.specs.Living.{LivingNode}
use Rattle.live_router.specs.Living.{Living}
use Rattle.live_router.specs.Ticking.{phase_after}
use Rattle.planned_stations.specs.Beginning.{range_of}
use Rattle.planned_stations.specs.Seating.{plan_seats}
use Rattle.rtmp.specs.Data.{RoutingData, data_of, routing_data, written_of, written_tuple}
use Rattle.rtmp.specs.Sending.{own_tuple, packet_numbered, rows_sent, sent_tuple}
use Rattle.rtmp.specs.declared.request.Horizon.TheVariants.{Split}
use Rattle.rtmp.specs.declared.row.Row.{Row as RouteRow}
use Rattle.rtmp.specs.declared.tuple.Tuple.{Tuple}
use Rattle.station.specs.declared.member.Member.{Member}
use Rattle.station.specs.declared.member.Member.TheVariants.{Router as RouterMember, Node as NodeMember}
use Rattle.table_image.specs.declared.port.Port.{Port}
use Rattle.table_image.specs.declared.router.Router.{Router}
use Rattle.table_image.specs.declared.row.Row.{Row}
use Rattle.table_image.specs.declared.version.Version.TheVariants.{V1}
use Rattle.world.specs.Frozen.{frozen_as}
use Rattle.world.specs.Losing.{loses_at}
use Rattle.world.specs.Ticking.{IsTick}
use Rattle.world.specs.Worlds.{Worldly}

-- ---- Sizes

tuple_len : (low : ℕ) (t : Tuple) → length (bytes_of (written_tuple low) (written_of t)) ≡ 6
unfolding written_tuple
tuple_len low t =
    let extended : nat_le 128 (128 + t.distance) ≡ true = le-leb _ _ (omega arith) in
    rw extended refl

tuples_len : (low : ℕ) (ts : List Tuple)
    → length (list_bytes (λ l. bytes_of (written_tuple l)) (λ w. 1) low (map written_of ts)) ≡ 6 * length ts
tuples_len low [] = refl
tuples_len low (t ∷ ts) =
    let others = tuples_len 1 ts in
    let first = tuple_len low t in
    omega (
      arith,
      first,
      others,
      length-append (bytes_of (written_tuple low) (written_of t))
          (list_bytes (λ l. bytes_of (written_tuple l)) (λ w. 1) 1 (map written_of ts)),
    )

data_len : (me : Addr) (ts : List Tuple) → length (bytes_of routing_data (data_of me ts)) ≡ 4 + 6 * length ts
unfolding routing_data
data_len me ts = let tuples = tuples_len 0 ts in omega (arith, tuples)

short : (q : ℕ) (range : Span) (me : Addr) (m : ℕ) (rows : List RouteRow) (p : RoutingData) → packet_numbered Split q range me m rows ≡ Some p
    → length (bytes_of datagram (data_datagram me p)) ≤ 599
short q range me m rows p sent = by (m == 0 || nat_lt (m * 96) (length (rows_sent Split q rows))) sent
  where
    by : (b : Bool) → cond b (Some (data_of me (own_tuple range ∷ map sent_tuple (take 96 (drop (m * 96) (rows_sent Split q rows)))))) None ≡ Some p
        → length (bytes_of datagram (data_datagram me p)) ≤ 599
    by false e = cc
    by true e =
        let window = take 96 (drop (m * 96) (rows_sent Split q rows)) in
        let is : data_of me (own_tuple range ∷ map sent_tuple window) ≡ p = cc in
        let len = data_len me (own_tuple range ∷ map sent_tuple window) in
        let few : length window ≤ 96 = omega (arith, length-take 96 (drop (m * 96) (rows_sent Split q rows))) in
        let same = length-map window sent_tuple in
        let payload : length (bytes_of routing_data p) ≤ 586 =
        subst (λ (z : RoutingData). length (bytes_of routing_data z) ≤ 586) is (omega (arith, len, few, same)) in
        let laid = ap length (bytes_laid (data_datagram me p)) in
        omega (arith, laid, payload)

pub port_back : (cables : List ℕ) (ports : List Choice) (maps : List Mappings) (n : ℕ) (p : Port) → At (frozen_ports V1 cables ports maps) n p
    → (c : Choice) × At ports n c
port_back [] ports maps n p e = cc
port_back (x ∷ cables) [] maps n p e = cc
port_back (x ∷ cables) (c ∷ ports) maps zero p e = (c, refl)
port_back (x ∷ cables) (c ∷ ports) maps (suc n) p e = port_back cables ports (drop 1 maps) n p e

module _ (old new : Worldly) (phase : ℕ) (rest : IsResting phase old) (others : AreOther old.plan new.now) (tick : IsTick old new)
    (none : (cable : ℕ) → loses_at old.plan new.now cable ≡ false) (speaking : (phase_after phase % 50 == 0) ≡ true) (before : IsNumbered old)
    (after : IsNumbered new) (empty : pending_on new.wires.cabling ≡ []) where
  stands : (k : ℕ) (a : Living) → At old.stations k (RouterMember a) → (r : PlannedRouter) × At old.plan.routers k r × IsStandingRouter old.plan.cables phase r a
  stands k a ea =
      let r = at_below old.plan.routers k (router_first old.plan phase old.stations old.wires.maps rest.standing k a ea) in
      (r.0, r.1, rest.standing.routers k r.0 (RouterMember a) r.1 ea)

  seated : (k : ℕ) (a : Living) → At old.stations k (RouterMember a) → (q : ℕ) (c : Choice) → At a.router.ports q c
      → (z : Seat) × Has (plan_seats old.plan) z × (z.station ≡ k) × (z.port ≡ q)
  seated k a ea q c ec =
      let h = stands k a ea in
      let p = at_map (λ (p : PlannedPort). range_of (cable_at old.plan.cables p.cable)) h.0.port q c.range
      (subst (λ l. At l q c.range) h.2.ranges (mapped (λ (c : Choice). c.range) a.router.ports q c ec)) in
      seat_of old.plan k h.0 q p.0 h.1 p.1

  speaks : (k : ℕ) (a : Living) → At old.stations k (RouterMember a) → (phase_after a.phase % 50 == 0) ≡ true
  speaks k a ea =
      let h = stands k a ea in
      ap (λ n. phase_after n % 50 == 0) h.2.phase ∙ speaking

  router_there : (s : ℕ) (their : Router) → At (frozen_as V1 old).routers s their → (a : Living) × At old.stations s (RouterMember a)
  router_there s their es =
      let low = at_within (frozen_as V1 old).routers s their es in
      let many = image_count old.plan phase old.stations old.wires.maps rest.standing in
      let enough = rest.standing.whole in
      let r = at_below old.plan.routers s (omega (arith, low, many)) in
      let m = at_below old.stations s (omega (arith, low, many, enough)) in
      by m.0 m.1 r.0 (rest.standing.routers s r.0 m.0 r.1 m.1)
    where
      by : (m : Member Living LivingNode) → At old.stations s m → (r : PlannedRouter) → IsStandingAsRouter old.plan.cables phase r m
          → (a : Living) × At old.stations s (RouterMember a)
      by (RouterMember a) e r h = (a, e)
      by (NodeMember n) e r h = absurd h

  choice_there : (k : ℕ) (a : Living) (ea : At old.stations k (RouterMember a)) (q : ℕ) (p : Port)
      → At (grounded old.plan phase old.stations old.wires.maps rest.standing rest.passes rest.settled rest.bounded k (RouterMember a) ea).x.ports q p
      → (c : Choice) × At a.router.ports q c
  choice_there k a ea q p ep =
      let g = grounded old.plan phase old.stations old.wires.maps rest.standing rest.passes rest.settled rest.bounded k (RouterMember a) ea in
      let h = stands k a ea in
      let x = image_router old.plan phase old.stations old.wires.maps rest.standing k h.0 a h.1 ea in
      let same : g.x ≡ frozen_router V1 (cables_by h.0) a.router x.0 = at_one (frozen_as V1 old).routers k g.x _ g.x_at x.1 in
      port_back (cables_by h.0) a.router.ports x.0 q p (subst (λ (z : Router). At z.ports q p) same ep)

  pub refreshed : AreFresh new.stations
  refreshed k b l eb c ec =
      let ground = grounded old.plan phase old.stations old.wires.maps rest.standing rest.passes rest.settled rest.bounded in
      let i = frozen_as V1 old in
      let seats = plan_seats old.plan in
      let lossless : Unit {0} → (cable : ℕ) → loses_at old.plan new.now cable ≡ false = λ u. none in
      let rows = good old new phase rest others tick (Unit {0}) lossless in
      let by_seats = laid old.plan phase old.stations old.wires.maps rest.standing in
      let p = tick.plays in
      let b0 = p.begins in
      let start : Wires = record old.wires { losing = tick.losing } in
      let wires : (start.cabling.seats ≡ seats) × IsFineOn (IsToldOf i) (Unit {0}) start.cabling × (Unit {0} → IsLossless (IsToldOf i) (Unit {0}) start) =
      (rest.seats, fine old new phase rest others tick (Unit {0}) lossless, λ (u : Unit {0}) (cable : ℕ). tick.loses cable ∙ none cable) in
      let first =
      all_passed i rest.passes rest.settled rest.bounded seats old.stations ground (Unit {0}) rows by_seats (length old.stations) b0.seats p.passed start b0.wires wires
      rest.spared b0.passes (omega arith) in
      let spoken =
      all_spoken i rest.passes rest.settled rest.bounded seats old.stations ground rows by_seats seated speaks
      (λ k a b ea q c e m p sent. short q c.range c.tentative m b.router.routes p sent) (length old.stations) b0.seats p.passed start b0.wires wires
      rest.spared before.below b0.passes in
      let many = first.0.count in
      let one =
      bright i rest.passes rest.settled rest.bounded seats old.stations ground seated router_there choice_there p.passed b0.wires first.0
      (λ k b eb q c e m pk lt sent.
      let low = at_within p.passed k (RouterMember b) eb in
      spoken.said k b (omega (arith, low, many)) eb q c e m pk lt sent) in
      let second =
      all_done i rest.passes rest.settled rest.bounded seats old.stations ground (Unit {0}) old.plan new.now others b0.actions p.passed old.schedule new.schedule
      (b0.wires, old.refused) (p.acted, new.refused) first.0.wires b0.does in
      let two : AreBright i rest.passes rest.settled rest.bounded seats old.stations ground p.passed p.acted =
      λ k a b ea eb n x ex. later b0.wires p.acted second.1.added second.1.grown second.1.seats (second.1.calm tt) (IsFreshAt n b.router.routes) k x (one k a b ea eb n x ex) in
      let three =
      all_kept i rest.passes rest.settled rest.bounded seats old.stations ground p.takings p.passed new.stations p.acted new.wires
      (record { wires = second.0; count = first.0.count; alike = first.0.alike }) first.1 p.takes after.once two in
      let was = stood old new phase rest others tick (Unit {0}) lossless k b eb in
      let g = ground k (RouterMember was.0) was.1 in
      let low = at_within b.router.routes l c ec in
      let same = (was.2.1 g.x g.x_at).count in
      let x = at_below g.x.rows l (omega (arith, low, same)) in
      all_fresh i rest.passes rest.settled rest.bounded seats old.stations ground new.stations new.wires empty three k was.0 b was.1 eb l x.0 x.1 c ec
    where
      later : (v w : Wires) (es : List Entry) → happened w ≡ happened v ++ es → w.cabling.seats ≡ v.cabling.seats → are_calm (happened v) es ≡ true
          → (P : Type 0) (k : ℕ) (x : Row) → P ⊎ IsPromise (frozen_as V1 old) v k x → P ⊎ IsPromise (frozen_as V1 old) w k x
      later v w es grown seats calm P k x (inl p) = inl p
      later v w es grown seats calm P k x (inr pr) =
          inr (record {
            p = pr.p;
            waits =
                subst (λ s. Has (pending s (transcript w.cabling)) pr.p) (sym seats)
                (subst (λ l. Has (pending v.cabling.seats l) pr.p) (sym grown) (calm_stays v.cabling.seats (happened v) es pr.p pr.waits calm));
            to = pr.to;
            telling = pr.telling;
          })
