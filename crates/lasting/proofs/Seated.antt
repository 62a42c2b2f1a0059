-- The seats of stations that have settled, and what each of them tells: the address and the hardware address of the port there.
use Rattle.std.proofs.Common.{◌≡◌, inl, inr, ℕ, zero, suc, ◌+◌, ◌-◌, ◌<◌, ◌==◌, ◌&&◌, true, List, [], ◌∷◌, Option, Some, None, refl, sym, ap, ◌∙◌}
use Rattle.std.proofs.Common.{subst, slice_get, length, eqb-true, eq-eqb, arith}
use Rattle.std.specs.List.{list_any}
use Rattle.std.proofs.lemmas.Bool.{and_from, and_parts}
use Rattle.std.proofs.lemmas.List.{length-map}
use Rattle.aarp.specs.Choosing.{Choice}
use Rattle.aarp.specs.Mapping.{Mappings}
use Rattle.at_base.proofs.Texts.{same_bytes_self}
use Rattle.at_base.specs.Address.{same_address}
use Rattle.at_base.specs.Multicast.{group_of}
use Rattle.at_base.specs.declared.address.Addr.{Addr}
use Rattle.at_base.specs.declared.address.Hw.{Hw}
use Rattle.audit.proofs.Mapped.{by_node, by_port}
use Rattle.audit.proofs.WalkLists.{At, at_append, at_below, at_one, at_within, find_at, find_found}
use Rattle.audit.specs.Mapped.{is_node, is_port}
use Rattle.audit.specs.Places.{on}
use Rattle.audit.specs.Rules.{Passes, is_mapped, same_hardware}
use Rattle.cable_model.specs.Outcomes.{cable_of}
use Rattle.cable_model.specs.declared.seat.Seat.{Seat}
use Rattle.freeze.specs.Freezing.{address_of, frozen_node, frozen_router}
use Rattle.freeze.specs.Frozen.{cables_by, frozen_in}
use Rattle.internet_file.specs.Files.{Planned}
use Rattle.internet_file.specs.Stations.{cable_at}
use Rattle.internet_file.specs.declared.node.Node.{Node as PlannedNode}
use Rattle.internet_file.specs.declared.port.Port.{Port as PlannedPort}
use Rattle.internet_file.specs.declared.router.Router.{Router as PlannedRouter}
use Rattle.lasting.proofs.Evenly.{live_router}
use Rattle.lasting.proofs.Ground.{image_node, image_router, node_later, router_first}
use Rattle.lasting.proofs.Images.{AreRouters, IsNodeSeat, IsRouterSeat, mapped, plan_seat, port_at, port_of, router_seat}
use Rattle.lasting.proofs.Replying.{choices_in}
use Rattle.lasting.proofs.Routers.{one_settled}
use Rattle.lasting.proofs.Sitting.{seat_cabled}
use Rattle.lasting.proofs.Stored.{same_self}
use Rattle.lasting.specs.Standing.{AreStanding, IsQuietNode, IsStandingAsNode, IsStandingAsRouter, IsStandingRouter}
use Rattle.live_cables.proofs.Pending.{Has, has_any}
use Rattle.live_node.specs.Living.{LivingNode}
use Rattle.live_router.proofs.Settled.{AreSettled}
use Rattle.live_router.specs.Living.{Living}
use Rattle.planned_stations.specs.Beginning.{range_of}
use Rattle.planned_stations.specs.Seating.{node_seats, plan_seats, router_seats}
use Rattle.settled.specs.Settling.{IsSettled}
use Rattle.station.specs.declared.member.Member.{Member}
use Rattle.station.specs.declared.member.Member.TheVariants.{Router as RouterMember, Node as NodeMember}
use Rattle.table_image.specs.Bounds.{IsBounded}
use Rattle.table_image.specs.Internet.{Internet}
use Rattle.table_image.specs.Seats.{Seat as ImageSeat, seats}
use Rattle.table_image.specs.declared.mapping.Mapping.{Mapping}
use Rattle.table_image.specs.declared.version.Version.TheVariants.{V1}

-- a mapping
abbrev pub mapping : Addr → Hw → Mapping
mapping a hw = record { address = a; hardware = hw }

-- one of these seats is on the cable, and has both addresses
abbrev pub IsTold : List ImageSeat → ℕ → Addr → Hw → Type 0
IsTold ss cable a hw = list_any (is_mapped cable (mapping a hw)) ss ≡ true

-- the ports of a station, if there is one
abbrev pub choices_at : Option (Member Living LivingNode) → List Choice
choices_at None = []
choices_at (Some m) = choices_in m

-- the only one of one
only_one : (c d : Choice) (q : ℕ) → At (c ∷ []) q d → c ≡ d
only_one c d zero e = cc
only_one c d (suc q) e = absurd (let f = e in cc)

-- a node's seat is that of port 0
node_port : (first : ℕ) (ns : List PlannedNode) (j : ℕ) (s : Seat) → At (node_seats first ns) j s → s.port ≡ 0
node_port first [] j s e = cc
node_port first (n ∷ ns) zero s e =
    let is : record {
      cable = n.cable - 1;
      station = first;
      port = 0;
      hw = n.hardware;
      group = Some (group_of n.zone);
    } ≡ s = cc in
    sym (ap (λ (z : Seat). z.port) is)
node_port first (n ∷ ns) (suc j) s e = node_port (first + 1) ns j s e

-- a settled choice has its address in the image
has_address : (c : Choice) → c.is_settled ≡ true → address_of c ≡ c.tentative
has_address c e = rw e refl

-- a hardware address is like itself
same_hw : (hw : Hw) → same_hardware hw hw ≡ true
same_hw hw = same_bytes_self hw.0

module _ (plan : Planned) (phase : ℕ) (stations : List (Member Living LivingNode)) (maps : List Mappings) (standing : AreStanding plan phase stations)
    (ok : Passes (frozen_in V1 plan stations maps)) (settled : IsSettled (frozen_in V1 plan stations maps))
    (bounded : IsBounded (frozen_in V1 plan stations maps)) where
  -- the ports of a station
  abbrev pub base : ℕ → List Choice
  base k = choices_at (slice_get stations k)

  -- the image of version 1
  abbrev pub old_image : Internet
  old_image = frozen_in V1 plan stations maps

  -- the node of a planned one
  live_node : (j : ℕ) (n : PlannedNode) → At plan.nodes j n
      → (l : LivingNode) × At stations (length plan.routers + j) (NodeMember l) × IsQuietNode l
  live_node j n en =
      let low = at_within plan.nodes j n en in
      let many = standing.as_many in
      let m = at_below stations (length plan.routers + j) (omega (arith, low, many)) in
      by m.0 m.1 (standing.nodes (length plan.routers + j) m.0 (omega arith) m.1)
    where
      by : (m : Member Living LivingNode) → At stations (length plan.routers + j) m → IsStandingAsNode m
          → (l : LivingNode) × At stations (length plan.routers + j) (NodeMember l) × IsQuietNode l
      by (RouterMember l) e h = absurd h
      by (NodeMember l) e h = (l, e, h)

  -- a router has as many ports as planned
  pub as_many : (k : ℕ) (r : PlannedRouter) (l : Living) → At plan.routers k r → At stations k (RouterMember l) → length l.router.ports ≡ length r.port
  as_many k r l er em =
      let h : IsStandingRouter plan.cables phase r l = standing.routers k r (RouterMember l) er em in
      let same = ap length h.ranges in
      let mine = length-map l.router.ports (λ (c : Choice). c.range) in
      let its = length-map r.port (λ (p : PlannedPort). range_of (cable_at plan.cables p.cable)) in
      omega (arith, same, mine, its)

  -- the first stations are routers
  pub first_routers : AreRouters plan.routers stations
  first_routers k r m er em = by m (standing.routers k r m er em)
    where
      by : (m : Member Living LivingNode) → IsStandingAsRouter plan.cables phase r m → (l : Living) × (m ≡ RouterMember l)
      by (RouterMember l) h = (l, refl)
      by (NodeMember n) h = absurd h

  -- all ports have settled
  pub all_settled : (k : ℕ) → AreSettled (base k)
  all_settled k = by (slice_get stations k) refl
    where
      by : (o : Option (Member Living LivingNode)) → slice_get stations k ≡ o → AreSettled (choices_at o)
      by None e = refl
      by (Some (RouterMember l)) e =
          let r = at_below plan.routers k (router_first plan phase stations maps standing k l e) in
          let h : IsStandingRouter plan.cables phase r.0 l = standing.routers k r.0 (RouterMember l) r.1 e in
          h.settled
      by (Some (NodeMember n)) e =
          let h : IsQuietNode n = standing.nodes k (NodeMember n) (node_later plan phase stations maps standing k n e) e in
          and_from n.node.port.is_settled true h.settled refl

  -- ---- The seat of a router

  -- the router of a seat
  router_of : (s : Seat) → (w : IsRouterSeat 0 plan.routers s)
      → (l : Living) × At stations w.k (RouterMember l) × (base s.station ≡ l.router.ports) × (s.station ≡ w.k)
  router_of s w =
      let l = live_router plan phase stations maps standing ok settled bounded w.k w.r w.r_at in
      let station = w.station in
      let here : s.station ≡ w.k = omega (arith, station) in
      (l.0, l.1, ap base here ∙ ap choices_at l.1, here)

  -- it tells what is so of the port
  router_tells : (s : Seat) → IsRouterSeat 0 plan.routers s → (c : Choice) → At (base s.station) s.port c → IsTold (seats old_image) s.cable c.tentative c.hw
  router_tells s w c e =
      let l = router_of s w in
      let ec : At l.0.router.ports s.port c = subst (λ ps. At ps s.port c) l.2 e in
      let r_at = w.r_at in
      let p_at = w.p_at in
      let x = image_router plan phase stations maps standing w.k w.r l.0 r_at l.1 in
      let port : At (frozen_router V1 (cables_by w.r) l.0.router x.0).ports s.port (port_of (w.p.cable - 1) c) =
      port_at (cables_by w.r) l.0.router.ports x.0 s.port (w.p.cable - 1) c (mapped (λ (p : PlannedPort). p.cable - 1) w.r.port s.port w.p p_at) ec in
      let on_it : c.is_settled ≡ true = one_settled (base s.station) s.port c (all_settled s.station) e in
      let good : is_port s.cable (mapping c.tentative c.hw) (port_of (w.p.cable - 1) c) ≡ true =
      and_from _ _ (and_from _ _ (eq-eqb (w.p.cable - 1) s.cable (sym w.cable))
      (subst (λ a. same_address c.tentative a ≡ true) (sym (has_address c on_it)) (same_self c.tentative))) (same_hw c.hw) in
      by_port s.cable (mapping c.tentative c.hw) old_image w.k s.port (frozen_router V1 (cables_by w.r) l.0.router x.0) x.1
      (ap (λ o. on o (is_port s.cable (mapping c.tentative c.hw))) port ∙ good)

  -- ---- The seat of a node

  -- the node of a seat
  node_of : (s : Seat) → (w : IsNodeSeat (length plan.routers) plan.nodes s)
      → (l : LivingNode) × At stations (length plan.routers + w.k) (NodeMember l) × (base s.station ≡ l.node.port ∷ []) × IsQuietNode l
  node_of s w =
      let l = live_node w.k w.n w.n_at in
      (l.0, l.1, ap base w.station ∙ ap choices_at l.1, l.2)

  -- it tells what is so of the node
  node_tells : (s : Seat) → IsNodeSeat (length plan.routers) plan.nodes s → (c : Choice) → At (base s.station) s.port c
      → IsTold (seats old_image) s.cable c.tentative c.hw
  node_tells s w c e =
      let l = node_of s w in
      let is : l.0.node.port ≡ c = only_one l.0.node.port c s.port (subst (λ ps. At ps s.port c) l.2 e) in
      let quiet : IsQuietNode l.0 = l.3 in
      let n_at = w.n_at in
      let at = image_node plan phase stations maps standing w.k w.n l.0 n_at l.1 in
      let port : Choice = l.0.node.port in
      let good : is_node s.cable (mapping port.tentative port.hw) (frozen_node V1 (w.n.cable - 1) l.0.node None) ≡ true =
      and_from _ _ (and_from _ _ (eq-eqb (w.n.cable - 1) s.cable (sym w.cable))
      (subst (λ a. same_address port.tentative a ≡ true) (sym (has_address port quiet.settled)) (same_self port.tentative)))
      (same_hw port.hw) in
      subst (λ (d : Choice). IsTold (seats old_image) s.cable d.tentative d.hw) is
      (by_node s.cable (mapping port.tentative port.hw) old_image w.k (frozen_node V1 (w.n.cable - 1) l.0.node None) at good)

  -- ---- All seats

  -- a seat tells what is so of its port
  pub speaks : (s : Seat) → Has (plan_seats plan) s → (c : Choice) → At (base s.station) s.port c → IsTold (seats old_image) s.cable c.tentative c.hw
  speaks s has c e =
      elim (plan_seat plan s has) [
        | inl w ↦ router_tells s w c e
        | inr w ↦ node_tells s w c e
      ]

  -- its cable is found by its port
  pub found : (s : Seat) → Has (plan_seats plan) s → cable_of (plan_seats plan) s.station s.port ≡ s.cable
  found s has =
      elim (plan_seat plan s has) [
        | inl w ↦
            let station = w.station in
            let low = at_within plan.routers w.k w.r w.r_at in
            seat_cabled plan s has (omega (arith, station, low))
        | inr w ↦ node_found w
      ]
    where
      node_found : IsNodeSeat (length plan.routers) plan.nodes s → cable_of (plan_seats plan) s.station s.port ≡ s.cable
      node_found w =
          let passes = has_any (λ (z : Seat). z.station == s.station && z.port == s.port) (plan_seats plan) s has
          (and_from _ _ (eq-eqb s.station s.station refl) (eq-eqb s.port s.port refl)) in
          let f = find_found (λ (z : Seat). z.station == s.station && z.port == s.port) (plan_seats plan) passes in
          let at = find_at (λ (z : Seat). z.station == s.station && z.port == s.port) (plan_seats plan) f.0 f.1 in
          let parts = and_parts (f.0.station == s.station) (f.0.port == s.port) at.2 in
          let station : f.0.station ≡ s.station = eqb-true _ _ parts.0 in
          let here : cable_of (plan_seats plan) s.station s.port ≡ f.0.cable = rw f.1 refl in
          let mine = w.station in
          here
          ∙ elim (plan_seat plan f.0 (at.0, at.1)) [
            | inl v ↦
                let its = v.station in
                let low = at_within plan.routers v.k v.r v.r_at in
                absurd (omega (arith, its, low, station, mine))
            | inr v ↦
                let its = v.station in
                let same : v.k ≡ w.k = omega (arith, its, station, mine) in
                let node : v.n ≡ w.n = at_one plan.nodes w.k v.n w.n (subst (λ k. At plan.nodes k v.n) same v.n_at) w.n_at in
                v.cable ∙ (ap (λ (n : PlannedNode). n.cable - 1) node ∙ sym w.cable)
          ]

  -- and there is such a port
  pub lies : (s : Seat) → Has (plan_seats plan) s → s.port < length (base s.station)
  lies s has =
      elim (plan_seat plan s has) [
        | inl w ↦
            let l = router_of s w in
            let low = at_within w.r.port s.port w.p w.p_at in
            let many = as_many w.k w.r l.0 w.r_at l.1 in
            let same = ap length l.2 in
            omega (arith, low, many, same)
        | inr w ↦
            let l = node_of s w in
            let same = ap length l.2 in
            elim (at_append (router_seats 0 plan.routers) (node_seats (length plan.routers) plan.nodes) has.0 s has.1) [
              | inl e ↦
                  let v = router_seat 0 plan.routers has.0 s e in
                  let its = v.station in
                  let low = at_within plan.routers v.k v.r v.r_at in
                  let mine = w.station in
                  absurd (omega (arith, its, low, mine))
              | inr e ↦ let zero_port = node_port (length plan.routers) plan.nodes e.0 s e.2 in omega (arith, zero_port, same)
            ]
      ]
