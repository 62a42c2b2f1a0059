-- Stations that have settled are those of their image; and stations that are like them have an image in which no more than
-- rows and the routers of nodes moved.
use Rattle.std.proofs.Common.{◌≡◌, ◌⊎◌, inl, inr, ℕ, suc, ◌+◌, ◌-◌, ◌<◌, ◌≤◌, Bool, true, false, not, List, [], ◌∷◌, drop, length}
use Rattle.std.proofs.Common.{Option, Some, None, refl, sym, ap, ◌∙◌, subst, slice_get, arith, is_some}
use Rattle.std.proofs.lemmas.Bool.{cases_lt, not-false, or_parts}
use Rattle.std.proofs.lemmas.List.{length-map}
use Rattle.aarp.specs.Choosing.{Choice}
use Rattle.aarp.specs.Mapping.{Mappings}
use Rattle.at_base.specs.Range.{is_between}
use Rattle.at_base.specs.declared.error.Place.TheVariants as place
use Rattle.audit.proofs.RowOrder.{only_row}
use Rattle.audit.proofs.WalkLists.{At, at_below, at_map, at_one, at_within}
use Rattle.audit.specs.Places.{on}
use Rattle.audit.specs.Routing.{owner}
use Rattle.audit.specs.Rules.{Passes, bad_address, bad_port, bad_service, same_row}
use Rattle.cable_model.specs.declared.seat.Seat.{Seat}
use Rattle.freeze.specs.Freezing.{address_of, frozen_node, frozen_router, frozen_row}
use Rattle.freeze.specs.Frozen.{cables_by, frozen_in, frozen_of, seats_after}
use Rattle.internet_file.specs.Files.{Planned}
use Rattle.internet_file.specs.Stations.{cable_at}
use Rattle.internet_file.specs.declared.node.Node.{Node as PlannedNode}
use Rattle.internet_file.specs.declared.port.Port.{Port as PlannedPort}
use Rattle.internet_file.specs.declared.router.Router.{Router as PlannedRouter}
use Rattle.lasting.proofs.Alike.{AreGround, IsNodeAt, IsRouterAt}
use Rattle.lasting.proofs.Images.{AreNodes, AreRouters, IsNodeSeat, IsRouterSeat, dropped, first_next, first_seat, mapped, seat_at, node_at, plan_seat, port_at, port_of, router_at, routers_count}
use Rattle.lasting.proofs.Idling.{AreLaid}
use Rattle.lasting.proofs.Routers.{one_settled}
use Rattle.lasting.specs.Standing.{AreStanding, IsStandingAsNode, IsStandingAsRouter, IsStandingRouter}
use Rattle.live_node.specs.Living.{LivingNode}
use Rattle.live_router.specs.Living.{Living}
use Rattle.planned_stations.specs.Beginning.{range_of}
use Rattle.planned_stations.specs.Seating.{plan_seats}
use Rattle.rtmp.specs.Routes.{IsRouteMap}
use Rattle.settled.proofs.Next.{row_good, step}
use Rattle.settled.specs.Exchange.{AreMovedRows}
use Rattle.settled.specs.Moved.{IsMoved}
use Rattle.settled.specs.Settling.{IsSettled}
use Rattle.station.specs.declared.member.Member.{Member}
use Rattle.station.specs.declared.member.Member.TheVariants.{Router as RouterMember, Node as NodeMember}
use Rattle.table_image.specs.Bounds.{IsBounded}
use Rattle.table_image.specs.Internet.{Internet}
use Rattle.table_image.specs.declared.cable.Cable.{Cable}
use Rattle.table_image.specs.declared.port.Port.{Port}
use Rattle.table_image.specs.declared.router.Router.{Router}
use Rattle.table_image.specs.declared.row.Row.{Row}
use Rattle.table_image.specs.declared.version.Version.TheVariants.{V1}

exists : {X : Type 0} (o : Option X) (test : X → Bool) → on o test ≡ true → (x : X) × (o ≡ Some x)
exists None test e = cc
exists (Some x) test e = (x, refl)

module _ (plan : Planned) (phase : ℕ) (stations : List (Member Living LivingNode)) (maps : List Mappings)
    (standing : AreStanding plan phase stations) where
  abbrev pub image : Internet
  image = frozen_in V1 plan stations maps

  first_routers : AreRouters plan.routers stations
  first_routers k r m er em = by m (standing.routers k r m er em)
    where
      by : (m : Member Living LivingNode) → IsStandingAsRouter plan.cables phase r m → (l : Living) × (m ≡ RouterMember l)
      by (RouterMember l) h = (l, refl)
      by (NodeMember n) h = absurd h

  pub last_nodes : AreNodes (drop (length plan.routers) stations)
  last_nodes k m e =
      by m (standing.nodes (length plan.routers + k) m (omega arith) (sym (dropped (length plan.routers) stations k) ∙ e))
    where
      by : (m : Member Living LivingNode) → IsStandingAsNode m → (n : LivingNode) × (m ≡ NodeMember n)
      by (RouterMember l) h = absurd h
      by (NodeMember n) h = (n, refl)

  pub image_count : length image.routers ≡ length plan.routers
  image_count = routers_count plan.routers stations maps first_routers standing.whole

  -- the routers of the image
  pub image_router : (k : ℕ) (r : PlannedRouter) (l : Living) → At plan.routers k r → At stations k (RouterMember l)
      → (s : List Mappings) × At image.routers k (frozen_router V1 (cables_by r) l.router s)
  image_router k r l er em = router_at plan.routers stations maps k r l first_routers er em

  -- the nodes of the image
  pub image_node : (j : ℕ) (n : PlannedNode) (l : LivingNode) → At plan.nodes j n → At stations (length plan.routers + j) (NodeMember l)
      → At image.nodes j (frozen_node V1 (n.cable - 1) l.node None)
  image_node j n l en em =
      node_at plan.nodes (drop (length plan.routers) stations) (seats_after plan.routers maps) j n l last_nodes en
      (dropped (length plan.routers) stations j ∙ em)

  -- a router is one of the first stations
  pub router_first : (k : ℕ) (l : Living) → At stations k (RouterMember l) → k < length plan.routers
  router_first k l em =
      elim (cases_lt k (length plan.routers)) [
        | inl lt ↦ lt
        | inr le ↦ absurd (standing.nodes k (RouterMember l) le em)
      ]

  -- and a node one of the others
  pub node_later : (k : ℕ) (n : LivingNode) → At stations k (NodeMember n) → length plan.routers ≤ k
  node_later k n em =
      elim (cases_lt k (length plan.routers)) [
        | inr le ↦ le
        | inl lt ↦ let r = at_below plan.routers k lt in absurd (standing.routers k r.0 (NodeMember n) r.1 em)
      ]

  -- the seats are laid out router by router
  pub laid : AreLaid (plan_seats plan) stations
  laid = record {
    first = first_seat plan.routers;
    begins = by plan.routers;
    next = λ k l e.
        let r = at_below plan.routers k (router_first k l e) in
        let same = as_many k r.0 l r.1 e in
        let next = first_next plan.routers k r.0 r.1 in
        omega (arith, same, next);
    own = λ k l q e lt.
        let r = at_below plan.routers k (router_first k l e) in
        let same = as_many k r.0 l r.1 e in
        let p = at_below r.0.port q (omega (arith, same, lt)) in
        let z = seat_at plan k r.0 q p.0 r.1 p.1 in
        (z.0, z.1, z.2);
  }
    where
      by : (rs : List PlannedRouter) → first_seat rs 0 ≡ 0
      by [] = refl
      by (r ∷ rs) = refl

      as_many : (k : ℕ) (r : PlannedRouter) (l : Living) → At plan.routers k r → At stations k (RouterMember l)
          → length l.router.ports ≡ length r.port
      as_many k r l er em =
          let h : IsStandingRouter plan.cables phase r l = standing.routers k r (RouterMember l) er em in
          let same = ap length h.ranges in
          let mine = length-map l.router.ports (λ (c : Choice). c.range) in
          let its = length-map r.port (λ (p : PlannedPort). range_of (cable_at plan.cables p.cable)) in
          omega (arith, same, mine, its)

  module _ (ok : Passes image) (settled : IsSettled image) (bounded : IsBounded image) where
    -- a row may become itself
    unmoved : (r k : ℕ) (router : Router) (a : Row) → At image.routers r router → At router.rows k a → IsMoved image r router a a
    unmoved r k router a er ek =
        record {
          start = refl;
          end = refl;
          distance = refl;
          usable = (row_good image ok r k router a er ek).0;
          direct = refl;
          stays = λ e. refl;
          leads = λ d.
              let w = step image ok r k router a er ek d in
              record {
                port = w.port;
                port_at = w.port_at;
                next = w.next;
                owned = w.owned;
                other = w.other;
                nearer = w.offered;
                found =
                    ap (λ o. same_row o a) w.their_at
                    ∙ sym (only_row w.their.rows a w.place w.offered (bounded.each w.next w.their w.their_at).rising w.offered_at w.same);
                one_less = w.nearer;
              };
        }

    router_rows : (k : ℕ) (r : PlannedRouter) (l : Living) → (er : At plan.routers k r) (em : At stations k (RouterMember l)) → IsRouteMap l.router.routes
        → AreMovedRows image k (frozen_router V1 (cables_by r) l.router (image_router k r l er em).0) l.router.routes
    router_rows k r l er em table =
        let x = image_router k r l er em in
        record {
          table = table;
          count = length-map l.router.routes frozen_row;
          each = λ n a c ea ec.
              let h = at_map frozen_row l.router.routes n a ea in
              let is : h.0 ≡ c = at_one l.router.routes n h.0 c h.1 ec in
              subst (IsMoved image k (frozen_router V1 (cables_by r) l.router x.0) a) (h.2 ∙ ap frozen_row is)
              (unmoved k n (frozen_router V1 (cables_by r) l.router x.0) a x.1 ea);
        }

    -- a port of a planned router, and its cable
    pub port_cable : (k : ℕ) (r : PlannedRouter) (l : Living) → At plan.routers k r → At stations k (RouterMember l) → IsStandingRouter plan.cables phase r l
        → (n : ℕ) (c : Choice) → At l.router.ports n c
        → (p : PlannedPort) × At r.port n p × (cable : Cable) × At image.cables (p.cable - 1) cable
        × (c.range ≡ record { start = cable.start; end = cable.end })
    port_cable k r l er em h n c ec =
        let x = image_router k r l er em in
        let range = at_map (λ (p : PlannedPort). range_of (cable_at plan.cables p.cable)) r.port n c.range
        (subst (λ l. At l n c.range) h.ranges (mapped (λ (c : Choice). c.range) l.router.ports n c ec)) in
        let p = range.0 in
        let port = port_at (cables_by r) l.router.ports x.0 n (p.cable - 1) c (mapped (λ (p : PlannedPort). p.cable - 1) r.port n p range.1) ec in
        let bad : bad_port image k n (frozen_router V1 (cables_by r) l.router x.0) (port_of (p.cable - 1) c) ≡ false =
        sym (ap (λ o. on o (λ router. on (slice_get router.ports n) (bad_port image k n router))) x.1
        ∙ ap (λ o. on o (bad_port image k n (frozen_router V1 (cables_by r) l.router x.0))) port)
        ∙ ok 2 (place.Port (suc k) (suc n)) in
        let address : bad_address image (p.cable - 1) (address_of c) c.hw ≡ false = (or_parts _ _ (or_parts _ _ bad).0).0 in
        let here : on (slice_get image.cables (p.cable - 1)) (λ c2. is_between c2.start c2.end (address_of c).net) ≡ true =
        not-false _ (or_parts _ _ (or_parts _ _ (or_parts _ _ address).0).0).0 in
        let cable = exists (slice_get image.cables (p.cable - 1)) _ here in
        let z = at_map frozen_of plan.cables (p.cable - 1) cable.0 cable.1 in (
          p,
          range.1,
          cable.0,
          cable.1,
          range.2 ∙ (ap range_of z.1 ∙ ap (λ (y : Cable). record { start = y.start; end = y.end }) (sym z.2)),
        )

    router_ground : (k : ℕ) (r : PlannedRouter) (l : Living) → At plan.routers k r → At stations k (RouterMember l)
        → IsStandingRouter plan.cables phase r l → IsRouterAt image (plan_seats plan) k l
    router_ground k r l er em h =
        let x = image_router k r l er em in
        record {
          x = frozen_router V1 (cables_by r) l.router x.0;
          x_at = x.1;
          settled = h.settled;
          lists = refl;
          rows = router_rows k r l er em h.table;
          port = λ n c ec.
              let w = port_cable k r l er em h n c ec in (
                port_of (w.0.cable - 1) c,
                port_at (cables_by r) l.router.ports x.0 n (w.0.cable - 1) c (mapped (λ (p : PlannedPort). p.cable - 1) r.port n w.0 w.1) ec,
                w.2,
                w.3,
                w.4,
                rw (one_settled l.router.ports n c h.settled ec) refl,
              );
          seat = λ s has is. by s is (plan_seat plan s has);
        }
      where
        by : (s : Seat) → s.station ≡ k → IsRouterSeat 0 plan.routers s ⊎ IsNodeSeat (length plan.routers) plan.nodes s
            → (c : Choice) × (p : Port) × At l.router.ports s.port c
            × At (frozen_router V1 (cables_by r) l.router (image_router k r l er em).0).ports s.port p × (p.cable ≡ s.cable)
        by s is (inr w) =
            let low = at_within plan.routers k r er in
            let there = w.station in
            absurd (omega (arith, low, there, is))
        by s is (inl w) =
            let there = w.station in
            let same : w.k ≡ k = omega (arith, there, is) in
            let router : w.r ≡ r = at_one plan.routers k w.r r (subst (λ n. At plan.routers n w.r) same w.r_at) er in
            let planned : At r.port s.port w.p = subst (λ (z : PlannedRouter). At z.port s.port w.p) router w.p_at in
            let choice = at_map (λ (c : Choice). c.range) l.router.ports s.port (range_of (cable_at plan.cables w.p.cable))
            (subst (λ l. At l s.port (range_of (cable_at plan.cables w.p.cable))) (sym h.ranges)
            (mapped (λ (p : PlannedPort). range_of (cable_at plan.cables p.cable)) r.port s.port w.p planned)) in (
              choice.0,
              port_of (w.p.cable - 1) choice.0,
              choice.1,
              port_at (cables_by r) l.router.ports _ s.port (w.p.cable - 1) choice.0 (mapped (λ (p : PlannedPort). p.cable - 1) r.port s.port w.p planned)
                  choice.1,
              sym w.cable,
            )

    node_ground : (k : ℕ) (l : LivingNode) → At stations k (NodeMember l) → IsNodeAt image (plan_seats plan) k l
    node_ground k l em =
        let le = node_later k l em in
        let low = at_within stations k (NodeMember l) em in
        let many = standing.as_many in
        let count = image_count in
        let j = k - length plan.routers in
        let whole : k ≡ length plan.routers + j = omega (arith, le) in
        let n = at_below plan.nodes j (omega (arith, low, many, le)) in
        let y = image_node j n.0 l n.1 (subst (λ z. At stations z (NodeMember l)) whole em) in
        record {
          quiet = standing.nodes k (NodeMember l) le em;
          j = j;
          number = omega (arith, count, le);
          y = frozen_node V1 (n.0.cable - 1) l.node None;
          y_at = y;
          served = λ a e.
              let good : bad_service image (frozen_node V1 (n.0.cable - 1) l.node None) ≡ false =
              sym (ap (λ o. on o (bad_service image)) y) ∙ ok 9 (place.Node (suc j)) in
              let router : on l.node.router (λ a. not (is_some (owner image (n.0.cable - 1) a))) ≡ false = (or_parts _ _ good).0 in
              not-false _ (sym (ap (λ o. on o (λ a. not (is_some (owner image (n.0.cable - 1) a)))) e) ∙ router);
          seat = λ s has is. by s is j whole n.0 n.1 (plan_seat plan s has);
        }
      where
        by : (s : Seat) → s.station ≡ k → (j : ℕ) → k ≡ length plan.routers + j → (n : PlannedNode) → At plan.nodes j n
            → IsRouterSeat 0 plan.routers s ⊎ IsNodeSeat (length plan.routers) plan.nodes s → n.cable - 1 ≡ s.cable
        by s is j whole n en (inl w) =
            let low = at_within plan.routers w.k w.r w.r_at in
            let there = w.station in
            absurd (omega (arith, low, there, is, whole))
        by s is j whole n en (inr w) =
            let there = w.station in
            let same : w.k ≡ j = omega (arith, there, is, whole) in
            let node : w.n ≡ n = at_one plan.nodes j w.n n (subst (λ z. At plan.nodes z w.n) same w.n_at) en in
            ap (λ (z : PlannedNode). z.cable - 1) (sym node) ∙ sym w.cable

    -- the stations are those of their image
    pub grounded : AreGround image (plan_seats plan) stations
    grounded k (RouterMember l) em =
        let lt = router_first k l em in
        let r = at_below plan.routers k lt in
        router_ground k r.0 l r.1 em (standing.routers k r.0 (RouterMember l) r.1 em)
    grounded k (NodeMember l) em = node_ground k l em
