-- The mappings in an image of version 2 are those that the seats know, seat by seat.
use Rattle.std.proofs.Common.{◌≡◌, ℕ, zero, suc, ◌+◌, ◌-◌, ◌≤◌, false, List, [], ◌∷◌, ◌++◌, Option, Some, None}
use Rattle.std.proofs.Common.{refl, sym, ap, ◌∙◌, subst, slice_get, length, map, arith}
use Rattle.std.specs.Prelude.{drop}
use Rattle.std.proofs.lemmas.List.{length-append}
use Rattle.std.specs.List.{flat_map, list_any, AllByRecursion as Each}
use Rattle.aarp.specs.Choosing.{Choice}
use Rattle.aarp.specs.Mapping.{Mappings}
use Rattle.at_base.specs.declared.error.Place.{Place}
use Rattle.at_base.specs.declared.error.Place.TheVariants as place
use Rattle.audit.proofs.WalkLists.{At}
use Rattle.audit.specs.Places.{on}
use Rattle.audit.specs.Rules.{c10, is_false}
use Rattle.cable_model.proofs.Counting.{each-append}
use Rattle.cable_model.specs.declared.seat.Seat.{Seat}
use Rattle.freeze.specs.Freezing.{frozen_mappings, frozen_ports}
use Rattle.freeze.specs.Frozen.{frozen_in, frozen_nodes, frozen_routers, seats_after}
use Rattle.internet_file.specs.Files.{Planned}
use Rattle.internet_file.specs.declared.node.Node.{Node as PlannedNode}
use Rattle.internet_file.specs.declared.port.Port.{Port as PlannedPort}
use Rattle.internet_file.specs.declared.router.Router.{Router as PlannedRouter}
use Rattle.lasting.proofs.Images.{AreNodes, AreRouters}
use Rattle.live_node.specs.Living.{LivingNode}
use Rattle.live_router.specs.Living.{Living}
use Rattle.planned_stations.specs.Seating.{node_seats, plan_seats, port_seats, router_seats}
use Rattle.station.specs.declared.member.Member.{Member}
use Rattle.station.specs.declared.member.Member.TheVariants.{Router as RouterMember, Node as NodeMember}
use Rattle.table_image.specs.Internet.{Internet}
use Rattle.table_image.specs.declared.mapping.Mapping.{Mapping}
use Rattle.table_image.specs.declared.node.Node.{Node}
use Rattle.table_image.specs.declared.port.Port.{Port}
use Rattle.table_image.specs.declared.router.Router.{Router}
use Rattle.table_image.specs.declared.version.Version.TheVariants.{V2}

-- the cable and the mappings of a port and of a node
abbrev pub of_port : Port → ℕ × List Mapping
of_port p = (p.cable, p.mappings)

-- those of a node
abbrev pub of_node : Node → ℕ × List Mapping
of_node n = (n.cable, n.mappings)

-- those of the ports of a router
abbrev pub of_router : Router → List (ℕ × List Mapping)
of_router r = map of_port r.ports

-- those of all ports and nodes
abbrev pub holders : Internet → List (ℕ × List Mapping)
holders i = flat_map of_router i.routers ++ map of_node i.nodes

-- ---- One by one

-- what holds of two lists holds of the first
each_first : {X : Type 0} (P : X → Type 0) (xs ys : List X) → Each P (xs ++ ys) → Each P xs
each_first P [] ys h = tt
each_first P (x ∷ xs) ys h = (h.0, each_first P xs ys h.1)

-- and of the second
each_last : {X : Type 0} (P : X → Type 0) (xs ys : List X) → Each P (xs ++ ys) → Each P ys
each_last P [] ys h = h
each_last P (x ∷ xs) ys h = each_last P xs ys h.1

-- what holds of each element by its place holds of all
each_mapped : {X Y : Type 0} (P : Y → Type 0) (f : X → Y) (xs : List X) → ((k : ℕ) (x : X) → At xs k x → P (f x)) → Each P (map f xs)
each_mapped P f [] h = tt
each_mapped P f (x ∷ xs) h = (h zero x refl, each_mapped P f xs (λ k y e. h (suc k) y e))

-- and the other way round
from_mapped : {X Y : Type 0} (P : Y → Type 0) (f : X → Y) (xs : List X) → Each P (map f xs) → (k : ℕ) (x : X) → At xs k x → P (f x)
from_mapped P f [] h k x e = absurd (let g = e in cc)
from_mapped P f (y ∷ xs) h zero x e = let is : y ≡ x = cc in subst (λ z. P (f z)) is h.0
from_mapped P f (y ∷ xs) h (suc k) x e = from_mapped P f xs h.1 k x e

module _ (P : ℕ × List Mapping → Type 0) where
  -- what holds of each port of routers
  in_routers : (rs : List Router)
      → ((r p : ℕ) (router : Router) (port : Port) → At rs r router → At router.ports p port → P (of_port port)) → Each P (flat_map of_router rs)
  in_routers [] h = tt
  in_routers (x ∷ rs) h =
      each-append P (of_router x) (flat_map of_router rs) (each_mapped P of_port x.ports (λ p port e. h zero p x port refl e))
      (in_routers rs (λ r p router port er ep. h (suc r) p router port er ep))

  -- what holds of each port and node
  pub all_hold : (i : Internet)
      → ((r p : ℕ) (router : Router) (port : Port) → At i.routers r router → At router.ports p port → P (of_port port))
      → ((k : ℕ) (node : Node) → At i.nodes k node → P (of_node node)) → Each P (holders i)
  all_hold i ports nodes =
      each-append P (flat_map of_router i.routers) (map of_node i.nodes) (in_routers i.routers ports) (each_mapped P of_node i.nodes nodes)

  -- a port of one of the routers
  from_routers : (rs : List Router) → Each P (flat_map of_router rs) → (r p : ℕ) (router : Router) (port : Port) → At rs r router
      → At router.ports p port → P (of_port port)
  from_routers [] h r p router port er ep = absurd (let g = er in cc)
  from_routers (x ∷ rs) h zero p router port er ep =
      let is : x ≡ router = cc in
      from_mapped P of_port x.ports (each_first P (of_router x) (flat_map of_router rs) h) p port (subst (λ (z : Router). At z.ports p port) (sym is) ep)
  from_routers (x ∷ rs) h (suc r) p router port er ep =
      from_routers rs (each_last P (of_router x) (flat_map of_router rs) h) r p router port er ep

  -- a port
  pub port_holds : (i : Internet) → Each P (holders i) → (r p : ℕ) (router : Router) (port : Port) → At i.routers r router
      → At router.ports p port → P (of_port port)
  port_holds i h = from_routers i.routers (each_first P (flat_map of_router i.routers) (map of_node i.nodes) h)

  -- a node
  pub node_holds : (i : Internet) → Each P (holders i) → (k : ℕ) (node : Node) → At i.nodes k node → P (of_node node)
  node_holds i h = from_mapped P of_node i.nodes (each_last P (flat_map of_router i.routers) (map of_node i.nodes) h)

-- ---- C10

-- no mapping is false
abbrev pub AreTold : Internet → ℕ × List Mapping → Type 0
AreTold i h = list_any (is_false i h.0) h.1 ≡ false

-- the rule is kept if this holds of each port and node
pub c10_all : (i : Internet) → Each (AreTold i) (holders i) → (p : Place) → c10 i p ≡ false
c10_all i h (place.Port zero p) = refl
c10_all i h (place.Port (suc r) zero) = refl
c10_all i h (place.Port (suc r) (suc p)) = by (slice_get i.routers r) refl
  where
    at_port : (router : Router) → At i.routers r router → (o : Option Port) → slice_get router.ports p ≡ o
        → on o (λ port. list_any (is_false i port.cable) port.mappings) ≡ false
    at_port router er None e = refl
    at_port router er (Some port) e = port_holds (AreTold i) i h r p router port er e

    by : (o : Option Router) → slice_get i.routers r ≡ o
        → on o (λ router. on (slice_get router.ports p) (λ port. list_any (is_false i port.cable) port.mappings)) ≡ false
    by None e = refl
    by (Some router) e = at_port router e (slice_get router.ports p) refl
c10_all i h (place.Node zero) = refl
c10_all i h (place.Node (suc k)) = by (slice_get i.nodes k) refl
  where
    by : (o : Option Node) → slice_get i.nodes k ≡ o → on o (λ node. list_any (is_false i node.cable) node.mappings) ≡ false
    by None e = refl
    by (Some node) e = node_holds (AreTold i) i h k node e
c10_all i h (place.Cable k) = refl
c10_all i h (place.Row r k) = refl
c10_all i h (place.Missing r k) = refl
c10_all i h (place.List r k) = refl

-- and it holds of each where the rule is kept
pub c10_each : (i : Internet) → ((p : Place) → c10 i p ≡ false) → Each (AreTold i) (holders i)
c10_each i h =
    all_hold (AreTold i) i
    (λ r p router port er ep.
    sym (ap (λ o. on o (λ router. on (slice_get router.ports p) (λ port. list_any (is_false i port.cable) port.mappings))) er
    ∙ ap (λ o. on o (λ port. list_any (is_false i port.cable) port.mappings)) ep) ∙ h (place.Port (suc r) (suc p)))
    (λ k node e. sym (ap (λ o. on o (λ node. list_any (is_false i node.cable) node.mappings)) e) ∙ h (place.Node (suc k)))

-- ---- Seat by seat

-- the cables of the seats, each with its mappings
abbrev pub seated : List Seat → List Mappings → List (ℕ × List Mapping)
seated [] maps = []
seated (s ∷ ss) maps = (s.cable, frozen_mappings V2 (slice_get maps 0)) ∷ seated ss (drop 1 maps)

-- what comes after the first
later_one : (maps : List Mappings) (j : ℕ) → slice_get (drop 1 maps) j ≡ slice_get maps (suc j)
later_one [] j = refl
later_one (m ∷ maps) j = refl

-- what holds seat by seat
pub each_seated : (P : ℕ × List Mapping → Type 0) (ss : List Seat) (maps : List Mappings)
    → ((j : ℕ) (s : Seat) → At ss j s → P (s.cable, frozen_mappings V2 (slice_get maps j))) → Each P (seated ss maps)
each_seated P [] maps h = tt
each_seated P (s ∷ ss) maps h =
    (h zero s refl, each_seated P ss (drop 1 maps) (λ j z e. subst (λ o. P (z.cable, frozen_mappings V2 o)) (sym (later_one maps j)) (h (suc j) z e)))

-- and of one seat
pub seated_at : (P : ℕ × List Mapping → Type 0) (ss : List Seat) (maps : List Mappings) → Each P (seated ss maps)
    → (j : ℕ) (s : Seat) → At ss j s → P (s.cable, frozen_mappings V2 (slice_get maps j))
seated_at P [] maps h j s e = absurd (let g = e in cc)
seated_at P (z ∷ ss) maps h zero s e = let is : z ≡ s = cc in subst (λ (y : Seat). P (y.cable, frozen_mappings V2 (slice_get maps 0))) is h.0
seated_at P (z ∷ ss) maps h (suc j) s e =
    subst (λ o. P (s.cable, frozen_mappings V2 o)) (later_one maps j) (seated_at P ss (drop 1 maps) h.1 j s e)

-- dropping one and then more
drop_more : (n : ℕ) (maps : List Mappings) → drop n (drop 1 maps) ≡ drop (suc n) maps
drop_more zero [] = refl
drop_more (suc n) [] = refl
drop_more n (m ∷ maps) = refl

-- the seats of two lists
seated_append : (xs ys : List Seat) (maps : List Mappings) → seated (xs ++ ys) maps ≡ seated xs maps ++ seated ys (drop (length xs) maps)
seated_append [] ys maps = refl
seated_append (x ∷ xs) ys maps =
    ap (λ l. (x.cable, frozen_mappings V2 (slice_get maps 0)) ∷ l)
    (seated_append xs ys (drop 1 maps) ∙ ap (λ m. seated xs (drop 1 maps) ++ seated ys m) (drop_more (length xs) maps))

-- ---- Those of an image

-- there are as many seats as ports
port_count : (station q : ℕ) (ps : List PlannedPort) → length (port_seats station q ps) ≡ length ps
port_count station q [] = refl
port_count station q (p ∷ ps) = ap suc (port_count station (q + 1) ps)

-- a router has as many ports as planned
abbrev pub HavePorts : List PlannedRouter → List (Member Living LivingNode) → Type 0
HavePorts rs ms = (k : ℕ) (r : PlannedRouter) (l : Living) → At rs k r → At ms k (RouterMember l) → length l.router.ports ≡ length r.port

-- the ports of a router are its seats with what they know
of_ports : (station q : ℕ) (ps : List PlannedPort) (ports : List Choice) (maps : List Mappings) → length ports ≡ length ps
    → map of_port (frozen_ports V2 (map (λ p. p.cable - 1) ps) ports maps) ≡ seated (port_seats station q ps) maps
of_ports station q [] ports maps e = refl
of_ports station q (p ∷ ps) [] maps e = absurd (omega (arith, e))
of_ports station q (p ∷ ps) (c ∷ ports) maps e =
    ap (λ l. (p.cable - 1, frozen_mappings V2 (slice_get maps 0)) ∷ l) (of_ports station (q + 1) ps ports (drop 1 maps) (omega (arith, e)))

-- so are those of all routers
of_routers : (first : ℕ) (rs : List PlannedRouter) (ms : List (Member Living LivingNode)) (maps : List Mappings) → AreRouters rs ms → HavePorts rs ms
    → length rs ≤ length ms → flat_map of_router (frozen_routers V2 rs ms maps) ≡ seated (router_seats first rs) maps
of_routers first [] ms maps all ports few = refl
of_routers first (r ∷ rs) [] maps all ports few = absurd (omega (arith, few))
of_routers first (r ∷ rs) (NodeMember n ∷ ms) maps all ports few = let w = all zero r (NodeMember n) refl refl in let bad = w.1 in absurd cc
of_routers first (r ∷ rs) (RouterMember l ∷ ms) maps all ports few =
    let rest = of_routers (first + 1) rs ms (drop (length r.port) maps) (λ k a m ea em. all (suc k) a m ea em) (λ k a b ea eb. ports (suc k) a b ea eb)
    (omega (arith, few)) in
    let here = of_ports first 0 r.port l.router.ports maps (ports zero r l refl refl) in
    ap (λ x. x ++ flat_map of_router (frozen_routers V2 rs ms (drop (length r.port) maps))) here
    ∙ (ap (λ x. seated (port_seats first 0 r.port) maps ++ x)
    (rest ∙ ap (λ n. seated (router_seats (first + 1) rs) (drop n maps)) (sym (port_count first 0 r.port)))
    ∙ sym (seated_append (port_seats first 0 r.port) (router_seats (first + 1) rs) maps))

-- and the nodes are theirs
of_nodes : (first : ℕ) (ns : List PlannedNode) (ms : List (Member Living LivingNode)) (maps : List Mappings) → AreNodes ms
    → length ns ≤ length ms → map of_node (frozen_nodes V2 ns ms maps) ≡ seated (node_seats first ns) maps
of_nodes first [] ms maps all few = refl
of_nodes first (n ∷ ns) [] maps all few = absurd (omega (arith, few))
of_nodes first (n ∷ ns) (RouterMember r ∷ ms) maps all few = let w = all zero (RouterMember r) refl in let bad = w.1 in absurd cc
of_nodes first (n ∷ ns) (NodeMember l ∷ ms) maps all few =
    ap (λ x. (n.cable - 1, frozen_mappings V2 (slice_get maps 0)) ∷ x)
    (of_nodes (first + 1) ns ms (drop 1 maps) (λ k m e. all (suc k) m e) (omega (arith, few)))

-- nothing is left of nothing
drop_none : (n : ℕ) → drop {A = Mappings} n [] ≡ []
drop_none zero = refl
drop_none (suc n) = refl

-- dropping some and then more
drop_both : (n k : ℕ) (maps : List Mappings) → drop k (drop n maps) ≡ drop (n + k) maps
drop_both zero k maps = let none : 0 + k ≡ k = omega arith in ap (λ j. drop j maps) (sym none)
drop_both (suc n) k [] = drop_none k ∙ sym (drop_none (suc n + k))
drop_both (suc n) k (m ∷ maps) = let next : suc n + k ≡ suc (n + k) = omega arith in drop_both n k maps ∙ ap (λ j. drop j (m ∷ maps)) (sym next)

-- the seats after those of routers are those of the nodes
after_all : (first : ℕ) (rs : List PlannedRouter) (maps : List Mappings) → seats_after rs maps ≡ drop (length (router_seats first rs)) maps
after_all first [] [] = refl
after_all first [] (m ∷ maps) = refl
after_all first (r ∷ rs) maps =
    after_all (first + 1) rs (drop (length r.port) maps)
    ∙ (drop_both (length r.port) (length (router_seats (first + 1) rs)) maps
    ∙ ap (λ n. drop n maps) (let many = port_count first 0 r.port in omega (arith, many, length-append {A = Seat})))

-- the holders are the seats with what they know
pub holders_are : (plan : Planned) (stations : List (Member Living LivingNode)) (maps : List Mappings) → AreRouters plan.routers stations
    → HavePorts plan.routers stations → length plan.routers ≤ length stations → AreNodes (drop (length plan.routers) stations)
    → length plan.nodes ≤ length (drop (length plan.routers) stations)
    → holders (frozen_in V2 plan stations maps) ≡ seated (plan_seats plan) maps
holders_are plan stations maps routers ports few nodes few_nodes =
    ap (λ x. x ++ map of_node (frozen_in V2 plan stations maps).nodes) (of_routers 0 plan.routers stations maps routers ports few)
    ∙ (ap (λ x. seated (router_seats 0 plan.routers) maps ++ x)
    (of_nodes (length plan.routers) plan.nodes (drop (length plan.routers) stations) (seats_after plan.routers maps) nodes few_nodes
    ∙ ap (seated (node_seats (length plan.routers) plan.nodes)) (after_all 0 plan.routers maps))
    ∙ sym (seated_append (router_seats 0 plan.routers) (node_seats (length plan.routers) plan.nodes) maps))
