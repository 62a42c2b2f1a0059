-- The image of version 1 of stations' tables is that of version 2 without its mappings.
use Rattle.std.proofs.Common.{◌≡◌, ℕ, ◌-◌, List, [], ◌∷◌, refl, ap, ◌∙◌, subst, slice_get, length, map}
use Rattle.std.specs.Prelude.{drop}
use Rattle.aarp.specs.Choosing.{Choice}
use Rattle.aarp.specs.Mapping.{Mappings}
use Rattle.audit.specs.Rules.{Passes}
use Rattle.freeze.specs.Freezing.{frozen_node, frozen_port, frozen_ports, frozen_router}
use Rattle.freeze.specs.Frozen.{cables_by, frozen_in, frozen_nodes, frozen_of, frozen_routers, seats_after}
use Rattle.internet_file.specs.Files.{Planned}
use Rattle.internet_file.specs.declared.node.Node.{Node as PlannedNode}
use Rattle.internet_file.specs.declared.router.Router.{Router as PlannedRouter}
use Rattle.lasting.proofs.Limited.{bounded_alone}
use Rattle.lasting.proofs.Mapless.{mapless, node_alone, passes_alone, port_alone, router_alone, settled_alone}
use Rattle.lasting.specs.Settled.{IsSettledIn, IsSettledWorld}
use Rattle.live_node.specs.Living.{LivingNode}
use Rattle.live_router.specs.Living.{Living}
use Rattle.settled.specs.Settling.{IsSettled}
use Rattle.station.specs.declared.member.Member.{Member}
use Rattle.station.specs.declared.member.Member.TheVariants.{Router as RouterMember, Node as NodeMember}
use Rattle.table_image.specs.Bounds.{IsBounded}
use Rattle.table_image.specs.Internet.{internet}
use Rattle.table_image.specs.declared.port.Port.{Port}
use Rattle.table_image.specs.declared.router.Router.{Router}
use Rattle.table_image.specs.declared.version.Version.TheVariants.{V1, V2}
use Rattle.world.specs.Frozen.{frozen_as}
use Rattle.world.specs.Worlds.{Worldly}

-- the ports
ports_alone : (cables : List ℕ) (ports : List Choice) (seats : List Mappings)
    → map port_alone (frozen_ports V2 cables ports seats) ≡ frozen_ports V1 cables ports seats
ports_alone [] ports seats = refl
ports_alone (c ∷ cables) [] seats = refl
ports_alone (c ∷ cables) (p ∷ ports) seats = ap (λ l. frozen_port V1 c p (slice_get seats 0) ∷ l) (ports_alone cables ports (drop 1 seats))

-- the routers
routers_alone : (rs : List PlannedRouter) (ms : List (Member Living LivingNode)) (seats : List Mappings)
    → map router_alone (frozen_routers V2 rs ms seats) ≡ frozen_routers V1 rs ms seats
routers_alone [] ms seats = refl
routers_alone (r ∷ rs) [] seats = refl
routers_alone (r ∷ rs) (NodeMember n ∷ ms) seats = routers_alone rs ms (drop (length r.port) seats)
routers_alone (r ∷ rs) (RouterMember l ∷ ms) seats =
    let made : List Port → Router = λ ps. record {
      ports = ps;
      rows = (frozen_router V1 (cables_by r) l.router seats).rows;
      lists = (frozen_router V1 (cables_by r) l.router seats).lists;
    } in
    ap (λ ps. made ps ∷ map router_alone (frozen_routers V2 rs ms (drop (length r.port) seats))) (ports_alone (cables_by r) l.router.ports seats)
    ∙ ap (λ l2. frozen_router V1 (cables_by r) l.router seats ∷ l2) (routers_alone rs ms (drop (length r.port) seats))

-- the nodes
nodes_alone : (ns : List PlannedNode) (ms : List (Member Living LivingNode)) (seats : List Mappings)
    → map node_alone (frozen_nodes V2 ns ms seats) ≡ frozen_nodes V1 ns ms seats
nodes_alone [] ms seats = refl
nodes_alone (n ∷ ns) [] seats = refl
nodes_alone (n ∷ ns) (RouterMember r ∷ ms) seats = nodes_alone ns ms (drop 1 seats)
nodes_alone (n ∷ ns) (NodeMember l ∷ ms) seats =
    ap (λ z. frozen_node V1 (n.cable - 1) l.node (slice_get seats 0) ∷ z) (nodes_alone ns ms (drop 1 seats))

-- the image
pub frozen_alone : (plan : Planned) (stations : List (Member Living LivingNode)) (maps : List Mappings)
    → mapless (frozen_in V2 plan stations maps) ≡ frozen_in V1 plan stations maps
frozen_alone plan stations maps =
    ap (λ rs. internet V1 (map frozen_of plan.cables) rs (map node_alone (frozen_in V2 plan stations maps).nodes))
    (routers_alone plan.routers stations maps)
    ∙ ap (λ ns. internet V1 (map frozen_of plan.cables) (frozen_routers V1 plan.routers stations maps) ns)
    (nodes_alone plan.nodes (drop (length plan.routers) stations) (seats_after plan.routers maps))

-- the image of version 2 of a world, without its mappings, is that of version 1
pub alone : (w : Worldly) → mapless (frozen_as V2 w) ≡ frozen_as V1 w
alone w = frozen_alone w.plan w.stations w.wires.maps

-- a world that has settled by its image of version 2 has done so by that of version 1
pub settled_down : (w : Worldly) → IsSettledIn V2 w → IsSettledWorld w
settled_down w s = record {
  pending = s.pending;
  plain = s.plain;
  spared = s.spared;
  stations = s.stations;
  passes = subst Passes (alone w) (passes_alone (frozen_as V2 w) s.passes);
  settled = subst IsSettled (alone w) (settled_alone (frozen_as V2 w) s.settled);
  bounded = subst IsBounded (alone w) (bounded_alone (frozen_as V2 w) s.bounded);
}
