-- The image of the tables of a plan's stations.
use Rattle.std.specs.Prelude.{ℕ, ◌-◌, Bool, false, ◌||◌, List, [], ◌∷◌, drop, length, map, nat_lt, slice_get}
use Rattle.std.specs.List.{list_any}
use Rattle.aarp.specs.Mapping.{Mappings}
use Rattle.freeze.specs.Freezing.{frozen_cable, frozen_node, frozen_router}
use Rattle.station.specs.declared.member.Member.{Member}
use Rattle.station.specs.declared.member.Member.TheVariants.{Router as RouterMember, Node as NodeMember}
use Rattle.internet_file.specs.Files.{Planned}
use Rattle.internet_file.specs.declared.cable.Cable.{Cable}
use Rattle.internet_file.specs.declared.node.Node.{Node}
use Rattle.internet_file.specs.declared.router.Router.{Router}
use Rattle.live_node.specs.Living.{LivingNode}
use Rattle.live_router.specs.Living.{Living}
use Rattle.table_image.specs.Internet.{Internet, internet}
use Rattle.table_image.specs.Versions.{zone_limit}
use Rattle.table_image.specs.declared.cable.Cable.{Cable as ImageCable}
use Rattle.table_image.specs.declared.node.Node.{Node as ImageNode}
use Rattle.table_image.specs.declared.router.Router.{Router as ImageRouter}
use Rattle.table_image.specs.declared.version.Version.{Version}
use Rattle.table_image.specs.declared.version.Version.TheVariants.{V1}
use Rattle.zip_zones.specs.Zones.{most_names}

-- The image's cable for a cable of the plan.
abbrev pub frozen_of : Cable → ImageCable
frozen_of c = frozen_cable c.range c.zones

-- The indexes, from 0, of the cables of a router's ports.
abbrev pub cables_by : Router → List ℕ
cables_by r = map (λ p. p.cable - 1) r.port

-- The image's routers for the stations that are routers, each on the cables of the planned router at its position. Each
-- planned port has one of these seats, in order.
abbrev pub frozen_routers : Version → List Router → List (Member Living LivingNode) → List Mappings → List ImageRouter
frozen_routers version (r ∷ rs) (RouterMember l ∷ ms) seats =
    frozen_router version (cables_by r) l.router seats ∷ frozen_routers version rs ms (drop (length r.port) seats)
frozen_routers version (r ∷ rs) (NodeMember n ∷ ms) seats = frozen_routers version rs ms (drop (length r.port) seats)
frozen_routers version (r ∷ rs) [] seats = []
frozen_routers version [] ms seats = []

-- The image's nodes for the stations that are nodes, each on the cable of the planned node at its position. Each planned
-- node has one of these seats, in order.
abbrev pub frozen_nodes : Version → List Node → List (Member Living LivingNode) → List Mappings → List ImageNode
frozen_nodes version (n ∷ ns) (NodeMember l ∷ ms) seats =
    frozen_node version (n.cable - 1) l.node (slice_get seats 0) ∷ frozen_nodes version ns ms (drop 1 seats)
frozen_nodes version (n ∷ ns) (RouterMember r ∷ ms) seats = frozen_nodes version ns ms (drop 1 seats)
frozen_nodes version (n ∷ ns) [] seats = []
frozen_nodes version [] ms seats = []

-- The seats after those of the ports of routers.
abbrev pub seats_after : List Router → List Mappings → List Mappings
seats_after [] seats = seats
seats_after (r ∷ rs) seats = seats_after rs (drop (length r.port) seats)

-- The image of a plan and its stations, in a version. The seats are those of the routers' ports, and then of the nodes.
abbrev pub frozen_in : Version → Planned → List (Member Living LivingNode) → List Mappings → Internet
frozen_in version plan stations seats =
    internet version (map frozen_of plan.cables) (frozen_routers version plan.routers stations seats)
    (frozen_nodes version plan.nodes (drop (length plan.routers) stations) (seats_after plan.routers seats))

-- There are more zones than a cable or a zone list has in an image of version 1.
abbrev pub is_long : ℕ → Bool
is_long zones = nat_lt (zone_limit V1) zones

-- A zone list of the station, which is a router, has more names than one in an image of version 1.
abbrev pub has_long_list : Member Living LivingNode → Bool
has_long_list (RouterMember l) = is_long (most_names l.router.zones)
has_long_list (NodeMember n) = false

-- A cable of the plan, or a zone list of a router, has more than the 64 names that one in an image of version 1 can have.
abbrev pub needs_version_2 : Planned → List (Member Living LivingNode) → Bool
needs_version_2 plan stations = list_any (λ c. is_long (length c.zones)) plan.cables || list_any has_long_list stations
