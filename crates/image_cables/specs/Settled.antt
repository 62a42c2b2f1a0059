-- The live cables of an image before anything happened: each seat has its address, and the mappings that the image has for it.
use Rattle.std.specs.Prelude.{List, [], ◌∷◌, ◌++◌, Option, Some, map}
use Rattle.aarp.specs.Mapping.{Mappings, learnt}
use Rattle.at_base.specs.Range.{Span}
use Rattle.at_base.specs.declared.address.Addr.{Addr}
use Rattle.at_base.specs.declared.address.Hw.{Hw}
use Rattle.table_image.specs.Internet.{Internet}
use Rattle.table_image.specs.Seats.{seats}
use Rattle.table_image.specs.declared.cable.Cable.{Cable}
use Rattle.table_image.specs.declared.mapping.Mapping.{Mapping}
use Rattle.table_image.specs.declared.node.Node.{Node}
use Rattle.table_image.specs.declared.port.Port.{Port}
use Rattle.table_image.specs.declared.router.Router.{Router}

-- The mappings after these of an image were learnt, in their order.
abbrev pub learnt_all : List (Addr × Hw) → List Mapping → List (Addr × Hw)
learnt_all known [] = known
learnt_all known (m ∷ ms) = learnt_all (learnt m.address m.hardware known) ms

-- What a seat knows that has learnt the mappings of the image; it holds nothing.
abbrev pub seeded : List Mapping → Mappings
seeded mappings = record { known = learnt_all [] mappings; held = [] }

-- The same of the seat of a port.
abbrev pub port_maps : Port → Mappings
port_maps port = seeded port.mappings

-- The same of the seat of a node.
abbrev pub node_maps : Node → Mappings
node_maps node = seeded node.mappings

-- The same of the seats of routers, one after the other.
abbrev pub router_maps : List Router → List Mappings
router_maps [] = []
router_maps (router ∷ routers) = map port_maps router.ports ++ router_maps routers

-- The same of all seats, in their order.
abbrev pub seat_maps : Internet → List Mappings
seat_maps i = router_maps i.routers ++ map node_maps i.nodes

-- The settled address of the seat of a port.
abbrev pub port_address : Port → Option Addr
port_address port = Some port.address

-- The same of the seat of a node.
abbrev pub node_address : Node → Option Addr
node_address node = Some node.address

-- The same of the seats of routers, one after the other.
abbrev pub router_addresses : List Router → List (Option Addr)
router_addresses [] = []
router_addresses (router ∷ routers) = map port_address router.ports ++ router_addresses routers

-- The settled addresses of all seats, in their order.
abbrev pub seat_addresses : Internet → List (Option Addr)
seat_addresses i = map (λ s. Some s.address) (seats i)

-- The range of a cable.
abbrev pub range_of : Cable → Span
range_of cable = record { start = cable.start; end = cable.end }

-- The ranges of the cables, in their order.
abbrev pub cable_ranges : Internet → List Span
cable_ranges i = map range_of i.cables
