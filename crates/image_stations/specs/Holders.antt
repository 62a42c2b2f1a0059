-- The contents of the stations of an internet whose tables are those of its image.
use Rattle.std.specs.Prelude.{◌≡◌, ℕ, ◌+◌, List, [], map, length, Option, Some, None, slice_get}
use Rattle.std.specs.List.{All}
use Rattle.aarp.specs.Choosing.{Choice, decided}
use Rattle.at_base.specs.Range.{Span}
use Rattle.at_base.specs.declared.address.Addr.{Addr}
use Rattle.at_base.specs.declared.address.Hw.{Hw}
use Rattle.atp.specs.Requesting.{known}
use Rattle.station.specs.declared.member.Member.{Member}
use Rattle.station.specs.declared.member.Member.TheVariants as member
use Rattle.router.specs.Holding.{Holding}
use Rattle.table_image.specs.Internet.{Internet}
use Rattle.table_image.specs.RouteRows.{route_row}
use Rattle.image_zones.specs.ZoneMaps.{zone_map}
use Rattle.table_image.specs.declared.cable.Cable.{Cable}
use Rattle.table_image.specs.declared.port.Port.{Port}
use Rattle.table_image.specs.declared.router.Router.{Router}
use Rattle.end_node.specs.Holding.{NodeHolding}
use Rattle.nbp.specs.declared.names.Named.{Named}
use Rattle.table_image.specs.declared.node.Node.{Node}
use Rattle.table_image.specs.declared.node.NodeName.{NodeName}

-- The range of a cable, and 0 to 0 if there is no cable.
abbrev pub range_of : Option Cable → Span
range_of None = record { start = 0; end = 0 }
range_of (Some c) = record { start = c.start; end = c.end }

-- The address choice of a port on a cable, whose address is already settled.
abbrev pub choice_on : Internet → ℕ → Addr → Hw → Choice
choice_on i cable a hw = decided (range_of (slice_get i.cables cable)) a hw

-- The ports of a router, each with its address.
abbrev pub ports_of : Internet → List Port → List Choice
ports_of i ports = map (λ p. choice_on i p.cable p.address p.hardware) ports

-- A router holds what the image has for router r: the addresses of its ports, its rows and its zone lists.
pub record HoldsRouter (i : Internet) (r : ℕ) (h : Holding) : Type 0 where
  pub router : Router
  pub known : slice_get i.routers r ≡ Some router
  pub ports : h.ports ≡ ports_of i router.ports
  pub routes : h.routes ≡ map route_row router.rows
  pub zones : h.zones ≡ zone_map router.lists

-- A node's name, from a name in the image.
abbrev pub named : NodeName → Named
named n = record { socket = n.socket; enumerator = n.enumerator; object = n.object; kind = n.kind }

-- A node holds what the image has for node k: its address, its zone, its router and its names.
pub record HoldsNode (i : Internet) (k : ℕ) (h : NodeHolding) : Type 0 where
  pub node : Node
  pub known : slice_get i.nodes k ≡ Some node
  pub port : h.port ≡ choice_on i node.cable node.address node.hardware
  pub zone : h.zone ≡ node.zone
  pub router : h.router ≡ node.router
  pub names : h.names ≡ map named node.names

-- Station s is a router or a node, and holds what the image has for it.
abbrev pub HoldsStation : Internet → ℕ → Member Holding NodeHolding → Type 0
HoldsStation i s (member.Router h) = HoldsRouter i s h
HoldsStation i s (member.Node h) = (k : ℕ) × (s ≡ length i.routers + k) × HoldsNode i k h

-- These are the stations of an internet, its routers and then its nodes, each with the contents that the image has for
-- it.
pub record HoldStations (i : Internet) (stations : List (Member Holding NodeHolding)) : Type 0 where
  pub number : length stations ≡ length i.routers + length i.nodes
  pub each : (s : ℕ) (m : Member Holding NodeHolding) → slice_get stations s ≡ Some m → HoldsStation i s m

-- The station has received nothing yet: a router keeps no answers; a node has no datagrams and no open transactions, and
-- the ID of its first transaction is looked for from 1 on.
abbrev pub IsFresh : Member Holding NodeHolding → Type 0
IsFresh (member.Router h) = h.requests ≡ []
IsFresh (member.Node h) = (h.received ≡ []) × (h.asks.next ≡ 1) × ((id : ℕ) → known id h.asks.slots ≡ None)

-- None of the stations has received anything yet.
abbrev pub AreFresh : List (Member Holding NodeHolding) → Type 0
AreFresh stations = All IsFresh stations
