-- The limits of each part of an internet.
use Rattle.std.specs.Prelude.{◌≡◌, ◌<◌, ◌≤◌, ℕ, List, length, Some, slice_get}
use Rattle.at_base.specs.Address.{address_number}
use Rattle.at_base.specs.Text.{IsEntity, IsName}
use Rattle.at_base.specs.Limits.{max_ports, max_rows, max_lists, max_zones, max_names, max_cables, max_routers, max_nodes, max_mappings}
use Rattle.table_image.specs.Limits.{max_distance}
use Rattle.table_image.specs.declared.cable.Cable.{Cable}
use Rattle.table_image.specs.declared.mapping.Mapping.{Mapping}
use Rattle.table_image.specs.declared.port.Port.{Port}
use Rattle.table_image.specs.declared.row.Row.{Row}
use Rattle.table_image.specs.declared.zone_list.ZoneList.{ZoneList}
use Rattle.table_image.specs.declared.router.Router.{Router}
use Rattle.table_image.specs.declared.node.NodeName.{NodeName}
use Rattle.table_image.specs.declared.node.Node.{Node}
use Rattle.table_image.specs.Internet.{Internet}

-- every element of a list has a property
abbrev pub Every : {X : Type 0} → (X → Type 0) → List X → Type 0
Every {X} holds xs = (k : ℕ) (x : X) → slice_get xs k ≡ Some x → holds x

-- the numbers rise strictly along the list
abbrev pub Rises : {X : Type 0} → (X → ℕ) → List X → Type 0
Rises {X} number xs = (j k : ℕ) (a b : X) → slice_get xs j ≡ Some a → slice_get xs k ≡ Some b → j < k → number a < number b

-- the rows rise strictly by their starts
abbrev pub AreRising : List Row → Type 0
AreRising rows = Rises (λ row. row.start) rows

-- the zones of a cable or of a zone list: at most as many as the limit, each a valid name
pub record AreZones (zones : List (List ℕ)) : Type 0 where
  -- at most as many as the limit
  pub few : length zones ≤ max_zones
  -- valid zone names
  pub each : Every (λ zone. IsName zone) zones

-- the mappings of a port or a node: at most as many as the limit, each of another address
pub record AreMappings (mappings : List Mapping) : Type 0 where
  -- at most as many as the limit
  pub few : length mappings ≤ max_mappings
  -- they rise strictly by their addresses
  pub rising : Rises (λ m. address_number m.address) mappings

-- a row of a router with this many ports: its distance and port are within their limits
pub record IsRow (ports : ℕ) (row : Row) : Type 0 where
  -- at most the greatest distance
  pub distance : row.distance ≤ max_distance
  -- the index of a port of the router
  pub port : row.port < ports

-- a valid name of a node: its socket, enumerator, object and type
pub record IsNodeName (name : NodeName) : Type 0 where
  -- a socket from 1 ..
  pub socket_low : 1 ≤ name.socket
  -- .. to 254
  pub socket_high : name.socket ≤ 254
  -- an enumerator from 1
  pub enumerator : 1 ≤ name.enumerator
  -- an object
  pub object : IsEntity name.object
  -- a type
  pub kind : IsEntity name.kind

-- a router within the limits of an image with this many cables
pub record IsWithinLimits (cables : ℕ) (router : Router) : Type 0 where
  -- at most as many ports as the limit
  pub ports : length router.ports ≤ max_ports
  -- at most as many rows as the limit
  pub rows : length router.rows ≤ max_rows
  -- at most as many zone lists as the limit
  pub lists : length router.lists ≤ max_lists
  -- the rows rise strictly by their starts
  pub rising : AreRising router.rows
  -- the zone lists rise strictly by their starts
  pub lists_rising : Rises (λ list. list.start) router.lists
  -- each port has the index of a cable
  pub each_port : Every (λ (port : Port). port.cable < cables) router.ports
  -- each port has valid mappings
  pub each_known : Every (λ (port : Port). AreMappings port.mappings) router.ports
  -- each row has a valid distance and port
  pub each_row : Every (IsRow (length router.ports)) router.rows
  -- each zone list has valid zones
  pub each_list : Every (λ (list : ZoneList). AreZones list.zones) router.lists

-- a node within the limits of an image with this many cables
pub record IsNodeWithinLimits (cables : ℕ) (node : Node) : Type 0 where
  -- the index of a cable
  pub cable : node.cable < cables
  -- a zone name
  pub zone : IsName node.zone
  -- at most as many names as the limit
  pub names : length node.names ≤ max_names
  -- the names rise strictly by their enumerators
  pub rising : Rises (λ name. name.enumerator) node.names
  -- valid names
  pub each_name : Every IsNodeName node.names
  -- valid mappings
  pub known : AreMappings node.mappings

-- an internet within the limits of an image
pub record IsBounded (i : Internet) : Type 0 where
  -- at most as many cables as the limit
  pub cables : length i.cables ≤ max_cables
  -- at most as many routers as the limit
  pub routers : length i.routers ≤ max_routers
  -- at most as many nodes as the limit
  pub nodes : length i.nodes ≤ max_nodes
  -- each router is within its limits
  pub each : (r : ℕ) (router : Router) → slice_get i.routers r ≡ Some router → IsWithinLimits (length i.cables) router
  -- each cable has valid zones
  pub each_cable : Every (λ (cable : Cable). AreZones cable.zones) i.cables
  -- each node is within its limits
  pub each_node : Every (IsNodeWithinLimits (length i.cables)) i.nodes
