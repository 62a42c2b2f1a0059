-- The parts of an image for cables, and for the contents of routers and nodes.
use Rattle.std.specs.Prelude.{ℕ, List, [], ◌∷◌, Option, Some, None, drop, map, slice_get}
use Rattle.std.specs.Option.{unwrap_or}
use Rattle.aarp.specs.Choosing.{Choice, settled}
use Rattle.aarp.specs.Mapping.{Mappings, by_address}
use Rattle.at_base.specs.Range.{Span}
use Rattle.at_base.specs.declared.address.Addr.{Addr}
use Rattle.at_base.specs.declared.address.Hw.{Hw}
use Rattle.end_node.specs.Holding.{NodeHolding}
use Rattle.nbp.specs.declared.names.Named.{Named}
use Rattle.router.specs.Holding.{Holding}
use Rattle.rtmp.specs.declared.row.Row.{Row}
use Rattle.station.specs.Ways.{nobody}
use Rattle.table_image.specs.declared.cable.Cable.{Cable}
use Rattle.table_image.specs.declared.mapping.Mapping.{Mapping}
use Rattle.table_image.specs.declared.node.Node.{Node}
use Rattle.table_image.specs.declared.node.NodeName.{NodeName}
use Rattle.table_image.specs.declared.port.Port.{Port}
use Rattle.table_image.specs.declared.router.Router.{Router}
use Rattle.table_image.specs.declared.row.Row.{Row as ImageRow}
use Rattle.table_image.specs.declared.version.Version.{Version}
use Rattle.table_image.specs.declared.version.Version.TheVariants.{V1, V2}
use Rattle.table_image.specs.declared.zone_list.ZoneList.{ZoneList}
use Rattle.zip_zones.specs.Zones.{Known, is_complete}

-- The image's cable with this range and these zones.
abbrev pub frozen_cable : Span → List (List ℕ) → Cable
frozen_cable range zones = record { start = range.start; end = range.end; zones = zones }

-- The address of a port, and 0.0 if it isn't settled.
abbrev pub address_of : Choice → Addr
address_of c = unwrap_or (settled c) nobody

-- The image's mapping for a mapping that a port knows.
abbrev pub frozen_mapping : Addr × Hw → Mapping
frozen_mapping known = record { address = known.0; hardware = known.1 }

-- The mappings of a seat in an image: none in version 1, and in version 2 all that its mapper knows, by rising address,
-- or none without a mapper.
abbrev pub frozen_mappings : Version → Option Mappings → List Mapping
frozen_mappings V1 seat = []
frozen_mappings V2 None = []
frozen_mappings V2 (Some m) = map frozen_mapping (by_address m.known)

-- The image's port on this cable, with the mappings of its seat.
abbrev pub frozen_port : Version → ℕ → Choice → Option Mappings → Port
frozen_port version cable c seat = record {
  cable = cable;
  address = address_of c;
  hardware = c.hw;
  mappings = frozen_mappings version seat;
}

-- The image's ports on these cables, with the mappings of these seats, one for each port in order.
abbrev pub frozen_ports : Version → List ℕ → List Choice → List Mappings → List Port
frozen_ports version [] ports seats = []
frozen_ports version (cable ∷ cables) [] seats = []
frozen_ports version (cable ∷ cables) (c ∷ ports) seats =
    frozen_port version cable c (slice_get seats 0) ∷ frozen_ports version cables ports (drop 1 seats)

-- The image's row for a row of a routing table.
abbrev pub frozen_row : Row → ImageRow
frozen_row r = record {
  start = r.range.start;
  end = r.range.end;
  distance = r.distance;
  port = r.port;
  next = r.next;
  state = r.state;
}

-- The image's zone list for a list of a zone table.
abbrev pub frozen_list : Known → ZoneList
frozen_list k = record { start = k.range.start; end = k.range.end; complete = is_complete k; zones = k.names }

-- The image's router whose ports are on these cables and have these seats.
abbrev pub frozen_router : Version → List ℕ → Holding → List Mappings → Router
frozen_router version cables h seats = record {
  ports = frozen_ports version cables h.ports seats;
  rows = map frozen_row h.routes;
  lists = map frozen_list h.zones;
}

-- The image's name for a name that a node has registered.
abbrev pub frozen_name : Named → NodeName
frozen_name n = record { socket = n.socket; enumerator = n.enumerator; object = n.object; kind = n.kind }

-- The image's node on this cable, with the mappings of its seat.
abbrev pub frozen_node : Version → ℕ → NodeHolding → Option Mappings → Node
frozen_node version cable h seat = record {
  cable = cable;
  address = address_of h.port;
  hardware = h.port.hw;
  zone = h.zone;
  router = h.router;
  names = map frozen_name h.names;
  mappings = frozen_mappings version seat;
}
