-- Events and runs that show what the headline's conditions mean, and that they can be met, over internets of three cables.
use Rattle.std.specs.Prelude.{ℕ, false, List, [], ◌∷◌, ◌++◌, None, map}
use Rattle.aarp.specs.Mapping.{Mappings}
use Rattle.audit.specs.Example.{addr, hardware, three_cables}
use Rattle.cable_model.specs.Rooms.{held_rooms, known_rooms}
use Rattle.cable_model.specs.declared.entry.Entry.{Entry as Line}
use Rattle.cable_model.specs.declared.entry.Entry.TheVariants as line
use Rattle.cable_model.specs.declared.entry.How.TheVariants as how
use Rattle.end_node.specs.Holding.{NodeHolding}
use Rattle.events.specs.declared.event.Event.{Event}
use Rattle.events.specs.declared.event.Event.TheVariants.{Send}
use Rattle.frozen.specs.Runs.{Running}
use Rattle.image_cables.specs.Settled.{cable_ranges, seat_addresses}
use Rattle.image_stations.specs.Holders.{choice_on, named, ports_of}
use Rattle.legal_runs.specs.Example.{echo_reply, echo_request, plain}
use Rattle.legal_runs.specs.Stations.{cable_seats}
use Rattle.live_cables.specs.Holding.{datagram}
use Rattle.resolved_runs.specs.Example.{packet_bytes, unmapped}
use Rattle.router.specs.Holding.{Holding}
use Rattle.run_cables.specs.declared.wiring.Wiring.{Wiring}
use Rattle.run_cables.specs.declared.wiring.Wiring.TheVariants.{Asking, Known}
use Rattle.station.specs.declared.heard.Kind.TheVariants.{Aarp, Ddp}
use Rattle.station.specs.declared.member.Member.{Member}
use Rattle.station.specs.declared.member.Member.TheVariants as member
use Rattle.station.specs.declared.output.DropCause.TheVariants.{NoRoute}
use Rattle.at_base.specs.Multicast.{all_hw}
use Rattle.table_image.specs.Internet.{Internet}
use Rattle.table_image.specs.RouteRows.{route_row}
use Rattle.image_zones.specs.ZoneMaps.{zone_map}
use Rattle.table_image.specs.declared.node.Node.{Node}
use Rattle.table_image.specs.declared.router.Router.{Router}

-- Node 10.7 sends data to the names socket of its router, with this DDP type.
abbrev pub sends : ℕ → List ℕ → Event
sends kind payload = Send (addr 10 7) None (addr 10 1) 2 253 kind false payload

-- ---- Stations

-- A router with the contents that an internet has for it, which has heard nothing.
abbrev pub router_of : Internet → Router → Member Holding NodeHolding
router_of i r = member.Router (record {
  ports = ports_of i r.ports;
  routes = map route_row r.rows;
  zones = zone_map r.lists;
  requests = [];
})

-- A node with the contents that an internet has for it, which has heard nothing.
abbrev pub node_of : Internet → Node → Member Holding NodeHolding
node_of i n = member.Node (record {
  port = choice_on i n.cable n.address n.hardware;
  zone = n.zone;
  router = n.router;
  names = map named n.names;
  received = [];
  asks = record { next = 1; slots = [] };
})

-- The stations of an internet.
abbrev pub stations_of : Internet → List (Member Holding NodeHolding)
stations_of i = map (router_of i) i.routers ++ map (node_of i) i.nodes

-- ---- Runs where every hardware address is known

-- A run over three cables with these entries, which name these bytes.
abbrev pub known_run : List Line → List (List ℕ) → Running
known_run lines kept = record {
  internet = three_cables;
  stations = stations_of three_cables;
  wiring = Known (record {
    seats = cable_seats three_cables;
    limit = 20;
    rooms = known_rooms;
    lines = lines;
    kept = kept;
    spare = 0;
  });
}

-- A run in which the node sends a datagram to a network that no cable has, with these entries.
abbrev pub run_of : List Line → Running
run_of lines = known_run lines (plain 0 50 9 ∷ [])

-- Its router hasn't taken the datagram yet.
abbrev pub underway : List Line
underway = line.Sent 2 0 ∷ line.Put 0 0 2 (hardware 1) Ddp 0 ∷ []

-- Its router has taken and dropped it.
abbrev pub ended : List Line
ended = line.Sent 2 0 ∷ line.Put 0 0 2 (hardware 1) Ddp 0 ∷ line.Took 0 0 ∷ line.Dropped 0 NoRoute 0 ∷ []

-- The entries of an echo request and its reply.
abbrev pub echo_lines : List Line
echo_lines =
    line.Sent 2 0 ∷ line.Put 0 0 2 (hardware 1) Ddp 0
    ∷ line.Took 0 0 ∷ line.Put 1 1 0 (hardware 3) Ddp 1
    ∷ line.Took 1 1 ∷ line.Reached 2 1 how.Station 2 ∷ line.Put 2 2 1 (hardware 6) Ddp 2
    ∷ line.Took 2 3 ∷ line.Sent 3 3 ∷ line.Put 3 2 3 (hardware 4) Ddp 3
    ∷ line.Took 3 1 ∷ line.Put 4 1 1 (hardware 2) Ddp 4
    ∷ line.Took 4 0 ∷ line.Reached 0 0 how.Station 5 ∷ line.Put 5 0 0 (hardware 5) Ddp 5
    ∷ line.Took 5 2 ∷ []

-- The run of an echo over three cables, at its end.
abbrev pub echoed : Running
echoed =
    known_run echo_lines
    (echo_request 0 ∷ echo_request 4 ∷ echo_request 8 ∷ echo_reply 0 ∷ echo_reply 4 ∷ echo_reply 8 ∷ [])

-- ---- A run where stations ask for hardware addresses

-- The entries of a datagram to 10.9, an address that nobody has: the node asks for its router, and the router for 10.9.
abbrev pub nobody_lines : List Line
nobody_lines =
    line.Sent 2 0 ∷ line.Hold 0 0 2 (addr 10 1) 0 ∷ line.Put 1 0 2 all_hw Aarp 1
    ∷ line.Took 1 0 ∷ line.Put 2 0 0 (hardware 5) Aarp 2
    ∷ line.Took 2 2 ∷ line.Put 0 0 2 (hardware 1) Ddp 0
    ∷ line.Took 0 0 ∷ line.Reached 0 0 how.Held 3 ∷ line.Hold 3 0 0 (addr 10 9) 3 ∷ line.Put 4 0 0 all_hw Aarp 4
    ∷ line.Took 4 2 ∷ []

-- The bytes that they name.
abbrev pub nobody_kept : List (List ℕ)
nobody_kept =
    plain 0 10 9
    ∷ packet_bytes 1 5 10 7 (0 ∷ 0 ∷ 0 ∷ 0 ∷ 0 ∷ 0 ∷ []) 1
    ∷ packet_bytes 2 1 10 1 (2 ∷ 0 ∷ 0 ∷ 0 ∷ 0 ∷ 5 ∷ []) 7
    ∷ plain 4 10 9
    ∷ packet_bytes 1 1 10 1 (0 ∷ 0 ∷ 0 ∷ 0 ∷ 0 ∷ 0 ∷ []) 9 ∷ []

-- A seat that knows nothing and holds nothing.
abbrev pub unknowing : Mappings
unknowing = record { known = []; held = [] }

-- What the six seats know and hold at the end: the router holds the datagram, and the node has learnt the router's address.
abbrev pub nobody_maps : List Mappings
nobody_maps =
    record { known = []; held = datagram (addr 10 9) 3 ∷ [] } ∷ unknowing ∷ unknowing ∷ unknowing
    ∷ record { known = (addr 10 1, hardware 1) ∷ []; held = [] } ∷ unknowing ∷ []

-- The cables of that run, at its end.
abbrev pub nobody_wiring : Wiring
nobody_wiring = Asking (record {
  cabling = record {
    seats = cable_seats unmapped;
    limit = 20;
    rooms = held_rooms;
    lines = nobody_lines;
    kept = nobody_kept;
    spare = 0;
  };
  own = seat_addresses unmapped;
  maps = nobody_maps;
  ranges = cable_ranges unmapped;
  losing = [];
})

-- The run, over three cables where no station has a mapping.
abbrev pub held_for_nobody : Running
held_for_nobody = record { internet = unmapped; stations = stations_of unmapped; wiring = nobody_wiring }
