-- The requests of a node to its router. (Inside AppleTalk, the chapters on NBP, ATP and ZIP)
use Rattle.std.specs.Prelude.{ℕ, ◌/◌, ◌%◌, [], ◌∷◌, cond, false, List, Option, Some, None, Result, Ok, Err}
use Rattle.aarp.specs.Choosing.{settled}
use Rattle.at_base.specs.Spelling.{bytes_of}
use Rattle.at_base.specs.declared.address.Addr.{Addr}
use Rattle.at_base.specs.declared.error.Error.{Error}
use Rattle.at_base.specs.declared.error.Error.TheVariants.{NoSuch, NoRouter}
use Rattle.at_base.specs.declared.error.What.TheVariants.{Station}
use Rattle.atp.specs.Packets.{packet as atp_packet}
use Rattle.atp.specs.Requesting.{begun, request_of}
use Rattle.atp.specs.declared.ask.Ask.{Ask}
use Rattle.nbp.specs.Packets.{packet, packet_of}
use Rattle.nbp.specs.declared.packet.Function.TheVariants.{BroadcastRequest}
use Rattle.nbp.specs.declared.tuple.Tuple.{Tuple}
use Rattle.station.specs.declared.output.Next.TheVariants as next
use Rattle.station.specs.declared.way.Way.{Way}
use Rattle.end_node.specs.Holding.{NodeHolding}
use Rattle.end_node.specs.Lookups.{is_any}

-- the way of a request of this type from this address to the router, from one socket to another
abbrev pub way_to_router : ℕ → ℕ → ℕ → Addr → Addr → Way
way_to_router kind target_socket source_socket own router = record {
  port = 0;
  next = next.Station router;
  header = record {
    summed = false;
    target = router;
    source = own;
    target_socket = target_socket;
    source_socket = source_socket;
    kind = kind;
  };
}

-- the way of an NBP request from this address to the router
abbrev pub names_way : Addr → Addr → Way
names_way own router = way_to_router 2 2 253 own router

-- the way of a GetZoneList request from this address to the router
abbrev pub zones_way : Addr → Addr → Way
zones_way own router = way_to_router 3 6 252 own router

-- the way of a request from this address to the router, or NoRouter if there is none
abbrev pub asking_of : (Addr → Addr → Way) → Addr → Option Addr → Result Way Error
asking_of way own None = Err NoRouter
asking_of way own (Some router) = Ok (way own router)

-- the way of a request to the router, or NoSuch Station if the node has no address, or NoRouter if it has no router
abbrev pub asking_from : (Addr → Addr → Way) → Option Addr → Option Addr → Result Way Error
asking_from way None router = Err (NoSuch Station)
asking_from way (Some own) router = asking_of way own router

-- the way of an NBP request to the router, or why there is none: the node has no address, or no router
abbrev pub asking : NodeHolding → Result Way Error
asking h = asking_from names_way (settled h.port) h.router

-- the way of a GetZoneList request to the router, or why there is none: the node has no address, or no router
abbrev pub zones_asking : NodeHolding → Result Way Error
zones_asking h = asking_from zones_way (settled h.port) h.router

-- the zone of a lookup: the node's own in place of an empty zone or *
abbrev pub zone_asked : NodeHolding → List ℕ → List ℕ
zone_asked h zone = cond (is_any zone) h.zone zone

-- the tuple of a broadcast request from this address
abbrev pub asked_by : Addr → List ℕ → List ℕ → List ℕ → Tuple
asked_by own object kind zone = record {
  at = own;
  socket = 253;
  enumerator = 0;
  object = object;
  kind = kind;
  zone = zone;
}

-- the bytes of a broadcast request with this ID
abbrev pub request_bytes : ℕ → Tuple → List ℕ
request_bytes id t = bytes_of packet (packet_of BroadcastRequest id t)

-- The transaction that asks the router for the zones from an index on, by GetZoneList: it has one part, and is sent
-- again after ten ticks, and at most eight times in all.
abbrev pub zone_ask : ℕ → Addr → Ask
zone_ask start router = record {
  to = router;
  socket = 6;
  parts = 1;
  exactly_once = false;
  release = 0;
  user = 8 ∷ 0 ∷ start / 256 ∷ start % 256 ∷ [];
  payload = [];
  every = 10;
  tries = 8;
}

-- the bytes of the first request of this transaction with this ID
abbrev pub ask_bytes : ℕ → Ask → List ℕ
ask_bytes id ask = bytes_of atp_packet (request_of (begun id ask))
