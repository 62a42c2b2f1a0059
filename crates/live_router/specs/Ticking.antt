-- A tick of a live router. (Inside AppleTalk, the chapters on AARP, RTMP and ZIP; the order within a tick, and what is
-- left out if a table has no room, are this project's own)
use Rattle.std.specs.Prelude.{◌≡◌, ℕ, ◌+◌, ◌%◌, Bool, false, not, ◌&&◌, ◌==◌, List, [], ◌∷◌, ◌++◌, length, map, nat_lt, option_to_list}
use Rattle.std.specs.Prelude.{Option, Some, None, if◌then◌else◌}
use Rattle.aarp.specs.Choosing.{Choice, settled, ticked}
use Rattle.at_base.specs.Range.{Span}
use Rattle.at_base.specs.Spelling.{bytes_of}
use Rattle.at_base.specs.declared.address.Addr.{Addr}
use Rattle.atp.specs.Responding.{ticked as requests_ticked}
use Rattle.ddp.specs.declared.header.Header.{Header}
use Rattle.learning.specs.Forgetting.{without_gone}
use Rattle.learning.specs.Queries.{queries_of}
use Rattle.learning.specs.declared.query.Query.{Query}
use Rattle.live_router.specs.Living.{Living}
use Rattle.router.specs.Holding.{Holding, own_at}
use Rattle.rtmp.specs.Data.{RoutingData, routing_data}
use Rattle.rtmp.specs.Routes.{aged, beside, directed}
use Rattle.rtmp.specs.Sending.{packet_numbered}
use Rattle.rtmp.specs.declared.request.Horizon.TheVariants.{Split}
use Rattle.rtmp.specs.declared.row.Row.{Row}
use Rattle.station.specs.Making.{made}
use Rattle.station.specs.declared.output.Next.TheVariants as next
use Rattle.station.specs.declared.output.Output.{Output}
use Rattle.station.specs.declared.way.Way.{Way}
use Rattle.zip_zones.specs.Formats.{packet as spelled_packet}
use Rattle.zip_zones.specs.Zones.{Known}
use Rattle.zip_zones.specs.declared.packet.Packet.TheVariants.{Query as QueryPacket}
use Rattle.station.specs.Resolution.{probed}
use Rattle.at_base.specs.Limits.{max_rows}

-- ---- Addresses

-- the choices of the ports after a tick
abbrev pub ports_ticked : List Choice → List Choice
ports_ticked ports = map (λ c. (ticked c).0) ports

-- the probes of a tick, on the ports, which are numbered from k
abbrev pub probes : ℕ → List Choice → List Output
probes k [] = []
probes k (c ∷ cs) = probed k (ticked c).1 ++ probes (k + 1) cs

-- ---- Tables

-- the port settles in this tick
abbrev pub settles : Choice → Bool
settles c = not c.is_settled && (ticked c).0.is_settled

-- The rows after port k settled on a cable with this range: the range gets a direct row, unless the table has no room
-- for it.
abbrev pub joined : Span → ℕ → List Row → List Row
joined range k rows = if nat_lt (length (beside range rows)) max_rows then directed range k rows else rows

-- The rows after a tick's settling of ports, which are numbered from k: each port that settles gets a direct row.
abbrev pub all_joined : ℕ → List Choice → List Row → List Row
all_joined k [] rows = rows
all_joined k (c ∷ cs) rows = all_joined (k + 1) cs (if settles c then joined c.range k rows else rows)

-- The phase of the next tick: phases count from 0 to 99 and begin again.
abbrev pub phase_after : ℕ → ℕ
phase_after phase = (phase + 1) % 100

-- The rows after a tick in this phase: they age in phase 0.
abbrev pub routes_aged : ℕ → List Row → List Row
routes_aged phase rows = if phase == 0 then aged rows else rows

-- The zone table after a tick in this phase: in phase 0 the zone lists of removed rows are removed.
abbrev pub zones_aged : ℕ → List Row → List Known → List Known
zones_aged phase rows zones = if phase == 0 then without_gone rows zones else zones

-- ---- Routing data and queries

-- the header of a datagram that the router makes, from this address, and from a socket to the same socket
abbrev pub header_of : Addr → Addr → ℕ → ℕ → Header
header_of source target socket kind = record {
  summed = false;
  target = target;
  source = source;
  target_socket = socket;
  source_socket = socket;
  kind = kind;
}

-- the way of routing data: on port k to all stations of the cable, from socket 1 to socket 1
abbrev pub data_way : ℕ → Addr → Way
data_way k me = record { port = k; next = next.All; header = header_of me (record { net = 0; node = 255 }) 1 1 }

-- The packets of routing data on port k, for a cable with this range: a table of at most 200 rows gives at most three.
abbrev pub packets_for : ℕ → Span → Addr → List Row → List RoutingData
packets_for k range me rows = option_to_list (packet_numbered Split k range me 0 rows)
    ++ option_to_list (packet_numbered Split k range me 1 rows) ++ option_to_list (packet_numbered Split k range me 2 rows)

-- the routing data on port k, if the port is settled
abbrev pub data_by : ℕ → Span → Option Addr → List Row → List Output
data_by k range None rows = []
data_by k range (Some me) rows =
    map (λ p. made (data_way k me) (bytes_of routing_data p)) (packets_for k range me rows)

-- the routing data on the settled ones of the ports, which are numbered from k
abbrev pub data_from : ℕ → List Choice → List Row → List Output
data_from k [] rows = []
data_from k (c ∷ cs) rows = data_by k c.range (settled c) rows ++ data_from (k + 1) cs rows

-- the query about a range, from the address of the port on which it leaves, if that is settled
abbrev pub query_from : Option Addr → Query → List Output
query_from None q = []
query_from (Some me) q =
    made (record { port = q.port; next = next.Station q.next; header = header_of me q.next 6 6 })
    (bytes_of spelled_packet (QueryPacket (q.start ∷ []))) ∷ []

-- the queries whose ports are settled, in order
abbrev pub all_queries : List Choice → List Query → List Output
all_queries ports [] = []
all_queries ports (q ∷ qs) = query_from (own_at ports q.port) q ++ all_queries ports qs

-- The routing data and queries that a router sends in a tick in this phase: only in every fiftieth tick.
abbrev pub sent_by : ℕ → Holding → List Output
sent_by phase h =
    if phase % 50 == 0 then data_from 0 h.ports h.routes ++ all_queries h.ports (queries_of h.routes h.zones) else []

-- ---- A tick

-- The router after a tick in this phase: first the choice of each port advances, and the cables of ports that settle
-- get direct rows; then rows age.
abbrev pub router_after : ℕ → Holding → Holding
router_after phase h = record {
  ports = ports_ticked h.ports;
  routes = routes_aged phase (all_joined 0 h.ports h.routes);
  zones = zones_aged phase (all_joined 0 h.ports h.routes) h.zones;
  requests = requests_ticked h.requests;
}

-- The outputs of a live router in a tick, and its state after it: probes, then routing data, then queries for zone
-- lists.
abbrev pub ticked_live : Living → List Output × Living
ticked_live l = (
  probes 0 l.router.ports ++ sent_by (phase_after l.phase) (router_after (phase_after l.phase) l.router),
  record { router = router_after (phase_after l.phase) l.router; phase = phase_after l.phase },
)

-- a live router in state old has these outputs in a tick, and is in state new after it
abbrev pub LiveTicks : Living → List Output → Living → Type 0
LiveTicks old added new = (added, new) ≡ ticked_live old
