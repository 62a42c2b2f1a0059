-- A router's answers to requests for routing data. (Inside AppleTalk, the chapter on RTMP)
use Rattle.std.specs.Prelude.{ℕ, Bool, not, ◌&&◌, ◌||◌, ◌==◌, List, [], ◌∷◌, ◌++◌, map, option_to_list, Option, Some, None}
use Rattle.std.specs.Prelude.{if◌then◌else◌, slice_get}
use Rattle.aarp.specs.Choosing.{Choice}
use Rattle.at_base.specs.Range.{Span}
use Rattle.at_base.specs.Spelling.{bytes_of}
use Rattle.at_base.specs.declared.address.Addr.{Addr}
use Rattle.ddp.specs.Datagram.{Datagram}
use Rattle.router.specs.Forwarding.{course}
use Rattle.router.specs.Holding.{Holding, own_at}
use Rattle.router.specs.Ways.{way_back}
use Rattle.router.specs.declared.course.Ending.{Ending}
use Rattle.rtmp.specs.Data.{RoutingData, routing_data}
use Rattle.rtmp.specs.Requests.{request_in}
use Rattle.rtmp.specs.Sending.{packet_numbered, response_of}
use Rattle.rtmp.specs.declared.request.Horizon.{Horizon}
use Rattle.rtmp.specs.declared.request.Request.{Request}
use Rattle.rtmp.specs.declared.request.Request.TheVariants.{Router, Routes}
use Rattle.rtmp.specs.declared.row.Row.{Row}
use Rattle.station.specs.Hearing.{Hearing}
use Rattle.station.specs.Making.{made}
use Rattle.station.specs.Ports.{has}
use Rattle.station.specs.Values.{datagram_at}
use Rattle.station.specs.Ways.{checks, is_to}
use Rattle.station.specs.declared.heard.Kind.{Kind}
use Rattle.station.specs.declared.heard.Kind.TheVariants.{Ddp, Aarp}
use Rattle.station.specs.declared.output.Output.{Output}
use Rattle.station.specs.declared.way.Way.{Way}

-- a request for routing data is for this router: it came to all nodes of the cable, or to node 0, or to the address of
-- the port on whose cable it ended
abbrev pub is_asked : List Choice → Ending → Datagram → Bool
is_asked ports e d = not e.is_own || d.target.node == 0 || has d.target (own_at ports e.port)

-- the packets of a router's rows on a port, whose cable has this range: a table of at most 200 rows gives at most three
abbrev pub packets_of : Horizon → ℕ → Span → Addr → List Row → List RoutingData
packets_of horizon k range me rows =
    option_to_list (packet_numbered horizon k range me 0 rows) ++ option_to_list (packet_numbered horizon k range me 1 rows)
    ++ option_to_list (packet_numbered horizon k range me 2 rows)

-- the packets with which a router of this address answers a request on a port, whose cable has this range
abbrev pub packets_asked : ℕ → Span → Addr → List Row → Request → List RoutingData
packets_asked k range me rows Router = response_of me range ∷ []
packets_asked k range me rows (Routes horizon) = packets_of horizon k range me rows

-- the way back as that of routing data, which is a datagram of type 1
abbrev pub as_data : Way → Way
as_data w = record w { header = record w.header { kind = 1 } }

-- the answers to a request on the way back from a port with this choice, if there are a request, a way and a port
abbrev pub answered : ℕ → List Row → Option Choice → Option Way → Option Request → List Output
answered k rows (Some c) (Some w) (Some r) =
    map (λ p. made (as_data w) (bytes_of routing_data p)) (packets_asked k c.range w.header.source rows r)
answered k rows (Some c) (Some w) None = []
answered k rows (Some c) None r = []
answered k rows None w r = []

-- a datagram is a request for routing data: of type 5 and for socket 1, and its checksum is right
abbrev pub asks : Datagram → Bool
asks d = is_to 5 1 d && checks d

-- the answers to a datagram that ended at the router
abbrev pub asked_by_ended : Holding → Ending → Datagram → List Output
asked_by_ended h e d =
    if asks d && is_asked h.ports e d
    then answered e.port h.routes (slice_get h.ports e.port) (way_back h e.port d) (request_in d.payload) else []

-- the answers to a datagram by how it ended at the router, if it did
abbrev pub asked_by_ending : Holding → Option Ending → Datagram → List Output
asked_by_ending h None d = []
asked_by_ending h (Some e) d = asked_by_ended h e d

-- the answers to the datagram in a frame, if there is one
abbrev pub asked_by_datagram : Holding → Hearing → Option Datagram → List Output
asked_by_datagram h x None = []
asked_by_datagram h x (Some d) = asked_by_ending h (course h.ports h.routes x.port x.link d.hops d.target).ending d

-- the answers to what is in a frame of this kind
abbrev pub asked_by_kind : Kind → Holding → Hearing → List Output
asked_by_kind Ddp h x = asked_by_datagram h x (datagram_at x.bytes)
asked_by_kind Aarp h x = []

-- The answers of a router to a frame with a request for routing data.
abbrev pub routes_asked : Holding → Hearing → List Output
routes_asked h x = asked_by_kind x.kind h x
