-- The lookups and forward requests that a router makes for NBP requests. (Inside AppleTalk, the chapter on NBP)
use Rattle.std.specs.Prelude.{ℕ, cond, List, [], ◌∷◌, map, Option, Some, None, position}
use Rattle.std.specs.List.{flat_map}
use Rattle.aarp.specs.Choosing.{Choice}
use Rattle.at_base.specs.Multicast.{group_of}
use Rattle.at_base.specs.Range.{Span, is_between}
use Rattle.at_base.specs.Spelling.{bytes_of}
use Rattle.at_base.specs.Text.{is_name}
use Rattle.at_base.specs.declared.address.Addr.{Addr}
use Rattle.ddp.specs.Datagram.{Datagram}
use Rattle.ddp.specs.declared.header.Header.{Header}
use Rattle.nbp.specs.Expansion.{asks}
use Rattle.nbp.specs.Packets.{NbpPacket, packet, packet_of}
use Rattle.nbp.specs.declared.expansion.Ask.{Ask}
use Rattle.nbp.specs.declared.expansion.Ask.TheVariants as ask
use Rattle.nbp.specs.declared.packet.Function.{Function}
use Rattle.nbp.specs.declared.packet.Function.TheVariants.{BroadcastRequest, Lookup, Reply, ForwardRequest}
use Rattle.nbp.specs.declared.tuple.Tuple.{Tuple}
use Rattle.station.specs.Ways.{is_summed, nobody, replying, way_from}
use Rattle.station.specs.declared.output.Next.TheVariants as next
use Rattle.station.specs.declared.output.Output.{Output}
use Rattle.station.specs.declared.way.Way.{Way}
use Rattle.router.specs.Holding.{Holding, hand, own_at}
use Rattle.router.specs.Ways.{way_by}
use Rattle.router.specs.declared.request.Request.{Request}

-- the address that means every node of a cable
abbrev pub every_node : Addr
every_node = record { net = 0; node = 255 }

-- the address that means any router of a network
abbrev pub any_router : ℕ → Addr
any_router net = record { net = net; node = 0 }

-- The header of a lookup or forward request for a target: it carries a checksum if the request that the router received
-- did.
abbrev pub request_header : Request → Addr → Header
request_header r target = record {
  summed = r.summed;
  target = target;
  source = nobody;
  target_socket = 2;
  source_socket = 2;
  kind = 2;
}

-- the bytes of a request with another function, and the same ID and tuple
abbrev pub renamed : Function → Request → List ℕ
renamed function r = bytes_of packet (packet_of function r.id r.tuple)

-- the way of a lookup on a port: to the nodes whose zone has the group
abbrev pub lookup_way : Holding → Request → ℕ → Option Way
lookup_way h r q = way_from (own_at h.ports q) q (next.Group (group_of r.tuple.zone)) (request_header r every_node)

-- the way of a forward request to a network, with the address of the port on which it leaves as source
abbrev pub forward_way : Holding → Request → ℕ → Option Way
forward_way h r net = way_by (hand h.routes net) (own_at h.ports) (request_header r (any_router net))

-- the lookup on a port for a request
abbrev pub looked_by : Holding → Request → ℕ → List Output
looked_by h r q = replying (lookup_way h r q) (renamed Lookup r ∷ [])

-- the lookup or forward request for a request
abbrev pub asked : Holding → Request → Ask → List Output
asked h r (ask.Lookup q) = looked_by h r q
asked h r (ask.Forward net) = replying (forward_way h r net) (renamed ForwardRequest r ∷ [])

-- the lookup on a port for a request, if there is a port
abbrev pub looked_on : Holding → Request → Option ℕ → List Output
looked_on h r None = []
looked_on h r (Some q) = looked_by h r q

-- the lookup for a forward request to a network, on the first port whose range holds it
abbrev pub looked_up : Holding → Request → ℕ → List Output
looked_up h r net = looked_on h r (position (λ c. is_between c.range.start c.range.end net) h.ports)

-- the ranges of ports
abbrev pub ranges : List Choice → List Span
ranges ports = map (λ c. c.range) ports

-- The outputs for a request to a network, by its function: for a broadcast request the lookups and forward requests for
-- its zone, for a forward request whose zone is a zone name a lookup, and otherwise none.
abbrev pub made_of : Holding → Function → Request → ℕ → List Output
made_of h BroadcastRequest r net = flat_map (asked h r) (asks (ranges h.ports) r.tuple.zone h.zones)
made_of h ForwardRequest r net = cond (is_name r.tuple.zone) (looked_up h r net) []
made_of h Lookup r net = []
made_of h Reply r net = []

-- the outputs for the first of these tuples of a packet in a datagram
abbrev pub made_by : Holding → Datagram → NbpPacket → List Tuple → List Output
made_by h d p [] = []
made_by h d p (t ∷ ts) = made_of h p.function (record { summed = is_summed d; id = p.id; tuple = t }) d.target.net

-- the outputs for the NBP packet in a datagram that ended at the router
abbrev pub requests_made : Holding → Datagram → Option NbpPacket → List Output
requests_made h d None = []
requests_made h d (Some p) = made_by h d p p.tuples
