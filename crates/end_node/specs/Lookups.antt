-- A node's replies to lookups. (Inside AppleTalk, the chapter on NBP)
use Rattle.std.specs.Prelude.{ℕ, Bool, ◌||◌, ◌==◌, cond, List, [], ◌∷◌, map, length, Option, Some, None}
use Rattle.aarp.specs.Choosing.{settled}
use Rattle.at_base.specs.Spelling.{bytes_of}
use Rattle.at_base.specs.Text.{is_only, same_name}
use Rattle.at_base.specs.declared.address.Addr.{Addr}
use Rattle.ddp.specs.Datagram.{Datagram}
use Rattle.ddp.specs.declared.header.Header.{Header}
use Rattle.nbp.specs.Packets.{NbpPacket, packet, packet_of}
use Rattle.nbp.specs.Registered.{answers}
use Rattle.nbp.specs.declared.packet.Function.{Function}
use Rattle.nbp.specs.declared.packet.Function.TheVariants.{BroadcastRequest, Lookup, Reply, ForwardRequest}
use Rattle.nbp.specs.declared.tuple.Tuple.{Tuple}
use Rattle.station.specs.Ways.{is_summed, nobody, replying}
use Rattle.station.specs.declared.output.Output.{Output}
use Rattle.end_node.specs.Holding.{NodeHolding}
use Rattle.end_node.specs.Ways.{reply_way}

-- the zone means the receiver's own: it is empty or *
abbrev pub is_any : List ℕ → Bool
is_any zone = length zone == 0 || is_only 42 zone

-- a node in zone own is in the zone of a lookup
abbrev pub is_in : List ℕ → List ℕ → Bool
is_in own zone = is_any zone || same_name zone own

-- the tuple with this address and zone
abbrev pub named_at : Addr → List ℕ → Tuple → Tuple
named_at own zone t = record t { at = own; zone = zone }

-- the bytes of the reply with a tuple to a lookup with this ID
abbrev pub reply_of : Addr → List ℕ → ℕ → Tuple → List ℕ
reply_of own zone id t = bytes_of packet (packet_of Reply id (named_at own zone t))

-- The header of the replies to a lookup: to the socket that asked, with a checksum if the lookup had one.
abbrev pub answer_header : Bool → Tuple → Header
answer_header summed t = record {
  summed = summed;
  target = t.at;
  source = nobody;
  target_socket = t.socket;
  source_socket = 2;
  kind = 2;
}

-- The replies to a lookup with this ID from the node's address, if it has one: one for each name that matches.
abbrev pub replies : NodeHolding → Bool → ℕ → Tuple → Option Addr → List Output
replies h summed id t None = []
replies h summed id t (Some own) =
    replying (reply_way h (answer_header summed t)) (map (reply_of own h.zone id) (answers t.object t.kind h.names))

-- The replies of a node to a lookup; none if the lookup is for another zone.
abbrev pub looked_up : NodeHolding → Bool → ℕ → Tuple → List Output
looked_up h summed id t = cond (is_in h.zone t.zone) (replies h summed id t (settled h.port)) []

-- The replies of a node to a packet with this function and first tuple; only lookups are answered.
abbrev pub told_by : NodeHolding → Bool → ℕ → Tuple → Function → List Output
told_by h summed id t BroadcastRequest = []
told_by h summed id t Lookup = looked_up h summed id t
told_by h summed id t Reply = []
told_by h summed id t ForwardRequest = []

-- the replies of a node to a packet, by the first of its tuples
abbrev pub told_of : NodeHolding → Bool → NbpPacket → List Tuple → List Output
told_of h summed p [] = []
told_of h summed p (t ∷ ts) = told_by h summed p.id t p.function

-- the replies of a node to a datagram with this NBP packet, if there is one
abbrev pub told : NodeHolding → Datagram → Option NbpPacket → List Output
told h d None = []
told h d (Some p) = told_of h (is_summed d) p p.tuples
