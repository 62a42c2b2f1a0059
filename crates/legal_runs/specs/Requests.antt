-- NBP requests in datagrams, and the cables that they are for. Inside AppleTalk, the chapter on NBP.
use Rattle.std.specs.Prelude.{ℕ, suc, Bool, true, false, ◌&&◌, ◌||◌, ◌==◌, cond, drop, List, [], ◌∷◌, Option, Some, None, Result, Ok, Err}
use Rattle.std.specs.List.{list_any}
use Rattle.at_base.specs.Packets.{packets}
use Rattle.at_base.specs.Reading.{read}
use Rattle.at_base.specs.Text.{is_name, same_name}
use Rattle.ddp.specs.Datagram.{Datagram, datagram}
use Rattle.nbp.specs.declared.packet.Function.TheVariants.{BroadcastRequest, Lookup, ForwardRequest}
use Rattle.nbp.specs.declared.packet.Function.{Function}
use Rattle.nbp.specs.declared.tuple.Tuple.{Tuple}
use Rattle.nbp.specs.Packets.{NbpPacket, packet, key, tuple}
use Rattle.table_image.specs.Internet.{Internet}
use Rattle.table_image.specs.declared.cable.Cable.{Cable}

-- The value that was read, if reading succeeded.
abbrev pub value_of : {E A B : Type 0} → Result (A × B) E → Option A
value_of (Ok x) = Some x.0
value_of (Err e) = None

-- The NBP packet of a datagram of type 2 to socket 2.
abbrev pub packet_in : Option Datagram → Option NbpPacket
packet_in None = None
packet_in (Some d) = cond (d.kind == 2 && d.target_socket == 2) (value_of (read packets packet d.payload)) None

-- The NBP packet in the datagram with which the bytes begin.
unfoldable pub request : List ℕ → Option NbpPacket
request bytes = packet_in (value_of (read packets datagram bytes))

-- The packet is a broadcast request.
abbrev pub is_broadcast : Option NbpPacket → Bool
is_broadcast None = false
is_broadcast (Some p) = by p.function
  where
    by : Function → Bool
    by BroadcastRequest = true
    by _ = false

-- The packet is a lookup.
abbrev pub is_lookup : Option NbpPacket → Bool
is_lookup None = false
is_lookup (Some p) = by p.function
  where
    by : Function → Bool
    by Lookup = true
    by _ = false

-- The packet is a forward request.
abbrev pub is_forward : Option NbpPacket → Bool
is_forward None = false
is_forward (Some p) = by p.function
  where
    by : Function → Bool
    by ForwardRequest = true
    by _ = false

-- The key of a request: its ID and the bytes of its tuple.
abbrev pub key_in : Option NbpPacket → List ℕ
key_in None = []
key_in (Some p) = key p

-- The zone of a tuple.
abbrev pub zone_in : Option Tuple → List ℕ
zone_in None = []
zone_in (Some t) = t.zone

-- The zone in a key: that of the tuple after the ID.
unfoldable pub zone_of : List ℕ → List ℕ
zone_of k = zone_in (value_of (read packets tuple (drop 1 k)))

-- ---- The cables of a zone

-- z is a valid name, and equals one of these zones without regard to case.
abbrev pub has_zone : List ℕ → List (List ℕ) → Bool
has_zone z zones = is_name z && list_any (same_name z) zones

-- The cables that list the zone, among cables with indexes from k on.
abbrev pub listing_from : ℕ → List ℕ → List Cable → List ℕ
listing_from k z [] = []
listing_from k z (c ∷ cs) = cond (has_zone z c.zones) (k ∷ listing_from (suc k) z cs) (listing_from (suc k) z cs)

-- The indexes of the cables that list the zone, in increasing order; empty for "*", for the empty text and for bytes
-- that are not a valid name.
abbrev pub listing : Internet → List ℕ → List ℕ
listing i z = listing_from 0 z i.cables

-- The cable is in the list.
abbrev pub is_among : ℕ → List ℕ → Bool
is_among c [] = false
is_among c (d ∷ ds) = d == c || is_among c ds
