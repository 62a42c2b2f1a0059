-- The routing data that a router sends on a port. (Inside AppleTalk, the chapter on RTMP)
use Rattle.std.specs.Prelude.{◌≡◌, ℕ, ◌*◌, Bool, not, ◌||◌, ◌==◌, List, [], ◌∷◌, length, map, filter, take, drop, Option, Some, None, nat_lt}
use Rattle.std.specs.Prelude.{if◌then◌else◌}
use Rattle.at_base.specs.declared.address.Addr.{Addr}
use Rattle.at_base.specs.Range.{Span}
use Rattle.rtmp.specs.States.{is_usable}
use Rattle.rtmp.specs.declared.request.Horizon.{Horizon}
use Rattle.rtmp.specs.declared.request.Horizon.TheVariants.{Split, Whole}
use Rattle.rtmp.specs.declared.row.Row.{Row}
use Rattle.rtmp.specs.Routes.{is_direct}
use Rattle.rtmp.specs.declared.tuple.Tuple.{Tuple}
use Rattle.at_base.specs.Spelling.{Spells}
use Rattle.rtmp.specs.Data.{RoutingData, data_of, routing_data}

-- a row is sent on a port: with split horizon, if it leaves by another port; without it also if it leaves by this one, but
-- for the direct row of this port's cable, whose range stands first in each packet
abbrev pub is_sent : Horizon → ℕ → Row → Bool
is_sent Split port r = not (r.port == port)
is_sent Whole port r = not (r.port == port) || not (is_direct r)

-- the rows that a router sends on a port
abbrev pub rows_sent : Horizon → ℕ → List Row → List Row
rows_sent horizon port rows = filter (λ r. is_sent horizon port r) rows

-- the tuple sent for a row: its distance, or 31 if the row isn't usable
abbrev pub sent_tuple : Row → Tuple
sent_tuple r = record { range = r.range; distance = if is_usable r.state then r.distance else 31 }

-- the port's own range at distance 0, the first tuple of each packet
abbrev pub own_tuple : Span → Tuple
own_tuple own = record { range = own; distance = 0 }

-- The packet numbered n, from 0, with the own range and the n-th 96 rows that are sent on the port; the first packet is
-- always sent, later ones while rows are left.
abbrev pub packet_numbered : Horizon → ℕ → Span → Addr → ℕ → List Row → Option RoutingData
packet_numbered horizon port own me n rows =
    if n == 0 || nat_lt (n * 96) (length (rows_sent horizon port rows))
    then Some (data_of me (own_tuple own ∷ map sent_tuple (take 96 (drop (n * 96) (rows_sent horizon port rows)))))
    else None

-- the response to a request for the router of a cable: its address, and the cable's range
abbrev pub response_of : Addr → Span → RoutingData
response_of me own = data_of me (own_tuple own ∷ [])

-- the bytes are those of the packet, if one is sent, else none
abbrev pub IsPacket : Option RoutingData → Option (List ℕ) → Type 0
IsPacket None bytes = bytes ≡ None
IsPacket (Some p) None = ⊥
IsPacket (Some p) (Some bytes) = Spells routing_data bytes p
