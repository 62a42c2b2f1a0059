-- A station's knowledge of the other stations on live cables.
use Rattle.std.specs.Prelude.{ℕ, Bool, false, ◌&&◌, ◌==◌, not, List, [], Option, Some, None, if◌then◌else◌, position, slice_get}
use Rattle.std.specs.List.{list_any}
use Rattle.aarp.specs.Choosing.{nobody}
use Rattle.aarp.specs.Mapping.{Mappings, is_for, mapping_of}
use Rattle.aarp.specs.declared.held.Held.{Held}
use Rattle.aarp.specs.declared.packet.Function.{Function}
use Rattle.aarp.specs.declared.packet.Function.TheVariants.{Request, Response, Probe}
use Rattle.aarp.specs.declared.packet.Packet.{Packet}
use Rattle.at_base.specs.Address.{same_address}
use Rattle.at_base.specs.Range.{Span, is_between}
use Rattle.at_base.specs.declared.address.Addr.{Addr}
use Rattle.at_base.specs.declared.address.Hw.{Hw}
use Rattle.cable_model.specs.Outcomes.{Places}
use Rattle.cable_model.specs.declared.resolve.Found.{Found}
use Rattle.cable_model.specs.declared.resolve.Found.TheVariants.{At, Later}
use Rattle.cable_model.specs.declared.seat.Seat.{Seat}
use Rattle.live_cables.specs.declared.answer.Answer.{Answer}
use Rattle.station.specs.Hearing.{Hearing}
use Rattle.station.specs.Resolution.{packet_at}
use Rattle.station.specs.declared.heard.Kind.{Kind}
use Rattle.station.specs.declared.heard.Kind.TheVariants.{Ddp, Aarp}

-- What one station knows of the others, with what all of them know: the station; the seats; for each seat its settled
-- address, if it has one, and its mappings; and the ranges of the cables.
pub record Knowing : Type 0 where
  pub station : ℕ
  pub seats : List Seat
  pub own : List (Option Addr)
  pub maps : List Mappings
  pub ranges : List Span

-- The index of a station's seat on a cable.
abbrev pub seat_on : List Seat → ℕ → ℕ → Option ℕ
seat_on seats cable station = position (λ s. s.cable == cable && s.station == station) seats

-- The index of the seat of a station's port.
abbrev pub seat_by : List Seat → ℕ → ℕ → Option ℕ
seat_by seats station port = position (λ s. s.station == station && s.port == port) seats

-- The seat has a settled address, which is this one.
abbrev pub is_own : Option (Option Addr) → Addr → Bool
is_own None a = false
is_own (Some None) a = false
is_own (Some (Some own)) a = same_address own a

-- The hardware address of a seat, and Later if there is no seat.
abbrev pub hw_of : Option Seat → Found
hw_of None = Later
hw_of (Some s) = At s.hw

-- The hardware address of an address by a seat's mappings, and Later if they don't have it.
abbrev pub mapped : Option Mappings → Addr → Found
mapped None a = Later
mapped (Some m) a = known (mapping_of a m.known)
  where
    known : Option Hw → Found
    known None = Later
    known (Some hw) = At hw

-- The hardware address of an address as a seat knows it: its own hardware address for its settled address, and
-- otherwise by its mappings.
abbrev pub found_at : List Seat → List (Option Addr) → List Mappings → Option ℕ → Addr → Found
found_at seats own maps None a = Later
found_at seats own maps (Some k) a =
    if is_own (slice_get own k) a then hw_of (slice_get seats k) else mapped (slice_get maps k) a

-- One of the ranges holds the network, which isn't 0.
abbrev pub is_listed : List Span → ℕ → Bool
is_listed ranges net = not (net == 0) && list_any (λ r. is_between r.start r.end net) ranges

-- The content of an AARP packet that is a response.
abbrev pub said : ℕ → Option Packet → Option Answer
said port None = None
said port (Some p) = by p.function
  where
    by : Function → Option Answer
    by Request = None
    by Response = Some (record { port = port; source = p.source; source_hw = p.source_hw })
    by Probe = None

-- The content of a response that a station hears.
abbrev pub answer_of : Hearing → Option Answer
answer_of h = by h.kind
  where
    by : Kind → Option Answer
    by Ddp = None
    by Aarp = said h.port (packet_at h.bytes)

-- The datagrams that are held at a seat.
abbrev pub held_at : List Mappings → ℕ → List Held
held_at maps k = of (slice_get maps k)
  where
    of : Option Mappings → List Held
    of None = []
    of (Some m) = m.held

-- The settled address of a seat, and 0.0 if it has none.
abbrev pub own_or_none : Option (Option Addr) → Addr
own_or_none None = record { net = 0; node = 0 }
own_or_none (Some None) = record { net = 0; node = 0 }
own_or_none (Some (Some own)) = own

-- The AARP request of a seat for the hardware address of an address.
abbrev pub request_for : Hw → Addr → Addr → Packet
request_for hw own a = record { function = Request; source_hw = hw; source = own; target_hw = nobody; target = a }

-- There is such a seat, and no datagram is held at it for the address.
abbrev pub is_first_for : List Mappings → ℕ → Addr → Bool
is_first_for maps k a = of (slice_get maps k)
  where
    of : Option Mappings → Bool
    of None = false
    of (Some m) = not (list_any (is_for a) m.held)

-- A station's knowledge of others, by its seats' mappings, and which networks have a range.
abbrev pub places_of : Knowing → Places
places_of k = record {
  finds = λ cable a. found_at k.seats k.own k.maps (seat_on k.seats cable k.station) a;
  lists = λ net. is_listed k.ranges net;
}
