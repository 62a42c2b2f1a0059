-- How datagrams leave a station where addresses are resolved: one for a station whose hardware address isn't known is
-- held, and a request for it is sent; and what follows an AARP frame that was taken. Inside AppleTalk, the chapter on
-- AARP.
use Rattle.std.specs.Prelude.{ℕ, ◌&&◌, ◌-◌, ◌==◌, nat_lt, filter, map, if◌then◌else◌, List, [], ◌∷◌, ◌++◌, Option, Some, None, length}
use Rattle.std.specs.List.{list_any}
use Rattle.aarp.specs.Choosing.{nobody}
use Rattle.aarp.specs.Packets.{packet, written}
use Rattle.aarp.specs.declared.packet.Function.{Function}
use Rattle.aarp.specs.declared.packet.Function.TheVariants.{Request, Response, Probe}
use Rattle.aarp.specs.declared.packet.Packet.{Packet}
use Rattle.at_base.specs.Address.{same_address}
use Rattle.at_base.specs.Limits.{max_held}
use Rattle.at_base.specs.Spelling.{bytes_of}
use Rattle.at_base.specs.declared.address.Addr.{Addr}
use Rattle.table_image.specs.Internet.{Internet}
use Rattle.table_image.specs.Seats.{Seat, seats}
use Rattle.cable_model.specs.Holdings.{released_frame, still_held}
use Rattle.cable_model.specs.Outcomes.{Held, framed, held_next, leg as leg_on}
use Rattle.cable_model.specs.Outgoing.{held_entries}
use Rattle.cable_model.specs.Pending.{Pair}
use Rattle.cable_model.specs.Transcript.{Entry, Holding, Put, Sent, next_stamp}
use Rattle.cable_model.specs.declared.resolve.HeldBy.{HeldBy}
use Rattle.station.specs.Resolution.{packet_at}
use Rattle.station.specs.declared.heard.Kind.TheVariants.{Aarp}
use Rattle.legal_runs.specs.Legs.{Leg, leg_bytes, sender}
use Rattle.resolved_runs.specs.Mapped.{places_after}

-- ---- Holding and asking

-- The datagrams that the station holds on the cable, oldest first.
abbrev pub held_at : List Entry → ℕ → ℕ → List Holding
held_at t station cable = filter (λ h. h.station == station && h.cable == cable) (still_held t)

-- The stamp of the oldest of these datagrams, which is lost when one more is held, if they are as many as a port holds.
abbrev pub shed_of : List Holding → Option ℕ
shed_of [] = None
shed_of (h ∷ hs) = if nat_lt (length hs) (max_held - 1) then None else Some h.stamp

-- The seat of a station on a cable.
abbrev pub station_seats : Internet → ℕ → ℕ → List Seat
station_seats i station cable = filter (λ s. s.station == station && s.cable == cable) (seats i)

-- The request of a seat for an address.
abbrev pub request_by : Seat → Addr → Packet
request_by s a = record { function = Request; source_hw = s.hardware; source = s.address; target_hw = nobody; target = a }

-- The bytes of the request for an address, by the seat that sends it.
abbrev pub request_bytes : List Seat → Addr → Option (List ℕ)
request_bytes [] a = None
request_bytes (s ∷ ss) a = Some (bytes_of packet (written (request_by s a)))

-- A request for the address goes out if none of these datagrams is held for it.
abbrev pub request_of : Internet → ℕ → ℕ → Addr → List Holding → Option (List ℕ)
request_of i station cable a held =
    if list_any (λ h. same_address a h.next) held then None else request_bytes (station_seats i station cable) a

-- What happens when the station holds one more datagram: one may be lost, and a request may go out.
abbrev pub held_by_port : Internet → List Entry → ℕ → Held → HeldBy
held_by_port i t station w = record {
  shed = shed_of (held_at t station w.cable);
  ask = request_of i station w.cable w.next (held_at t station w.cable);
}

-- The entries of a datagram that is to be held, if there is one, after a transcript.
abbrev pub waiting_entries : Internet → List Entry → ℕ → List Held → List Entry
waiting_entries i t station [] = []
waiting_entries i t station (w ∷ ws) = held_entries t station w (held_by_port i t station w)

-- ---- Legs

-- The entries of a leg by what its station knows after a transcript, without those of a datagram that is held.
abbrev pub known_leg : Internet → List Entry → Leg → List Entry
known_leg i t l = leg_on (places_after i t l.station) (sender (next_stamp t) l) l.next (leg_bytes l)

-- The entries of a leg after a transcript.
abbrev pub resolved_leg : Internet → List Entry → Leg → List Entry
resolved_leg i t l =
    known_leg i t l
    ++ waiting_entries i (t ++ known_leg i t l) l.station (held_next (places_after i t l.station) l.cable l.next (leg_bytes l))

-- The entries of datagrams that stations made, after a transcript: each is sent, and then leaves on its cable.
abbrev pub resolved_said : Internet → List Entry → List Leg → List Entry
resolved_said i t [] = []
resolved_said i t (l ∷ ls) =
    Sent l.station l.body
    ∷ (resolved_leg i (t ++ Sent l.station l.body ∷ []) l
    ++ resolved_said i (t ++ Sent l.station l.body ∷ resolved_leg i (t ++ Sent l.station l.body ∷ []) l) ls)

-- ---- AARP frames that are taken

-- The response of a seat to a request.
abbrev pub response_by : Seat → Packet → Packet
response_by s asked =
    record { function = Response; source_hw = s.hardware; source = s.address; target_hw = asked.source_hw; target = asked.source }

-- The response to a request for an address of a seat, after a transcript: to the hardware address of the station that
-- asked.
abbrev pub answer_entries : List Entry → ℕ → Packet → List Seat → List Entry
answer_entries t cable asked [] = []
answer_entries t cable asked (s ∷ ss) =
    framed (record { stamp = next_stamp t; cable = cable; station = s.station }) asked.source_hw Aarp
    (bytes_of packet (written (response_by s asked))) ∷ []

-- The frames of the datagrams that the station holds on the cable for the source of a response, oldest first, with the
-- stamps that they were held with.
abbrev pub released : List Entry → ℕ → ℕ → Packet → List Entry
released t station cable answer =
    map (λ h. Put (released_frame h answer.source_hw)) (filter (λ h. same_address answer.source h.next) (held_at t station cable))

-- The station's response, if the packet is for its address on the cable.
abbrev pub answered : Internet → List Entry → ℕ → ℕ → Packet → List Entry
answered i t station cable p =
    answer_entries t cable p (filter (λ s. same_address p.target s.address) (station_seats i station cable))

-- The entries that follow the taking of an AARP packet, after a transcript. A probe is answered as a request is, though no
-- station whose address stays the same sends one.
abbrev pub resolving_by : Internet → List Entry → ℕ → ℕ → Packet → Function → List Entry
resolving_by i t station cable p Request = answered i t station cable p
resolving_by i t station cable p Probe = answered i t station cable p
resolving_by i t station cable p Response = released t station cable p

-- The entries that follow the taking of what an AARP frame holds, after a transcript.
abbrev pub resolving_of : Internet → List Entry → Pair → Option Packet → List Entry
resolving_of i t p None = []
resolving_of i t p (Some sent) = resolving_by i t p.seat.station p.frame.cable sent sent.function

-- The entries that follow the taking of an AARP frame, after a transcript.
abbrev pub resolving : Internet → List Entry → Pair → List Entry
resolving i t p = resolving_of i t p (packet_at p.frame.bytes)
