-- The packets that a router puts on its cables, and the datagrams that wait at its ports for a hardware address. (Inside
-- AppleTalk, the chapters on AARP and EtherTalk)
use Rattle.std.specs.Prelude.{ℕ, ◌+◌, List, [], ◌∷◌, ◌++◌, filter, map, not, Option, Some, None, if◌then◌else◌, slice_get, slice_set}
use Rattle.aarp.specs.Mapping.{holding, is_for, learnt, to_ask, waited}
use Rattle.aarp.specs.Packets.{packet, written}
use Rattle.aarp.specs.declared.held.Held.{Held}
use Rattle.cabled.specs.declared.put.Carried.{Carried}
use Rattle.cabled.specs.declared.put.Carried.TheVariants as carried
use Rattle.at_base.specs.Multicast.{all_hw, group_hw}
use Rattle.at_base.specs.Spelling.{bytes_of}
use Rattle.at_base.specs.declared.address.Addr.{Addr}
use Rattle.at_base.specs.declared.address.Hw.{Hw}
use Rattle.port.specs.Ports.{Ported, found, is_first, request, waiting}
use Rattle.station.specs.declared.heard.Kind.{Kind}
use Rattle.station.specs.declared.heard.Kind.TheVariants.{Ddp, Aarp}
use Rattle.station.specs.declared.output.Next.{Next}
use Rattle.station.specs.declared.output.Next.TheVariants as next
use Rattle.station.specs.declared.output.Output.{Output}
use Rattle.station.specs.declared.output.Output.TheVariants.{Made, Passed, Kept, Dropped, Wire}

-- A packet that is put on a cable: by which port, counted from 0, to which hardware address, its kind, and its bytes.
pub record Put : Type 0 where
  pub port : ℕ
  pub to : Hw
  pub kind : Kind
  pub bytes : List ℕ

-- Packets that are put, in order, and the number of further ones for which there is room.
pub record Putting : Type 0 where
  pub items : List Put
  pub spare : ℕ

-- the kind of a packet that is carried
abbrev pub kind_of : Carried → Kind
kind_of (carried.Datagram bytes) = Ddp
kind_of (carried.Written bytes) = Aarp
kind_of (carried.Packet sent) = Aarp

-- the bytes of a packet that is carried
abbrev pub bytes_in : Carried → List ℕ
bytes_in (carried.Datagram bytes) = bytes
bytes_in (carried.Written bytes) = bytes
bytes_in (carried.Packet sent) = bytes_of packet (written sent)

-- a datagram that is put by port k
abbrev pub datagram_by : ℕ → Hw → List ℕ → Put
datagram_by k to bytes = record { port = k; to = to; kind = Ddp; bytes = bytes }

-- ---- Datagrams that leave by a port

-- port k's request for the hardware address of an address, to all stations of its cable
abbrev pub asked_by : ℕ → Addr → Ported → Put
asked_by k a p = record { port = k; to = all_hw; kind = Aarp; bytes = bytes_of packet (written (request p a)) }

-- the request for an address, where no datagram waits for it yet
abbrev pub first_asked : ℕ → Addr → Ported → List Put
first_asked k a p = if is_first p a then asked_by k a p ∷ [] else []

-- the port with one more datagram that waits for an address
abbrev pub with_waiting : Addr → List ℕ → Ported → Ported
with_waiting a bytes p = record p { maps = record p.maps { held = holding (waiting a bytes) p.maps.held } }

-- a datagram for a station whose hardware address may be known: it is put, or it waits, and is asked for if it is the
-- first to wait
abbrev pub sent_to : ℕ → Addr → List ℕ → Ported → Option Hw → List Put × Ported
sent_to k a bytes p (Some to) = (datagram_by k to bytes ∷ [], p)
sent_to k a bytes p None = (first_asked k a p, with_waiting a bytes p)

-- a datagram that leaves by port k, and the port after it
abbrev pub sent : ℕ → Next → List ℕ → Ported → List Put × Ported
sent k next.All bytes p = (datagram_by k all_hw bytes ∷ [], p)
sent k (next.Group g) bytes p = (datagram_by k (group_hw g) bytes ∷ [], p)
sent k (next.Station a) bytes p = sent_to k a bytes p (found p a)

-- a datagram that leaves by a port, if there is such a port, and the ports after it
abbrev pub sent_at : ℕ → Next → List ℕ → List Ported → Option Ported → List Put × List Ported
sent_at k next bytes ports None = ([], ports)
sent_at k next bytes ports (Some p) = ((sent k next bytes p).0, slice_set ports k (sent k next bytes p).1)

-- what is put for an output of the router, and the ports after it: an AARP packet is put, a datagram leaves by its port
abbrev pub dressed : Output → List Ported → List Put × List Ported
dressed (Made k next bytes) ports = sent_at k next bytes ports (slice_get ports k)
dressed (Passed k next bytes) ports = sent_at k next bytes ports (slice_get ports k)
dressed (Kept k bytes) ports = ([], ports)
dressed (Dropped cause bytes) ports = ([], ports)
dressed (Wire k to bytes) ports = (record { port = k; to = to; kind = Aarp; bytes = bytes } ∷ [], ports)

-- what is put for some outputs, one after the other, and the ports after them
abbrev pub all_dressed : List Output → List Ported → List Put × List Ported
all_dressed [] ports = ([], ports)
all_dressed (o ∷ os) ports =
    ((dressed o ports).0 ++ (all_dressed os (dressed o ports).1).0, (all_dressed os (dressed o ports).1).1)

-- ---- Datagrams that wait

-- the datagrams that wait for an address are put by port k to a hardware address, oldest first
abbrev pub released_by : ℕ → Addr → Hw → List Held → List Put
released_by k a to held = map (λ h. datagram_by k to h.bytes) (filter (is_for a) held)

-- the port after it learnt a mapping, and nothing waits for the address any more
abbrev pub with_answer : Addr → Hw → Ported → Ported
with_answer a hw p = record p {
  maps = record { known = learnt a hw p.maps.known; held = filter (λ h. not (is_for a h)) p.maps.held };
}

-- the requests of port k in a tick
abbrev pub asked_again : ℕ → Ported → List Put
asked_again k p = map (λ a. asked_by k a p) (to_ask p.maps.held)

-- the requests of the ports in a tick, which are numbered from k
abbrev pub all_asked : ℕ → List Ported → List Put
all_asked k [] = []
all_asked k (p ∷ ps) = asked_again k p ++ all_asked (k + 1) ps

-- a port after a tick: what waits for an address that is given up is gone
abbrev pub with_tick : Ported → Ported
with_tick p = record p { maps = record p.maps { held = waited p.maps.held } }
