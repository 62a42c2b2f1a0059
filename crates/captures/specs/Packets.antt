-- The capture of a transcript: each frame that was put on a cable, as a packet on the interface of its cable.
use Rattle.std.specs.Prelude.{ℕ, ◌+◌, ◌*◌, ◌==◌, ◌&&◌, List, [], ◌∷◌, ◌++◌, Option, Some, None, drop, find, take}
use Rattle.std.specs.List.{list_any}
use Rattle.at_base.specs.declared.address.Hw.{Hw}
use Rattle.cable_model.specs.Transcript.{Entry, Frame, Lost, Put}
use Rattle.cable_model.specs.declared.seat.Seat.{Seat}
use Rattle.captures.specs.declared.head.Extent.{Extent}
use Rattle.pcapng.specs.Captures.{interface_bytes, packet_bytes, section_bytes}
use Rattle.ethertalk.specs.Frames.{max_bytes}
use Rattle.pcapng.specs.declared.packet.Packet.{Packet}

-- the hardware address of a seat, and one of zeros if there is none
abbrev pub hardware_of : Option Seat → Hw
hardware_of None = record { 0 = 0 ∷ 0 ∷ 0 ∷ 0 ∷ 0 ∷ 0 ∷ [] }
hardware_of (Some s) = s.hw

-- the hardware address of a station on a cable
abbrev pub hardware_on : List Seat → ℕ → ℕ → Hw
hardware_on seats cable station = hardware_of (find (λ s. s.cable == cable && s.station == station) seats)

-- the stamp that an entry says was lost, if it says so
abbrev pub loss : Entry → List ℕ
loss (Lost stamp) = stamp ∷ []
loss _ = []

-- the stamps that entries say were lost
abbrev pub losses : List Entry → List ℕ
losses [] = []
losses (e ∷ es) = loss e ++ losses es

-- what is the same for all packets of a tick: the seats on the cables, and the stamps of the frames that the tick lost
pub record Scene : Type 0 where
  pub seats : List Seat
  pub lost : List ℕ

-- the packet of a frame that is seen at this time: it goes to whom the frame goes, from the station that put it
abbrev pub packet_of : Scene → ℕ → Frame → Packet
packet_of scene time f = record {
  interface = f.cable;
  time = time;
  to = f.to;
  from = hardware_on scene.seats f.cable f.sender;
  kind = f.kind;
  lost = list_any (λ stamp. stamp == f.stamp) scene.lost;
}

-- the bytes of an entry's packet, where the next packet is seen at this time: a packet has the bytes of the frame, as many
-- as a frame of Ethernet holds; an entry that puts no frame has no packet
abbrev pub entry_bytes : Scene → ℕ → Entry → List ℕ
entry_bytes scene time (Put f) = packet_bytes (packet_of scene time f) (take max_bytes f.bytes)
entry_bytes scene time _ = []

-- when the packet after an entry is seen, in microseconds
abbrev pub time_after : ℕ → Entry → ℕ
time_after time (Put f) = time + 1
time_after time _ = time

-- the bytes of the packets of entries, if the first packet is seen at this time
abbrev pub entries_bytes : Scene → ℕ → List Entry → List ℕ
entries_bytes scene time [] = []
entries_bytes scene time (e ∷ es) = entry_bytes scene time e ++ entries_bytes scene (time_after time e) es

-- the bytes of the packets of a tick, which added these entries: the first is seen at its beginning, and a tick is a fifth
-- of a second
abbrev pub tick_bytes : List Seat → ℕ → List Entry → List ℕ
tick_bytes seats tick entries =
    entries_bytes (record { seats = seats; lost = losses entries }) (tick * 200000) entries

-- the bytes of the packets of ticks that follow one after the other, of which each added so many entries
abbrev pub ticks_bytes : List Seat → ℕ → List ℕ → List Entry → List ℕ
ticks_bytes seats tick [] entries = []
ticks_bytes seats tick (n ∷ ns) entries =
    tick_bytes seats tick (take n entries) ++ ticks_bytes seats (tick + 1) ns (drop n entries)

-- the bytes that describe cables as interfaces, if the first cable has this index
abbrev pub cables_bytes : ℕ → List Extent → List ℕ
cables_bytes cable [] = []
cables_bytes cable (r ∷ rs) = interface_bytes cable r.start r.end ++ cables_bytes (cable + 1) rs

-- the bytes before the packets: the section header, and an interface for each cable
abbrev pub head_bytes : List Extent → List ℕ
head_bytes cables = section_bytes ++ cables_bytes 0 cables

-- the capture of a play over cables with these ranges and seats, of which each tick, from the first on, added so many
-- entries of the transcript
abbrev pub play_capture : List Extent → List Seat → List ℕ → List Entry → List ℕ
play_capture cables seats counts entries = head_bytes cables ++ ticks_bytes seats 1 counts entries

-- the capture of a run in which no time passes, over cables with these ranges and seats
abbrev pub run_capture : List Extent → List Seat → List Entry → List ℕ
run_capture cables seats entries = head_bytes cables ++ tick_bytes seats 0 entries
