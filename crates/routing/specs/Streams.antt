-- The capture that a station writes.
use Rattle.std.specs.Prelude.{ℕ, false, List, [], ◌∷◌, ◌++◌, Option, Some, None, replicate, slice_get, take}
use Rattle.std.specs.List.{flat_map}
use Rattle.at_base.specs.declared.address.Hw.{Hw}
use Rattle.cabled.specs.Acting.{Acting, Event}
use Rattle.cabled.specs.Putting.{Put}
use Rattle.ethertalk.specs.Frames.{max_bytes}
use Rattle.pcapng.specs.Captures.{heartbeat_bytes, interface_bytes, packet_bytes, section_bytes}
use Rattle.pcapng.specs.Sections.{Told, beats, begins, describes, opens, packs, passes, skips}
use Rattle.pcapng.specs.declared.packet.Packet.{Packet}
use Rattle.port.specs.Ports.{Ported}
use Rattle.routing.specs.declared.cable.Cable.{Cable}

-- the hardware address of a port, if there is such a port
abbrev pub hardware : Option Ported → Hw
hardware None = record { 0 = replicate 6 0 }
hardware (Some p) = p.hw

-- a packet that a port puts at a time, as a capture tells it: its interface is the port's
abbrev pub packet_put : List Ported → ℕ → Put → Packet
packet_put ports time p = record {
  interface = p.port;
  time = time;
  to = p.to;
  from = hardware (slice_get ports p.port);
  kind = p.kind;
  lost = false;
}

-- the block of such a packet; a frame holds at most 1,492 bytes of it
abbrev pub put_bytes : List Ported → ℕ → Put → List ℕ
put_bytes ports time p = packet_bytes (packet_put ports time p) (take max_bytes p.bytes)

-- the blocks of packets that are put at a time, in order
abbrev pub puts_bytes : List Ported → ℕ → List Put → List ℕ
puts_bytes ports time ps = flat_map (put_bytes ports time) ps

-- the blocks of what a station puts for an event at a time
abbrev pub event_bytes : {S : Type 0} → Acting S → ℕ → S → Event → List ℕ
event_bytes acts time s e = puts_bytes (acts.ports (acts.step s e).1) time (acts.step s e).0

-- a heartbeat is answered by one
abbrev pub answer_bytes : Told → List ℕ
answer_bytes (beats index time) = heartbeat_bytes time
answer_bytes begins = []
answer_bytes (opens i) = []
answer_bytes (describes d) = []
answer_bytes (packs p) = []
answer_bytes passes = []
answer_bytes skips = []

-- the time of what a block says
abbrev pub time_of : Told → ℕ
time_of (beats index time) = time
time_of (packs p) = p.time
time_of begins = 0
time_of (opens i) = 0
time_of (describes d) = 0
time_of passes = 0
time_of skips = 0

-- the description of the cable of a port
abbrev pub cable_bytes : Cable → List ℕ
cable_bytes c = interface_bytes c.index c.start c.end

-- what stands before the first packet: the section header, and an interface for each port, in order
abbrev pub head_bytes : List Cable → List ℕ
head_bytes cables = section_bytes ++ flat_map cable_bytes cables
