-- What a capture brings a station.
use Rattle.std.specs.Prelude.{ℕ, Bool, not, ◌&&◌, List, [], ◌∷◌, ◌++◌, Option, Some, None, replicate, if◌then◌else◌}
use Rattle.at_base.specs.Reading.{read, value_of}
use Rattle.cabled.specs.Acting.{Event, Heard, Tick}
use Rattle.capture_feed.specs.Clocks.{after, ticks_by}
use Rattle.capture_feed.specs.declared.clock.Clock.{Clock}
use Rattle.ethertalk.specs.Frames.{Framed, faults, frame}
use Rattle.pcapng.specs.Packets.{Packed}
use Rattle.pcapng.specs.Sections.{Told, beats, begins, describes, opens, packs, passes, skips}
use Rattle.routing.specs.Called.{port_at, port_of, with_port}
use Rattle.routing.specs.declared.called.Called.{Called}

-- so many ticks
abbrev pub ticks : ℕ → List Event
ticks n = replicate n Tick

-- the frame of EtherTalk that bytes begin with, if they do
unfoldable pub frame_at : List ℕ → Option Framed
frame_at bytes = value_of (read faults frame bytes)

-- the frame that a port hears, if there is one
abbrev pub heard_on : ℕ → Option Framed → List Event
heard_on k None = []
heard_on k (Some f) = Heard k f ∷ []

-- the frame in a packet that is there as a whole and wasn't lost, if there is one
abbrev pub frame_in : Packed → Option Framed
frame_in p = if p.whole && not p.lost then frame_at p.bytes else None

-- what a packet on the cable of a port brings, if it is on one
abbrev pub packet_on : Option ℕ → Packed → List Event
packet_on None p = []
packet_on (Some k) p = heard_on k (frame_in p)

-- What a block brings: the ticks that pass by its time, and then its frame. The ports are those of the section's
-- interfaces.
abbrev pub events_of : List (Option ℕ) → Clock → Told → List Event
events_of ports clock (packs p) = ticks (ticks_by clock p.time) ++ packet_on (port_at ports p.interface) p
events_of ports clock (beats index time) = ticks (ticks_by clock time)
events_of ports clock begins = []
events_of ports clock (opens i) = []
events_of ports clock (describes d) = []
events_of ports clock passes = []
events_of ports clock skips = []

-- the clock after a block
abbrev pub clock_after : Clock → Told → Clock
clock_after clock (packs p) = after clock p.time
clock_after clock (beats index time) = after clock time
clock_after clock begins = clock
clock_after clock (opens i) = clock
clock_after clock (describes d) = clock
clock_after clock passes = clock
clock_after clock skips = clock

-- the ports of the section's interfaces after a block
abbrev pub ports_after : List Called → List (Option ℕ) → Told → List (Option ℕ)
ports_after calls ports begins = []
ports_after calls ports (opens i) = []
ports_after calls ports (describes d) = with_port ports (port_of calls d)
ports_after calls ports (packs p) = ports
ports_after calls ports (beats index time) = ports
ports_after calls ports passes = ports
ports_after calls ports skips = ports
