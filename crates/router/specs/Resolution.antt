-- A router's handling of AARP packets. (Inside AppleTalk, the chapter on AARP)
use Rattle.std.specs.Prelude.{ℕ, List, [], Option, Some, None, slice_get, slice_set}
use Rattle.aarp.specs.Choosing.{Choice, heard, told_range}
use Rattle.at_base.specs.Range.{Span}
use Rattle.aarp.specs.declared.packet.Packet.{Packet}
use Rattle.station.specs.Resolution.{answer_by, wired}
use Rattle.station.specs.declared.output.Output.{Output}

-- the output for an AARP packet on a port: the port's response, if there is one
abbrev pub resolved : List Choice → ℕ → Option Packet → List Output
resolved ports p None = []
resolved ports p (Some sent) = wired p (answer_by sent (slice_get ports p))

-- the ports after the choice of port p, if there is such a port, received a packet
abbrev pub with_choice : List Choice → ℕ → Packet → Option Choice → List Choice
with_choice ports p sent None = ports
with_choice ports p sent (Some c) = slice_set ports p (heard sent c)

-- The ports after port p received an AARP packet: if the port is still choosing its address, it moves to its next
-- address if the packet conflicts.
abbrev pub ports_after : List Choice → ℕ → Option Packet → List Choice
ports_after ports p None = ports
ports_after ports p (Some sent) = with_choice ports p sent (slice_get ports p)

-- the ports after the choice of port p, if there is such a port, heard the range of its cable
abbrev pub with_range : List Choice → ℕ → Span → Option Choice → List Choice
with_range ports p range None = ports
with_range ports p range (Some c) = slice_set ports p (told_range range c)

-- The ports after routing data said what range the cable of port p has.
abbrev pub ports_told : List Choice → ℕ → Span → List Choice
ports_told ports p range = with_range ports p range (slice_get ports p)
