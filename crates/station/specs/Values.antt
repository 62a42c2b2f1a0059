-- The values in the frames that a station receives.
use Rattle.std.specs.Prelude.{ℕ, List, Option}
use Rattle.at_base.specs.Packets.{packets}
use Rattle.at_base.specs.Reading.{read, value_of}
use Rattle.ddp.specs.Datagram.{Datagram, datagram}

-- the datagram at the front of the bytes, if any
unfoldable pub datagram_at : List ℕ → Option Datagram
datagram_at bytes = value_of (read packets datagram bytes)
