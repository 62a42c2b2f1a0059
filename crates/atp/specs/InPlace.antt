-- Packets in place, and their values.
use Rattle.std.specs.Prelude.{ℕ, List, Option}
use Rattle.at_base.specs.Packets.{packets}
use Rattle.at_base.specs.Reading.{read, value_of}
use Rattle.atp.specs.declared.packet.Packet.{Packet}
use Rattle.atp.specs.Packets.{AtpPacket, packet}

-- the value of a packet in place
abbrev pub packet_value : Packet → AtpPacket
packet_value p = record { control = p.control; part = p.part; id = p.id; user = p.user; payload = p.payload.now }

-- the packet that is the bytes, if they are one
unfoldable pub transaction_in : List ℕ → Option AtpPacket
transaction_in payload = value_of (read packets packet payload)
