-- What a capture file has of cables and frames.
use Rattle.std.specs.Prelude.{◌≡◌, ℕ, ◌+◌, ◌/◌, ◌%◌, ◌<◌, ◌^◌, List, ◌++◌, codes, length}
use Rattle.std.specs.Fmt.{decimal}
use Rattle.at_base.specs.Spelling.{bytes_of}
use Rattle.at_base.specs.Texts.{range_text}
use Rattle.ethertalk.specs.Frames.{Framed, frame}
use Rattle.pcapng.specs.Blocks.{PacketBlock, interface, packet_block, section}
use Rattle.pcapng.specs.Fields.{four_bytes}
use Rattle.pcapng.specs.declared.packet.Packet.{Packet}

-- the bytes of the section header
abbrev pub section_bytes : List ℕ
section_bytes = bytes_of section tt

-- the name of a cable with an index and a range, as `cable 2, 20-29`
abbrev pub cable_name : ℕ → ℕ → ℕ → List ℕ
cable_name cable start end = codes "cable " ++ decimal (cable + 1) ++ codes ", " ++ range_text (record { start = start; end = end })

-- the bytes of the interface description of a cable
abbrev pub interface_bytes : ℕ → ℕ → ℕ → List ℕ
interface_bytes cable start end = bytes_of interface (cable_name cable start end)

-- the numbers of a packet fit their types
pub record FitsPacket (p : Packet) : Type 0 where
  pub interface : p.interface < 256
  pub time : p.time < 2 ^ 64
  pub to : length p.to.0 ≡ 6
  pub from : length p.from.0 ≡ 6

-- the frame of a packet with these bytes
abbrev pub frame_of : Packet → List ℕ → Framed
frame_of p bytes = record { to = p.to; from = p.from; kind = p.kind; packet = bytes }

-- the block of a packet with these bytes
abbrev pub block_of : Packet → List ℕ → PacketBlock
block_of p bytes = record {
  interface = p.interface;
  time = p.time;
  packet = bytes_of frame (frame_of p bytes);
  lost = p.lost;
}

-- the bytes of the block of a packet with these bytes
abbrev pub packet_bytes : Packet → List ℕ → List ℕ
packet_bytes p bytes = bytes_of packet_block (block_of p bytes)

-- the bytes of a heartbeat at a time: the statistics (type 5) of interface 0, 24 bytes, which say when they were made and
-- nothing else
abbrev pub heartbeat_bytes : ℕ → List ℕ
heartbeat_bytes time =
    four_bytes 5 ++ (four_bytes 24 ++ ((four_bytes 0 ++ (four_bytes (time / 2 ^ 32) ++ four_bytes (time % 2 ^ 32))) ++ four_bytes 24))
