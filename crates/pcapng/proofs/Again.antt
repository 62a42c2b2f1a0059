-- What is printed is read back.
use Rattle.std.proofs.Common.{◌≡◌, ℕ, ◌<◌, ◌≤◌, List, ◌++◌, length, Ok, arith}
use Rattle.at_base.proofs.Laws.{follows_all, read_again}
use Rattle.at_base.specs.Reading.{read}
use Rattle.ethertalk.proofs.Values.{frame_length}
use Rattle.pcapng.proofs.Laid.{name_few}
use Rattle.pcapng.proofs.Shape.{interface_lawful, packet_lawful, section_lawful}
use Rattle.pcapng.proofs.Values.{interface_value, packet_value, section_value}
use Rattle.pcapng.specs.Blocks.{interface, packet_block, section}
use Rattle.pcapng.specs.Captures.{FitsPacket, block_of, cable_name, frame_of, interface_bytes, packet_bytes, section_bytes}
use Rattle.pcapng.specs.Fields.{blocks}
use Rattle.ethertalk.specs.Frames.{max_bytes}
use Rattle.pcapng.specs.declared.packet.Packet.{Packet}

pub section_again : (rest : List ℕ) → read blocks section (section_bytes ++ rest) ≡ Ok (tt, rest)
section_again rest = read_again blocks section section_lawful tt rest section_value (follows_all section tt rest)

pub interface_again : (cable start end : ℕ) (rest : List ℕ) → cable < 256 → start < 65536 → end < 65536
    → read blocks interface (interface_bytes cable start end ++ rest) ≡ Ok (cable_name cable start end, rest)
interface_again cable start end rest c s e =
    let name = cable_name cable start end in
    let few : length name < 65536 = omega (arith, name_few cable start end c s e) in
    read_again blocks interface interface_lawful name rest (interface_value name few) (follows_all interface name rest)

pub packet_again : (p : Packet) (bytes rest : List ℕ) → FitsPacket p → length bytes ≤ max_bytes
    → read blocks packet_block (packet_bytes p bytes ++ rest) ≡ Ok (block_of p bytes, rest)
packet_again p bytes rest fits few =
    let b = block_of p bytes in
    let len : length b.packet < 65536 = omega (arith, frame_length (frame_of p bytes) fits.to fits.from) in
    read_again blocks packet_block packet_lawful b rest (packet_value b fits.interface fits.time len) (follows_all packet_block b rest)
