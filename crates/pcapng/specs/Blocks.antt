-- The blocks of a capture file in the pcapng format, in big-endian order. (Internet draft draft-ietf-opsawg-pcapng)
use Rattle.std.specs.Prelude.{ℕ, ◌+◌, ◌*◌, ◌/◌, ◌%◌, ◌^◌, Bool, true, false, ◌==◌, ◌||◌, List, [], ◌∷◌, length, codes}
use Rattle.std.specs.Prelude.{Option, Some, None, if◌then◌else◌}
use Rattle.at_base.specs.Grammar.{Grammar, done, field, number, part, run, two}
use Rattle.pcapng.specs.Fields.{Wrong, any, filled, filling, four, gap, only, only_bytes, size}

-- the byte-order magic, whose order is that of all numbers
abbrev pub magic : ℕ
magic = 0x1A2B3C4D

-- a length that isn't known
abbrev pub unknown : List ℕ
unknown = 255 ∷ 255 ∷ 255 ∷ 255 ∷ 255 ∷ 255 ∷ 255 ∷ 255 ∷ []

-- the section header block, of 28 bytes: version 1.0, and a section of unknown length
unfoldable pub section : Grammar Wrong true (Unit {0})
section =
    part (four (only 0x0A0D0D0A)) (λ s. 0x0A0D0D0A) (λ kind.
    part (four (only 28)) (λ s. 28) (λ total.
    part (four (only magic)) (λ s. magic) (λ order.
    field (number two (only 1)) (λ s. 1) (λ major.
    field (number two (only 0)) (λ s. 0) (λ minor.
    field (run 8 (only_bytes unknown)) (λ s. unknown) (λ len.
    part (four (only 28)) (λ s. 28) (λ again.
    done tt)))))))

-- the length of the interface description block of an interface with a name
abbrev pub interface_total : List ℕ → ℕ
interface_total name = 28 + filled (length name)

-- the test that a name of this length makes a block of this length
abbrev pub wrong_name : ℕ → ℕ → Option Wrong
wrong_name total len = if 28 + filled len == total then None else Some size

-- the interface description block of an interface with a name: Ethernet (link type 1), no limit of a packet's length, and
-- the name (option 2)
unfoldable pub interface : Grammar Wrong true (List ℕ)
interface =
    part (four (only 1)) (λ name. 1) (λ kind.
    part (four any) interface_total (λ total.
    field (number two (only 1)) (λ name. 1) (λ link.
    field (number two (only 0)) (λ name. 0) (λ reserved.
    part (four (only 0)) (λ name. 0) (λ snap.
    field (number two (only 2)) (λ name. 2) (λ code.
    field (number two (wrong_name total)) (λ name. length name) (λ len.
    field (run len any) (λ name. name) (λ name.
    field (run (gap len) (only_bytes (filling len))) (λ name. filling (length name)) (λ zeros.
    part (four (only 0)) (λ name. 0) (λ end.
    part (four (only total)) interface_total (λ again.
    done name)))))))))))

-- an enhanced packet block: an interface by its index, a time in microseconds, the packet, and whether it was lost
pub record PacketBlock : Type 0 where
  pub interface : ℕ
  pub time : ℕ
  pub packet : List ℕ
  pub lost : Bool

-- the length of the options of a packet
abbrev pub options_len : Bool → ℕ
options_len true = 12
options_len false = 0

-- the length of the enhanced packet block with a packet of this length
abbrev pub packet_total : ℕ → Bool → ℕ
packet_total len lost = 32 + filled len + options_len lost

-- the test that a packet of this length makes a block of this length, with or without options
abbrev pub wrong_captured : ℕ → ℕ → Option Wrong
wrong_captured total len = if packet_total len true == total || packet_total len false == total then None else Some size

-- the options of a packet, if it has any: the comment `lost` (option 1), and the end of the options
unfoldable pub options : Bool → Grammar Wrong true Bool
options false = done false
options true =
    field (number two (only 1)) (λ lost. 1) (λ code.
    field (number two (only 4)) (λ lost. 4) (λ len.
    field (run 4 (only_bytes (codes "lost"))) (λ lost. codes "lost") (λ comment.
    part (four (only 0)) (λ lost. 0) (λ end.
    done true))))

-- the enhanced packet block: interface, time, captured and original length, the packet, its options
unfoldable pub packet_block : Grammar Wrong true PacketBlock
packet_block =
    part (four (only 6)) (λ b. 6) (λ kind.
    part (four any) (λ b. packet_total (length b.packet) b.lost) (λ total.
    part (four any) (λ b. b.interface) (λ interface.
    part (four any) (λ b. b.time / 2 ^ 32) (λ high.
    part (four any) (λ b. b.time % 2 ^ 32) (λ low.
    part (four (wrong_captured total)) (λ b. length b.packet) (λ captured.
    part (four (only captured)) (λ b. length b.packet) (λ original.
    field (run captured any) (λ b. b.packet) (λ packet.
    field (run (gap captured) (only_bytes (filling captured))) (λ b. filling (length b.packet)) (λ zeros.
    part (options (packet_total captured true == total)) (λ b. b.lost) (λ lost.
    part (four (only total)) (λ b. packet_total (length b.packet) b.lost) (λ again.
    done (record { interface = interface; time = high * 2 ^ 32 + low; packet = packet; lost = lost }))))))))))))
