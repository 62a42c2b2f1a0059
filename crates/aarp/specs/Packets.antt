-- AARP packets: requests, responses and probes. (Inside AppleTalk, the chapter on AARP)
use Rattle.std.specs.Prelude.{ℕ, true, ◌==◌, List, [], ◌∷◌, slice_index, if◌then◌else◌}
use Rattle.std.specs.Int.{byte_at}
use Rattle.at_base.specs.declared.address.Addr.{Addr}
use Rattle.at_base.specs.declared.address.Hw.{Hw}
use Rattle.at_base.specs.declared.error.Field.TheVariants.{HardwareType, ProtocolType, Lengths, Function as FunctionField}
use Rattle.at_base.specs.declared.error.Error.{Error}
use Rattle.at_base.specs.Packets.{any, only, within, address}
use Rattle.at_base.specs.Grammar.{Grammar, done, field, part, room, number, run, one, two}
use Rattle.aarp.specs.declared.packet.Function.{Function}
use Rattle.aarp.specs.declared.packet.Function.TheVariants.{Request, Response, Probe}
use Rattle.aarp.specs.declared.packet.Packet.{Packet}

-- a packet, with the first bytes of its two protocol addresses, which are written as 0 and ignored when read
pub record Whole : Type 0 where
  pub packet : Packet
  pub source_first : ℕ
  pub target_first : ℕ

-- a packet with these first bytes of its protocol addresses
abbrev pub whole : Packet → ℕ → ℕ → Whole
whole p source_first target_first = record { packet = p; source_first = source_first; target_first = target_first }

-- the number of a function
abbrev pub function_number : Function → ℕ
function_number Request = 1
function_number Response = 2
function_number Probe = 3

-- the function of a number from 1 to 3
abbrev pub function_of : ℕ → Function
function_of n = if n == 1 then Request else if n == 2 then Response else Probe

-- the format of a packet: 28 bytes at least; hardware type 1, protocol type 809B, lengths 6 and 4, the function; then
-- the hardware and protocol addresses of source and target
unfoldable pub packet : Grammar Error true Whole
packet =
    room 28 (
    field (number two (only 1 HardwareType)) (λ w. 1) (λ hardware_type.
    field (number two (only 0x809B ProtocolType)) (λ w. 0x809B) (λ protocol_type.
    field (number two (only 0x0604 Lengths)) (λ w. 0x0604) (λ lengths.
    field (number two (within 1 3 FunctionField)) (λ w. function_number w.packet.function) (λ function.
    field (run 6 any) (λ w. w.packet.source_hw.0) (λ source_hw.
    field (number one any) (λ w. w.source_first) (λ source_first.
    part address (λ w. w.packet.source) (λ source.
    field (run 6 any) (λ w. w.packet.target_hw.0) (λ target_hw.
    field (number one any) (λ w. w.target_first) (λ target_first.
    part address (λ w. w.packet.target) (λ target.
    done (record {
      packet = record {
        function = function_of function;
        source_hw = record { 0 = source_hw };
        source = source;
        target_hw = record { 0 = target_hw };
        target = target;
      };
      source_first = source_first;
      target_first = target_first;
    }))))))))))))

-- the packet as it is written, with 0 as the first byte of each protocol address
abbrev pub written : Packet → Whole
written p = whole p 0 0

-- the bytes of a packet before the source, one by one
abbrev pub head_bytes : Function → List ℕ
head_bytes f = 0 ∷ 1 ∷ 0x80 ∷ 0x9B ∷ 6 ∷ 4 ∷ 0 ∷ function_number f ∷ []

-- the bytes of a source or target, one by one: hardware address, 0, address
abbrev pub station_bytes : Hw → Addr → List ℕ
station_bytes hw a =
    slice_index hw.0 0 ∷ slice_index hw.0 1 ∷ slice_index hw.0 2 ∷ slice_index hw.0 3 ∷ slice_index hw.0 4 ∷ slice_index hw.0 5
    ∷ 0 ∷ byte_at 1 a.net ∷ byte_at 0 a.net ∷ a.node ∷ []
