-- The bytes of an AARP packet, one by one, are those of the packet as it is written.
use Rattle.std.proofs.Common.{◌≡◌, ℕ, ◌<◌, List, [], ◌∷◌, ◌++◌, length, slice_index_or, refl, ap, arith}
use Rattle.std.specs.Int.{byte_at}
use Rattle.at_base.specs.declared.address.Addr.{Addr}
use Rattle.at_base.specs.Packets.{packets, address}
use Rattle.at_base.specs.Spelling.{IsValue, Spells, Begins, bytes_of}
use Rattle.at_base.proofs.Readers.{spelled_begins, begins_one}
use Rattle.aarp.specs.declared.packet.Function.{Function}
use Rattle.aarp.specs.declared.packet.Packet.{Packet}
use Rattle.aarp.specs.Packets.{Whole, packet, written, whole, function_number}
use Rattle.aarp.proofs.Numbers.{function_again, function_passes, function_fits}
use Rattle.aarp.proofs.Shape.{packet_lawful}

-- the numbers of a packet fit their fields
pub record Fitting (p : Packet) : Type 0 where
  pub source_hw : length p.source_hw.0 ≡ 6
  pub source_net : p.source.net < 65536
  pub source_node : p.source.node < 256
  pub target_hw : length p.target_hw.0 ≡ 6
  pub target_net : p.target.net < 65536
  pub target_node : p.target.node < 256

with_function : (p : Packet) (f : Function) → f ≡ p.function → whole (record p { function = f }) 0 0 ≡ written p
with_function p f e = ap (λ (g : Function). whole (record p { function = g }) 0 0) e

pub written_value : (p : Packet) → Fitting p → IsValue packet (written p)
unfolding packet address
written_value p f =
    let number : function_number p.function < 65536 = omega (arith, function_fits p.function) in (
      (omega arith, refl),
      (
        (omega arith, refl),
        (
          (omega arith, refl),
          (
            (number, function_passes p.function),
            (
              (f.source_hw, refl),
              (
                (omega arith, refl),
                (
                  ((f.source_net, refl), ((f.source_node, refl), refl)),
                  (
                    (f.target_hw, refl),
                    (
                      (omega arith, refl),
                      (
                        ((f.target_net, refl), ((f.target_node, refl), refl)),
                        with_function p _ (function_again p.function),
                      ),
                    ),
                  ),
                ),
              ),
            ),
          ),
        ),
      ),
    )

-- six bytes, one by one
abbrev six : List ℕ → List ℕ → List ℕ
six xs rest =
    slice_index_or xs 0 0 ∷ slice_index_or xs 1 0 ∷ slice_index_or xs 2 0 ∷ slice_index_or xs 3 0 ∷ slice_index_or xs 4 0 ∷
    slice_index_or xs 5 0 ∷ rest

six_are : (xs rest : List ℕ) → length xs ≡ 6 → six xs rest ≡ xs ++ rest
six_are (a ∷ b ∷ c ∷ d ∷ e ∷ f ∷ []) rest h = refl
six_are [] rest h = absurd (omega arith)
six_are (a ∷ []) rest h = absurd (omega arith)
six_are (a ∷ b ∷ []) rest h = absurd (omega arith)
six_are (a ∷ b ∷ c ∷ []) rest h = absurd (omega arith)
six_are (a ∷ b ∷ c ∷ d ∷ []) rest h = absurd (omega arith)
six_are (a ∷ b ∷ c ∷ d ∷ e ∷ []) rest h = absurd (omega arith)
six_are (a ∷ b ∷ c ∷ d ∷ e ∷ f ∷ g ∷ more) rest h = absurd (omega arith)

-- the bytes of an address after a 0
abbrev address_bytes : Addr → List ℕ → List ℕ
address_bytes a rest = 0 ∷ byte_at 1 a.net ∷ byte_at 0 a.net ∷ a.node ∷ rest

-- the bytes of a packet
abbrev pub plain : Packet → List ℕ
plain p =
    0 ∷ 1 ∷ 128 ∷ 155 ∷ 6 ∷ 4 ∷ 0 ∷ function_number p.function
    ∷ six p.source_hw.0 (address_bytes p.source (six p.target_hw.0 (address_bytes p.target [])))

plain_bytes : (p : Packet) → Fitting p → plain p ≡ bytes_of packet (written p)
unfolding packet address
plain_bytes p f =
    let high : byte_at 1 (function_number p.function) ≡ 0 = omega (arith, function_fits p.function) in
    let low : byte_at 0 (function_number p.function) ≡ function_number p.function = omega (arith, function_fits p.function) in
    let source : byte_at 0 p.source.node ≡ p.source.node = omega (arith, f.source_node) in
    let target : byte_at 0 p.target.node ≡ p.target.node = omega (arith, f.target_node) in
    rw (high, low, source, target, six_are p.source_hw.0 _ f.source_hw, six_are p.target_hw.0 _ f.target_hw) refl

pub plain_spelled : (p : Packet) → Fitting p → Spells packet (plain p) (written p)
plain_spelled p f = (written_value p f, plain_bytes p f)

pub read_back : (p : Packet) (bytes rest : List ℕ) → Spells packet bytes (written p)
    → Begins packet (bytes ++ rest) (written p) × ((w : Whole) → Begins packet (bytes ++ rest) w → w ≡ written p)
read_back p bytes rest s =
    let b = spelled_begins packet bytes rest (written p) s in
    (b, λ w c. begins_one packets packet packet_lawful (bytes ++ rest) (written p) w b c)
