-- AARP packets in frames: their sizes, and how they are read back.
use Rattle.std.proofs.Common.{◌≡◌, ℕ, ◌+◌, ◌<◌, List, [], Some, refl, sym, ap, ◌∙◌, subst, length, arith, append-nil}
use Rattle.std.proofs.lemmas.List.{length-append}
use Rattle.aarp.proofs.Shape.{packet_lawful}
use Rattle.aarp.specs.Packets.{Whole, packet, written}
use Rattle.aarp.specs.declared.packet.Function.{Function}
use Rattle.aarp.specs.declared.packet.Function.TheVariants.{Response}
use Rattle.aarp.specs.declared.packet.Packet.{Packet}
use Rattle.at_base.proofs.Readers.{begins_read, spelled_begins}
use Rattle.at_base.specs.Packets.{address, packets}
use Rattle.at_base.specs.Spelling.{Begins, IsValue, Spells, bytes_of}
use Rattle.station.specs.Resolution.{packet_at}

-- the bytes of a packet are read as it
pub reads : (bytes : List ℕ) (w : Whole) → Spells packet bytes w → packet_at bytes ≡ Some w.packet
unfolding packet_at
reads bytes w s =
    let b : Begins packet bytes w = subst (λ l. Begins packet l w) (append-nil bytes) (spelled_begins packet bytes [] w s) in
    rw (begins_read packets packet packet_lawful bytes w b) refl

-- a packet has 28 bytes
pub size : (w : Whole) → IsValue packet w → length (bytes_of packet w) ≡ 28
unfolding packet address
size w h = omega (arith, length-append {A = ℕ}, h.1.1.1.1.0.0, h.1.1.1.1.1.1.1.0.0)

-- the size of a packet as it is written, by those of its hardware addresses
pub written_size : (p : Packet) → length (bytes_of packet (written p)) ≡ 16 + length p.source_hw.0 + length p.target_hw.0
unfolding packet address
written_size p = omega (arith, length-append {A = ℕ})

-- The parts of a packet fit their fields.
pub record IsFitting (p : Packet) : Type 0 where
  pub source_hw : length p.source_hw.0 ≡ 6
  pub source_net : p.source.net < 65536
  pub source_node : p.source.node < 256
  pub target_hw : length p.target_hw.0 ≡ 6
  pub target_net : p.target.net < 65536
  pub target_node : p.target.node < 256

-- the parts of a packet that was written fit
pub written_fits : (p : Packet) → IsValue packet (written p) → IsFitting p
unfolding packet address
written_fits p h = record {
  source_hw = h.1.1.1.1.0.0;
  source_net = h.1.1.1.1.1.1.0.0.0;
  source_node = h.1.1.1.1.1.1.0.1.0.0;
  target_hw = h.1.1.1.1.1.1.1.0.0;
  target_net = h.1.1.1.1.1.1.1.1.1.0.0.0;
  target_node = h.1.1.1.1.1.1.1.1.1.0.1.0.0;
}

-- so do those of any packet
pub whole_fits : (w : Whole) → IsValue packet w → IsFitting w.packet
unfolding packet address
whole_fits w h = record {
  source_hw = h.1.1.1.1.0.0;
  source_net = h.1.1.1.1.1.1.0.0.0;
  source_node = h.1.1.1.1.1.1.0.1.0.0;
  target_hw = h.1.1.1.1.1.1.1.0.0;
  target_net = h.1.1.1.1.1.1.1.1.1.0.0.0;
  target_node = h.1.1.1.1.1.1.1.1.1.0.1.0.0;
}

-- a response whose parts fit may be written
as_response : (p : Packet) → IsFitting p → IsValue packet (written (record p { function = Response }))
unfolding packet address
as_response p f = (
  (omega arith, refl),
  (
    (omega arith, refl),
    (
      (omega arith, refl),
      (
        (omega arith, refl),
        (
          (f.source_hw, refl),
          (
            (omega arith, refl),
            (
              ((f.source_net, refl), ((f.source_node, refl), refl)),
              ((f.target_hw, refl), ((omega arith, refl), (((f.target_net, refl), ((f.target_node, refl), refl)), refl))),
            ),
          ),
        ),
      ),
    ),
  ),
)

-- so may a packet whose function is that of a response
pub response_value : (p : Packet) → p.function ≡ Response → IsFitting p → IsValue packet (written p)
response_value p is f =
    let made : Function → Packet = λ g. record p { function = g } in
    subst (λ (q : Packet). IsValue packet (written q)) (ap made (sym is)) (as_response p f)

-- so a response is read back, if its bytes are those of a packet
pub response_read : (p : Packet) (w : Whole) → p.function ≡ Response → Spells packet (bytes_of packet (written p)) w
    → p.source.net < 65536 → p.source.node < 256 → length p.target_hw.0 ≡ 6 → p.target.net < 65536 → p.target.node < 256
    → packet_at (bytes_of packet (written p)) ≡ Some p
response_read p w is s sn so th tn to =
    let whole : length (bytes_of packet (written p)) ≡ 28 = ap length s.1 ∙ size w s.0 in
    let parts = written_size p in
    let fit : IsFitting p = record {
      source_hw = omega (arith, whole, parts, th);
      source_net = sn;
      source_node = so;
      target_hw = th;
      target_net = tn;
      target_node = to;
    } in
    reads (bytes_of packet (written p)) (written p) (response_value p is fit, refl)
