-- A frame that fits is a value of the format, and is read back.
use Rattle.std.proofs.Common.{◌≡◌, ℕ, ◌+◌, ◌≤◌, false, ltb, List, ◌++◌, length, None, Ok, refl, ap, arith}
use Rattle.std.proofs.lemmas.Bool.{le-ltb}
use Rattle.std.proofs.lemmas.List.{length-append}
use Rattle.at_base.proofs.Laws.{follows_all, read_again}
use Rattle.at_base.specs.Reading.{read}
use Rattle.at_base.specs.Spelling.{IsValue, bytes_of}
use Rattle.ethertalk.proofs.Shape.{frame_lawful}
use Rattle.ethertalk.specs.Frames.{FitsFrame, Framed, faults, frame, kind_of, max_bytes, protocol_of, wrong_length, wrong_protocol}
use Rattle.station.specs.declared.heard.Kind.{Kind}
use Rattle.station.specs.declared.heard.Kind.TheVariants.{Aarp, Ddp}

-- the kind of packets with the SNAP protocol of a kind is that kind
kind_again : (k : Kind) → kind_of (protocol_of k) ≡ k
kind_again Ddp = refl
kind_again Aarp = refl

protocol_passes : (k : Kind) → wrong_protocol (protocol_of k) ≡ None
protocol_passes Ddp = refl
protocol_passes Aarp = refl

protocol_five : (k : Kind) → length (protocol_of k) ≡ 5
protocol_five Ddp = refl
protocol_five Aarp = refl

length_passes : (n : ℕ) → n ≤ max_bytes → wrong_length (8 + n) ≡ None
length_passes n few =
    let least : ltb (8 + n) 8 ≡ false = le-ltb _ _ (omega arith) in
    let most : ltb (8 + max_bytes) (8 + n) ≡ false = le-ltb _ _ (omega arith) in
    rw (least, most) refl

frame_value : (f : Framed) → FitsFrame f → IsValue frame f
unfolding frame
frame_value f fits = (
  (fits.to, refl),
  (
    (fits.from, refl),
    (
      (omega arith, length_passes (length f.packet) fits.packet),
      (
        (refl, refl),
        (
          (protocol_five f.kind, protocol_passes f.kind),
          ((omega arith, refl), ap (λ (k : Kind). record f { kind = k }) (kind_again f.kind)),
        ),
      ),
    ),
  ),
)

pub frame_again : (f : Framed) (padding : List ℕ) → FitsFrame f → read faults frame (bytes_of frame f ++ padding) ≡ Ok (f, padding)
frame_again f padding fits =
    read_again faults frame frame_lawful f padding (frame_value f fits) (follows_all frame f padding)

-- a frame has 22 bytes in front of its packet
pub frame_length : (f : Framed) → length f.to.0 ≡ 6 → length f.from.0 ≡ 6 → length (bytes_of frame f) ≡ 22 + length f.packet
unfolding frame
frame_length f to from = omega (arith, length-append {A = ℕ}, protocol_five f.kind, to, from)

pub frame_few : (f : Framed) → FitsFrame f → length (bytes_of frame f) ≤ 1514
frame_few f fits = omega (arith, frame_length f fits.to fits.from, fits.packet)
