-- The bytes of a packet, written one part after the other.
use Rattle.std.proofs.Common.{arith}
use Rattle.atp.proofs.Shape.{written}
use Rattle.atp.proofs.packet.write.Goals as goal

pub returns-clause-ok : goal.returns-clause-ok
returns-clause-ok c =
    rw (
      c.from_vec.ensures,
      c.in_ok-extend_from_slice-3.ensures.items,
      c.in_ok-extend_from_slice-2.ensures.items,
      c.in_ok-extend_from_slice.ensures.items,
      c.in_ok-bytes.ensures.items,
      c.to_be_bytes.ensures,
    )
    (written _ (omega (arith, c.ranges.control.fits)) (omega (arith, c.ranges.part.fits)) (λ i. omega (arith, c.type_inv.payload i)))
