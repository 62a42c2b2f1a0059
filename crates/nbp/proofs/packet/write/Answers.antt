-- The bytes of a packet, written one part after the other.
use Rattle.std.proofs.Common.{arith}
use Rattle.nbp.proofs.Shape.{written}
use Rattle.nbp.proofs.packet.write.Goals as goal

pub returns-clause-ok : goal.returns-clause-ok
returns-clause-ok c =
    rw (
      c.from_vec.ensures,
      (c.in_ok-put_text-3.ensures {u = tt}).put,
      (c.in_ok-put_text-2.ensures {u = tt}).put,
      (c.in_ok-put_text.ensures {u = tt}).put,
      c.in_ok-extend_from_slice.ensures.items,
      c.in_ok-bytes.ensures.items,
      c.front.ensures.bytes,
    )
    (written c.args.function c.args.id c.args.tuple.now (omega (arith, c.ranges.id.fits)) c.front.ensures.fits.0
    c.front.ensures.fits.1 c.front.ensures.fits.2 c.put_text.ensures.few c.put_text-2.ensures.few c.put_text-3.ensures.few)
