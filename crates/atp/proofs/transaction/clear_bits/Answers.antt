use Rattle.std.proofs.Common.{Bool, false, refl}
use Rattle.atp.proofs.Lists.{map_more}
use Rattle.atp.proofs.transaction.clear_bits.Goals as goal

pub loop-bit-preserved : goal.loop-bit-preserved
loop-bit-preserved c =
    map_more (λ (bit : Bool). false) c.args.bits.now c.loop-bit.bits c.loop-bit.bit-index false false c.loop-bit-test.true
    c.loop-bit.invariant refl
