-- At the end of the loop, all 33 IDs would be open.
use Rattle.std.proofs.Common.{arith, below_more}
use Rattle.atp.proofs.Free.{not_all}
use Rattle.atp.proofs.table.next_id.Goals as goal

pub returns : goal.returns
returns c = absurd (not_all c.args.first c.args.table.now.slots (omega (arith, c.ranges.first.fits)) c.requires
    (λ k lt. c.loop-step.invariant k (omega (arith, c.loop-step-test.false))))

pub loop-step-preserved : goal.loop-step-preserved
loop-step-preserved c = let s = (c.in-Some.ensures {u = tt}).some in below_more _ _ c.loop-step.invariant (s.0, s.3)
