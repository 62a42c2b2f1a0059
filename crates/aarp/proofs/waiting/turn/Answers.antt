use Rattle.std.proofs.Common.{◌∙◌, arith}
use Rattle.aarp.proofs.Turns.{turned_more}
use Rattle.aarp.proofs.waiting.turn.Goals as goal

pub loop-step-preserved : goal.loop-step-preserved
loop-step-preserved c =
    let was = c.loop-step.invariant in
    let more = turned_more c.args.queue.now.items c.loop-step._step (omega arith) in
    record {
      turned = let now = c.turn_once.ensures.turned in (rw was.turned at now) ∙ more;
      capacity = cc;
      fits = omega arith;
      within = omega arith;
    }
