use Rattle.std.proofs.Common.{sym, ◌∙◌, arith}
use Rattle.script.proofs.Names.{last_is_here, last_is_before, still_below}
use Rattle.script.proofs.name.last_place_of.Goals as goal
use Rattle.script.proofs.name.last_place_of.Goals.{then-b-byte, else-b-byte}

pub loop-k-preserved : goal.loop-k-preserved
loop-k-preserved c =
    let text = c.args.text.now in
    let k = c.loop-k.k in
    elim c.if-b-byte.branch [
      | then-b-byte w ↦ (
        w.last-is ∙ sym (last_is_here c.args.byte text k 0 c.loop-k-test.true w.if-b-byte.true),
        rw w.last-is (omega arith),
      )
      | else-b-byte w ↦ (
        w.last-is ∙ c.loop-k.invariant.0 ∙ sym (last_is_before c.args.byte text k 0 c.loop-k-test.true w.if-b-byte.false),
        rw w.last-is (still_below c.loop-k.last k c.loop-k.invariant.1),
      )
    ]
