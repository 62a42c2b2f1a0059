use Rattle.std.proofs.Common.{Option, None, refl}
use Rattle.atp.specs.declared.ask.AnswerPart.{AnswerPart}
use Rattle.atp.proofs.Lists.{map_more}
use Rattle.atp.proofs.transaction.clear_parts.Goals as goal

pub loop-part-preserved : goal.loop-part-preserved
loop-part-preserved c =
    map_more (λ (part : Option AnswerPart). None) c.args.parts.now c.loop-part.parts c.loop-part.part-index None None
    c.loop-part-test.true c.loop-part.invariant refl
