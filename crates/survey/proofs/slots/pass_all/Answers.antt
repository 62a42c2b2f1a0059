use Rattle.std.proofs.lemmas.List.Edits.{map_over_more}
use Rattle.survey.specs.Slots.{passed}
use Rattle.survey.proofs.slots.pass_all.Goals as goal

pub loop-slot-preserved : goal.loop-slot-preserved
loop-slot-preserved c =
    rw (c.passed.ensures, ← c.slot-item.is)
    (map_over_more passed c.args.slots.now c.loop-slot.slots c.loop-slot.slot-index c.slot-item.result
    c.loop-slot-test.true c.loop-slot.invariant c.slot-item.is)
