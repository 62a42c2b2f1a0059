use Rattle.std.proofs.lemmas.List.Edits.{map_over_more}
use Rattle.survey.specs.Slots.{heard}
use Rattle.survey.proofs.slots.hear_all.Goals as goal

pub loop-slot-preserved : goal.loop-slot-preserved
loop-slot-preserved c =
    rw (c.heard.ensures, ← c.slot-item.is)
    (map_over_more (heard c.args.view.now c.args.id) c.args.slots.now c.loop-slot.slots c.loop-slot.slot-index c.slot-item.result
    c.loop-slot-test.true c.loop-slot.invariant c.slot-item.is)
