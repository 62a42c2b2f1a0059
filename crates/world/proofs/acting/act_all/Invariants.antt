use Rattle.std.proofs.Common.{ℕ, length}
use Rattle.world.specs.Acting.{KeepsFirst}
use Rattle.world.specs.Going.{GoesOn}
use Rattle.world.specs.Stopping.{AreFirstDone}
use Rattle.world.proofs.acting.act_all.Given as goal

abbrev pub invariant-loop-index : goal.invariant-loop-index
invariant-loop-index g l =
    ((n : ℕ) × AreFirstDone l.plan l.stations l.now n l.fn.schedule.items l.schedule.items (l.fn.wires, l.fn.refused.items)
    (l.wires, l.refused.items))
    × KeepsFirst l.fn.refused.items l.refused.items × GoesOn 0 l.fn.wires l.wires

abbrev pub decreases-loop-index : goal.decreases-loop-index
decreases-loop-index g l = length l.schedule.items
