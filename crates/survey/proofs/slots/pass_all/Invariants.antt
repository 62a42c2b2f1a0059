use Rattle.std.proofs.Common.{◌≡◌, ◌++◌, map, take, drop}
use Rattle.survey.specs.Slots.{passed}
use Rattle.survey.proofs.slots.pass_all.Given as goal

abbrev pub invariant-loop-slot : goal.invariant-loop-slot
invariant-loop-slot l = l.slots ≡ map passed (take l.slot-index l.initial.slots) ++ drop l.slot-index l.initial.slots
