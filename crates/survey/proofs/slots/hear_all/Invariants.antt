use Rattle.std.proofs.Common.{◌≡◌, ◌++◌, map, take, drop}
use Rattle.survey.specs.Slots.{heard}
use Rattle.survey.proofs.slots.hear_all.Given as goal

abbrev pub invariant-loop-slot : goal.invariant-loop-slot
invariant-loop-slot l = l.slots ≡ map (heard l.view l.id) (take l.slot-index l.initial.slots) ++ drop l.slot-index l.initial.slots
