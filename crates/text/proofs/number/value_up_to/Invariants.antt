use Rattle.std.proofs.Common.{◌≡◌, ◌≤◌, take}
use Rattle.text.specs.Words.{value}
use Rattle.text.proofs.number.value_up_to.Given as goal

abbrev pub invariant-loop-digit : goal.invariant-loop-digit
invariant-loop-digit l = (l.value ≡ value (take l.digit-index l.digits)) × (l.value ≤ l.max)
