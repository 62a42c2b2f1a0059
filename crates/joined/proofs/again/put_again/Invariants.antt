use Rattle.std.proofs.Common.{◌≡◌, ◌++◌, take}
use Rattle.joined.proofs.again.put_again.Given as goal

abbrev pub invariant-loop-part : goal.invariant-loop-part
invariant-loop-part g l = l.parts.items ≡ l.initial.parts.items ++ take l.part-index l.more
