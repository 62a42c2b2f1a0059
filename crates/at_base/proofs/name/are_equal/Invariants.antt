use Rattle.std.proofs.Common.{◌≡◌, true, take}
use Rattle.at_base.proofs.name.are_equal.Given as goal

abbrev pub invariant-loop-k : goal.invariant-loop-k
invariant-loop-k l = (l.equal ≡ true → take l.k l.a ≡ take l.k l.b) × (l.a ≡ l.b → l.equal ≡ true)
