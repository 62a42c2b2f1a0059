use Rattle.std.proofs.Common.{◌≡◌, true, take}
use Rattle.std.specs.Prelude.{min}
use Rattle.at_base.proofs.name.are_equal_first.Given as goal

abbrev pub invariant-loop-k : goal.invariant-loop-k
invariant-loop-k l =
    (l.equal ≡ true → take (min l.k l.len) l.a ≡ take (min l.k l.len) l.b)
    × (take l.len l.a ≡ take l.len l.b → l.equal ≡ true)
