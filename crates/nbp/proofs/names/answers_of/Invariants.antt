use Rattle.std.proofs.Common.{◌≡◌, ◌++◌, drop}
use Rattle.nbp.specs.Registered.{answers}
use Rattle.nbp.proofs.names.answers_of.Given as goal

-- the tuples so far, and those of the names that are left, are all tuples
abbrev pub invariant-loop-name : goal.invariant-loop-name
invariant-loop-name l = l.tuples.items ++ answers l.object l.kind (drop l.name-index l.names) ≡ answers l.object l.kind l.names
