use Rattle.std.proofs.Common.{◌≡◌, ◌++◌}
use Rattle.learning.proofs.lists.all_of.Given as goal

abbrev pub invariant-loop-entry : goal.invariant-loop-entry
invariant-loop-entry l = l.all.items ++ l.entry-iterator ≡ l.fn.entries
