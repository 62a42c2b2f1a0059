use Rattle.std.proofs.Common.{◌≡◌, ◌==◌}
use Rattle.std.specs.List.{list_all}
use Rattle.learning.proofs.names.are_of.Given as goal

-- the entries that are left decide
abbrev pub invariant-loop-entry : goal.invariant-loop-entry
invariant-loop-entry l = list_all (λ e. e.net == l.net) l.entry-iterator ≡ list_all (λ e. e.net == l.net) l.fn.entries
