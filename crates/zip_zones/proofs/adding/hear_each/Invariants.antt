use Rattle.std.proofs.Common.{◌≡◌, ◌++◌, drop, length}
use Rattle.zip_zones.specs.Answers.{with_names}
use Rattle.zip_zones.proofs.adding.hear_each.Given as goal

-- adding the names that are left gives the whole result, and the list begins with the names that it had
abbrev pub invariant-loop-entry : goal.invariant-loop-entry
invariant-loop-entry l =
    (with_names l.entry-iterator l.known ≡ with_names l.fn.entries l.initial.known)
    × (l.known.names ≡ l.kept ++ drop (length l.kept) l.known.names) × (l.known.range ≡ l.initial.known.range)
