use Rattle.std.proofs.Common.{◌≡◌, Some}
use Rattle.file_entries.proofs.entries.read_on.Given as goal

abbrev pub invariant-loop-value : goal.invariant-loop-value
invariant-loop-value g l = (t : _) → l.initial.faults ≡ Some t → l.faults ≡ Some t
