use Rattle.std.proofs.Common.{◌≡◌, Some}
use Rattle.internet_file.proofs.names.read_on.Given as goal

abbrev pub invariant-loop-value : goal.invariant-loop-value
invariant-loop-value l = (t : _) → l.initial.faults ≡ Some t → l.faults ≡ Some t
