use Rattle.std.proofs.Common.{◌≡◌, ◌≤◌, drop, length}
use Rattle.atp.specs.Requesting.{known}
use Rattle.atp.proofs.table.key_of.Given as goal

abbrev pub invariant-loop-key : goal.invariant-loop-key
invariant-loop-key l = record {
  within : length l.table.slots ≤ l.key-end;
  rest : known l.id l.table.slots ≡ known l.id (drop l.key l.table.slots);
}
