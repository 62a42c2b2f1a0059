use Rattle.std.proofs.Common.{◌≤◌, length}
use Rattle.atp.specs.Copies.{CopiedTo}
use Rattle.atp.proofs.table.copy_all.Given as goal

abbrev pub invariant-loop-key : goal.invariant-loop-key
invariant-loop-key l = record {
  within : length l.table.slots ≤ l.key-end;
  copied : CopiedTo l.key l.table l.copy;
}
