use Rattle.std.proofs.Common.{◌≡◌, ◌≤◌, ◌<◌, ℕ, length}
use Rattle.std.specs.Option.{option_map}
use Rattle.slab.specs.Slab.{get}
use Rattle.atp.specs.Repeating.{stepped}
use Rattle.atp.specs.Slots.{IsTable}
use Rattle.atp.proofs.table.step_all.Given as goal

abbrev pub invariant-loop-key : goal.invariant-loop-key
invariant-loop-key l = record {
  table : IsTable l.table;
  within : length l.initial.table.slots ≤ l.key-end;
  before : (k : ℕ) → k < l.key → get l.table k ≡ option_map (stepped l.step) (get l.initial.table k);
  after : (k : ℕ) → l.key ≤ k → get l.table k ≡ get l.initial.table k;
}
