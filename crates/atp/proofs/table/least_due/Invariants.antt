use Rattle.std.proofs.Common.{Some, length, true, ℕ, ◌<◌, ◌≡◌, ◌≤◌}
use Rattle.std.specs.Option.{IfSome, IfNone}
use Rattle.slab.specs.Slab.{get}
use Rattle.atp.specs.declared.transaction.Transaction.{Transaction}
use Rattle.atp.specs.Repeating.{is_due_by}
use Rattle.atp.proofs.table.least_due.Given as goal

abbrev pub invariant-loop-key : goal.invariant-loop-key
invariant-loop-key l = record {
  within : length l.table.slots ≤ l.key-end;
  none : IfNone l.best ((k : ℕ) (t : Transaction) → k < l.key → get l.table k ≡ Some t → l.first ≤ t.id → is_due_by l.when t ≡ true → ⊥);
  some : IfSome l.best (λ id. (k : ℕ) × (t : Transaction) × (get l.table k ≡ Some t) × (t.id ≡ id) × (l.first ≤ id)
      × (is_due_by l.when t ≡ true));
  least : IfSome l.best (λ id. (k : ℕ) (t : Transaction) → k < l.key → get l.table k ≡ Some t → l.first ≤ t.id
      → is_due_by l.when t ≡ true → id ≤ t.id);
}
