use Rattle.std.proofs.Common.{◌≡◌, ℕ, ◌<◌, true, Some, IfSome, slice_get}
use Rattle.table_image.specs.declared.row.Row.{Row}
use Rattle.audit.specs.Straight.{IsFound, is_straight}
use Rattle.audit.proofs.straight.has_straight_rows.Given as goal

abbrev pub invariant-loop-k : goal.invariant-loop-k
invariant-loop-k l =
    ((j : ℕ) → j < l.k → (row : Row) → slice_get l.router.rows j ≡ Some row → is_straight l.image l.router j row ≡ true)
    × IfSome l.last (IsFound l.image l.router)
