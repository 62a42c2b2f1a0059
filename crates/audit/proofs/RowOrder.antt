-- Rows rise, so at most one has a given range.
use Rattle.std.proofs.Common.{◌≡◌, ℕ, ◌<◌, ◌&&◌, ◌==◌, true, false, List, Some, slice_get, arith, sym, find}
use Rattle.std.proofs.lemmas.Bool.{eqb-true, and_parts, false_from_ne_true}
use Rattle.table_image.specs.Bounds.{AreRising}
use Rattle.table_image.specs.declared.row.Row.{Row}
use Rattle.audit.proofs.Finding.{first_found}

-- of rising rows, at most one has a given range
pub only_row : (rows : List Row) (row : Row) (k : ℕ) (other : Row) → AreRising rows → slice_get rows k ≡ Some other
    → (other.start == row.start && other.end == row.end) ≡ true
    → Some other ≡ find (λ (other : Row). other.start == row.start && other.end == row.end) rows
only_row rows row k other rise at same =
    sym (first_found (λ (other : Row). other.start == row.start && other.end == row.end) rows k other at same before)
  where
    starts : (r : Row) → (r.start == row.start && r.end == row.end) ≡ true → r.start ≡ row.start
    starts r t = eqb-true r.start row.start (and_parts _ _ t).0

    before : (j : ℕ) (r : Row) → j < k → slice_get rows j ≡ Some r → (r.start == row.start && r.end == row.end) ≡ false
    before j r lt at_j =
        false_from_ne_true (r.start == row.start && r.end == row.end) (λ t.
        let up = rise j k r other at_j at lt in
        let mine = starts other same in
        let its = starts r t in
        omega (arith, up, mine, its))
