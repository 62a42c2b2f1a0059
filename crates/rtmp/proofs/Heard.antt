-- The table after a range was heard.
use Rattle.std.proofs.Common.{◌≡◌, ℕ, ◌+◌, ◌<◌, ◌≤◌, Bool, true, false, cond, not, ◌&&◌, ◌||◌, ◌==◌, List, length}
use Rattle.std.proofs.Common.{Some, slice_set, true≢false}
use Rattle.std.proofs.Common.{None, refl, sym, ap, ◌∙◌, arith, nat_le}
use Rattle.std.specs.List.{list_any}
use Rattle.std.proofs.lemmas.Bool.{and_parts, not-true, leb-true, le-leb}
use Rattle.at_base.specs.Address.{same_address}
use Rattle.at_base.specs.declared.address.Addr.{Addr}
use Rattle.at_base.specs.Range.{Span, is_range, overlaps}
use Rattle.rtmp.specs.States.{is_usable}
use Rattle.rtmp.specs.declared.row.Row.{Row}
use Rattle.rtmp.specs.declared.state.State.TheVariants.{Bad}
use Rattle.rtmp.specs.declared.table.Change.{Change}
use Rattle.rtmp.specs.declared.table.Change.TheVariants.{Ignored, Changed, Added}
use Rattle.rtmp.specs.Routes.{is_row, is_direct, row_at, heard_row, after_hearing, is_new, heard, with_row, IsRouteMap}
use Rattle.at_base.specs.Spans.{IsAt}
use Rattle.at_base.proofs.Lists.{found_all}
use Rattle.at_base.proofs.Spans.{found_apart, no_other}
use Rattle.rtmp.proofs.Maps.{rows_apart, with_map}

-- the row of a range that was heard is valid
pub heard_good : (range : Span) (t : ℕ) (s : Addr) (port : ℕ) → is_range range.start range.end ≡ true → t ≤ 14
    → is_row (heard_row range t s port) ≡ true
heard_good range t s port valid near = let far : nat_le (t + 1) 31 ≡ true = le-leb _ _ (omega arith) in rw (valid, far) refl

-- a row after hearing is a valid row of the same range, and isn't added
record Keeps (row : Row) (after : Row × Change) : Type 0 where
  good : is_row after.0 ≡ true
  own : after.0.range ≡ row.range
  old : after.1 ≡ Added → ⊥

hearing_keeps : (row : Row) (t : ℕ) (s : Addr) (port : ℕ) → is_row row ≡ true → Keeps row (after_hearing row t s port)
hearing_keeps row t s port good =
    step (is_direct row) (nat_le t 14) (not (is_usable row.state) || nat_le (t + 1) row.distance)
    (same_address row.next s && row.port == port) refl
  where
    valid : is_range row.range.start row.range.end ≡ true
    valid = (and_parts (is_range row.range.start row.range.end) (nat_le row.distance 31) good).0

    step : (direct near nearer next : Bool) → nat_le t 14 ≡ near
        → Keeps row (cond direct (row, Ignored)
        (cond (near && nearer) (heard_row row.range t s port, Changed)
        (cond next (cond near (heard_row row.range t s port) (record row { state = Bad }), Changed) (row, Ignored))))
    step true near nearer next e = record { good = good; own = refl; old = λ h. cc }
    step false true true next e = record { good = heard_good row.range t s port valid (leb-true _ _ e); own = refl; old = λ h. cc }
    step false true false true e = record { good = heard_good row.range t s port valid (leb-true _ _ e); own = refl; old = λ h. cc }
    step false true false false e = record { good = good; own = refl; old = λ h. cc }
    step false false nearer true e = record { good = good; own = refl; old = λ h. cc }
    step false false nearer false e = record { good = good; own = refl; old = λ h. cc }

-- the facts about a range whose row is at an index
pub record There (range : Span) (t : ℕ) (s : Addr) (port : ℕ) (rows : List Row) (i : ℕ) (row : Row) : Type 0 where
  pub is : heard range t s port rows ≡ (slice_set rows i (after_hearing row t s port).0, (after_hearing row t s port).1)
  pub map : IsRouteMap (slice_set rows i (after_hearing row t s port).0)
  pub old : (heard range t s port rows).1 ≡ Added → ⊥

pub there : (range : Span) (t : ℕ) (s : Addr) (port : ℕ) (rows : List Row) (i : ℕ) (row : Row)
    (at : IsAt (λ r. r.range) range rows i) → IsRouteMap rows → at.item ≡ row → There range t s port rows i row
there range t s port rows i row at h is =
    let after = after_hearing row t s port in
    let found : row_at range rows ≡ Some row = rw (← is) at.found in
    let k = hearing_keeps row t s port (found_all is_row _ rows row h.each found) in
    let own : after.0.range ≡ range = k.own ∙ (rw (← is) at.own) in
    let put : with_row after.0 rows ≡ slice_set rows i after.0 = at.put after.0 own in
    let e : heard range t s port rows ≡ (slice_set rows i after.0, after.1) = rw (found, put) refl in
    let apart = (found_apart (λ r. r.range) range 0 rows row (rows_apart rows h) found).1 in
    record {
      is = e;
      map = rw (← put) (with_map after.0 rows k.good (rw own apart) (λ none. absurd (true≢false (rw (own, found) at none))) h);
      old = λ a. k.old (sym (ap (λ (x : List Row × Change). x.1) e) ∙ a);
    }

-- a range without a row that isn't added leaves the table as it is
pub ignored : (range : Span) (t : ℕ) (s : Addr) (port : ℕ) (rows : List Row) → row_at range rows ≡ None → is_new range t rows ≡ false
    → heard range t s port rows ≡ (rows, Ignored)
ignored range t s port rows none new = rw (none, new) refl

-- a range without a row that is added
pub new : (range : Span) (t : ℕ) (s : Addr) (port : ℕ) (rows : List Row) → row_at range rows ≡ None → is_new range t rows ≡ true
    → heard range t s port rows ≡ (with_row (heard_row range t s port) rows, Added)
new range t s port rows none is = rw (none, is) refl

pub new_map : (range : Span) (t : ℕ) (s : Addr) (port : ℕ) (rows : List Row) → IsRouteMap rows → is_range range.start range.end ≡ true
    → is_new range t rows ≡ true → length rows < 200 → IsRouteMap (with_row (heard_row range t s port) rows)
new_map range t s port rows h valid is room =
    let p = and_parts (nat_le t 14) (not (list_any (λ r. overlaps r.range range) rows)) is in
    with_map (heard_row range t s port) rows (heard_good range t s port valid (leb-true _ _ p.0))
    (no_other (λ r. r.range) range rows (not-true _ p.1)) (λ none. room) h
