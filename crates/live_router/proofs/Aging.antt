-- Whether a row is removed when the rows age, row by row, and that no zone list is removed where no row is.
use Rattle.std.proofs.Common.{◌≡◌, ◌∙◌, ℕ, ◌+◌, ◌≤◌, Bool, true, false, List, [], ◌∷◌, filter, drop, length, Some}
use Rattle.std.proofs.Common.{refl, sym, ap}
use Rattle.std.specs.Prelude.{slice_get}
use Rattle.std.specs.List.{list_any}
use Rattle.std.proofs.lemmas.List.{drop_all}
use Rattle.learning.specs.Forgetting.{without_gone}
use Rattle.rtmp.proofs.Sent.{row_next}
use Rattle.rtmp.specs.declared.row.Row.{Row}
use Rattle.rtmp.specs.Routes.{is_over}
use Rattle.zip_zones.specs.Zones.{Known}

-- the row at an index is removed
pub over_found : (rows : List Row) (i : ℕ) (r : Row) → slice_get rows i ≡ Some r → is_over r ≡ true
    → list_any is_over (drop i rows) ≡ list_any is_over rows → true ≡ list_any is_over rows
over_found rows i r found over before =
    let first : list_any is_over (drop i rows) ≡ true = rw (row_next rows i r found, over) refl in
    sym first ∙ before

-- the row at an index isn't removed
pub over_next : (rows : List Row) (i : ℕ) (r : Row) → slice_get rows i ≡ Some r → is_over r ≡ false
    → list_any is_over (drop i rows) ≡ list_any is_over rows
    → list_any is_over (drop (i + 1) rows) ≡ list_any is_over rows
over_next rows i r found stays before =
    let first : list_any is_over (drop i rows) ≡ list_any is_over (drop (i + 1) rows) =
    rw (row_next rows i r found, stays) refl in
    sym first ∙ before

-- past the last row
pub over_past : (rows : List Row) (i : ℕ) → length rows ≤ i → list_any is_over (drop i rows) ≡ list_any is_over rows
    → false ≡ list_any is_over rows
over_past rows i past before = ap (list_any is_over) (sym (drop_all i rows past)) ∙ before

none_over : (rows : List Row) → list_any is_over rows ≡ false → filter is_over rows ≡ []
none_over [] h = refl
none_over (r ∷ rows) h = by (is_over r) refl (λ (none : list_any is_over rows ≡ false). none_over rows none)
  where
    by : (b : Bool) → is_over r ≡ b → (list_any is_over rows ≡ false → filter is_over rows ≡ [])
        → filter is_over (r ∷ rows) ≡ []
    by true e rest = absurd (let bad : true ≡ false = rw e at h in cc)
    by false e rest = rw e (rest (rw e at h))

none_without : (table : List Known) → table ≡ without_gone [] table
none_without [] = refl
none_without (k ∷ table) = ap (λ (t : List Known). k ∷ t) (none_without table)

-- where no row is removed, the zone lists stay
pub lists_stay : (rows : List Row) (table : List Known) → list_any is_over rows ≡ false → table ≡ without_gone rows table
lists_stay rows table h = rw (none_over rows h) (none_without table)
