-- Routing tables as lists by rising range, and what each change keeps.
use Rattle.std.proofs.Common.{◌≡◌, ℕ, ◌<◌, ◌≤◌, Bool, true, false, cond, not, ◌&&◌, List, [], ◌∷◌, length, map, filter}
use Rattle.std.proofs.Common.{refl, ◌∙◌, arith, nat_le, is_some}
use Rattle.std.specs.List.{list_all, list_any}
use Rattle.std.proofs.lemmas.Bool.{and_parts}
use Rattle.std.proofs.lemmas.List.{length-map}
use Rattle.at_base.specs.Range.{Span, overlaps, is_range}
use Rattle.at_base.specs.Spans.{AreApart, overlaps_another}
use Rattle.at_base.proofs.Ranges.{ends_of}
use Rattle.at_base.proofs.Lists.{all_filter, few_filter}
use Rattle.at_base.proofs.Spans.{above_map, above_of, all_with, apart_filter, apart_of, apart_with, few_with, no_other}
use Rattle.at_base.specs.Address.{same_address}
use Rattle.at_base.specs.declared.address.Addr.{Addr}
use Rattle.rtmp.specs.declared.state.State.TheVariants.{Bad}
use Rattle.rtmp.specs.declared.row.Row.{Row}
use Rattle.rtmp.specs.Routes.{IsRouteMap, aged, aged_row, beside, direct_row, directed, is_direct, is_over, is_row, older, poisoned}
use Rattle.rtmp.specs.Routes.{poisoned_row, row_at, with_row}

pub row_ends : (r : Row) → is_row r ≡ true → (1 ≤ r.range.start) × (r.range.start ≤ r.range.end)
row_ends r h =
    let p = and_parts (is_range r.range.start r.range.end) (nat_le r.distance 31) h in
    let e = ends_of r.range.start r.range.end p.0 in
    (e.0, e.1)

pub rows_apart : (rows : List Row) → IsRouteMap rows → AreApart (λ r. r.range) 0 rows
rows_apart rows h = apart_of (λ r. r.range) is_row (λ r good. (row_ends r good).1) 0 rows h.each h.apart

-- ---- operations that keep a map

all_map : (f : Row → Row) → ((r : Row) → is_row r ≡ true → is_row (f r) ≡ true) → (rows : List Row) → list_all is_row rows ≡ true
    → list_all is_row (map f rows) ≡ true
all_map f good [] each = refl
all_map f good (r ∷ rows) each =
    let e = and_parts (is_row r) (list_all is_row rows) each in
    rw (good r e.0, all_map f good rows e.1) refl

filtered_map : (p : Row → Bool) (rows : List Row) → IsRouteMap rows → IsRouteMap (filter p rows)
filtered_map p rows h = record {
  apart = above_of (λ r. r.range) 0 (filter p rows) (apart_filter (λ r. r.range) p 0 rows (rows_apart rows h));
  each = all_filter is_row p rows h.each;
  few = omega (arith, few_filter p rows, h.few);
}

updated_map : (f : Row → Row) → ((r : Row) → (f r).range ≡ r.range) → ((r : Row) → is_row r ≡ true → is_row (f r) ≡ true)
    → (rows : List Row) → IsRouteMap rows → IsRouteMap (map f rows)
updated_map f same good rows h = record {
  apart = above_map (λ r. r.range) f same 0 rows ∙ h.apart;
  each = all_map f good rows h.each;
  few = rw (length-map rows f) h.few;
}

-- the map with a row that overlaps no other, if there is room for it
pub with_map : (row : Row) (rows : List Row) → is_row row ≡ true → overlaps_another (λ r. r.range) row.range rows ≡ false
    → (is_some (row_at row.range rows) ≡ false → length rows < 200) → IsRouteMap rows → IsRouteMap (with_row row rows)
with_map row rows new none room h =
    let apart = rows_apart rows h in
    let ends = row_ends row new in
    record {
      apart = above_of (λ r. r.range) 0 (with_row row rows)
          (apart_with (λ r. r.range) row 0 rows ends.1 none (omega (arith, ends.0)) apart);
      each = all_with (λ r. r.range) is_row row rows new h.each;
      few = few_with (λ r. r.range) 200 row 0 rows apart h.few room;
    }

-- ---- each operation

-- rows with valid ranges and distances of at most 31 are valid
pub each_row : (rows : List Row) → list_all (λ r. is_range r.range.start r.range.end) rows ≡ true
    → list_all (λ r. nat_le r.distance 31) rows ≡ true → list_all is_row rows ≡ true
each_row [] valid near = refl
each_row (r ∷ rows) valid near =
    let v = and_parts (is_range r.range.start r.range.end) (list_all (λ r. is_range r.range.start r.range.end) rows) valid in
    let n = and_parts (nat_le r.distance 31) (list_all (λ r. nat_le r.distance 31) rows) near in
    rw (v.0, n.0, each_row rows v.1 n.1) refl

aged_range : (r : Row) → (aged_row r).range ≡ r.range
aged_range r = elim (is_direct r) as (λ b. (cond b r (record r { state = older r.state })).range ≡ r.range) [ true ↦ refl | false ↦ refl ]

aged_good : (r : Row) → is_row r ≡ true → is_row (aged_row r) ≡ true
aged_good r h = elim (is_direct r) as (λ b. is_row (cond b r (record r { state = older r.state })) ≡ true) [ true ↦ h | false ↦ h ]

pub aged_map : (rows : List Row) → IsRouteMap rows → IsRouteMap (aged rows)
aged_map rows h =
    updated_map aged_row aged_range aged_good (filter (λ r. not (is_over r)) rows) (filtered_map (λ r. not (is_over r)) rows h)

pub poisoned_range : (next : Addr) (r : Row) → (poisoned_row next r).range ≡ r.range
poisoned_range next r =
    elim (not (is_direct r) && same_address r.next next) as (λ b. (cond b (record r { state = Bad }) r).range ≡ r.range)
    [ true ↦ refl | false ↦ refl ]

poisoned_good : (next : Addr) (r : Row) → is_row r ≡ true → is_row (poisoned_row next r) ≡ true
poisoned_good next r h =
    elim (not (is_direct r) && same_address r.next next) as (λ b. is_row (cond b (record r { state = Bad }) r) ≡ true)
    [ true ↦ h | false ↦ h ]

pub poisoned_map : (next : Addr) (rows : List Row) → IsRouteMap rows → IsRouteMap (poisoned next rows)
poisoned_map next rows h = updated_map (poisoned_row next) (poisoned_range next) (poisoned_good next) rows h

-- no row of `beside range rows` overlaps the range
none_beside : (range : Span) (rows : List Row) → list_any (λ r. overlaps r.range range) (beside range rows) ≡ false
none_beside range [] = refl
none_beside range (r ∷ rows) =
    (elim (overlaps r.range range) as
    (λ b. overlaps r.range range ≡ b → list_any (λ r. overlaps r.range range) (beside range (r ∷ rows)) ≡ false) [
      | true ↦ λ t. rw t (none_beside range rows)
      | false ↦ λ t. rw (t, t) (none_beside range rows)
    ]) refl

pub beside_apart : (range : Span) (rows : List Row) → IsRouteMap rows → AreApart (λ r. r.range) 0 (beside range rows)
beside_apart range rows h = rows_apart (beside range rows) (filtered_map (λ r. not (overlaps r.range range)) rows h)

pub directed_map : (range : Span) (port : ℕ) (rows : List Row) → is_range range.start range.end ≡ true → length (beside range rows) < 200
    → IsRouteMap rows → IsRouteMap (directed range port rows)
directed_map range port rows valid room h =
    with_map (direct_row range port) (beside range rows) (rw valid refl)
    (no_other (λ r. r.range) range (beside range rows) (none_beside range rows)) (λ new. room)
    (filtered_map (λ r. not (overlaps r.range range)) rows h)
