-- Zone tables as lists by rising range, and what each change keeps.
use Rattle.std.proofs.Common.{◌≡◌, ◌==◌, ℕ, ◌<◌, ◌≤◌, Bool, true, false, not, ◌&&◌, ◌||◌, List, [], ◌∷◌, length, refl, sym, ap, ◌∙◌, arith, nat_le}
use Rattle.std.specs.Prelude.{Option, Some, None, slice_set, if◌then◌else◌}
use Rattle.std.specs.List.{list_all, list_any}
use Rattle.std.proofs.lemmas.Bool.Decides.{nat_tests}
use Rattle.std.proofs.lemmas.Bool.{and_parts}
use Rattle.at_base.specs.Range.{Span, is_range, overlaps, same_range}
use Rattle.at_base.specs.Spans.{AreApart, IsAt}
use Rattle.at_base.proofs.Ranges.{ends_of, one_range}
use Rattle.at_base.proofs.Lists.{all_filter, few_filter, found_all, found_is}
use Rattle.at_base.proofs.Spans.{above_of, all_with, apart_filter, apart_of, apart_with, few_with}
use Rattle.at_base.specs.Limits.{max_zones}
use Rattle.zip_zones.specs.Zones.{Known, IsZoneMap, are_distinct, heard, is_complete, is_full_for, is_known, known_for, list_of}
use Rattle.zip_zones.specs.Zones.{overlaps_another, set_list, with_known, with_name, with_zone, without}
use Rattle.zip_zones.proofs.Names.{distinct_fold, distinct_with, not_more, one_longer}

-- ---- a valid list

pub known_of_parts : (k : Known) → is_range k.range.start k.range.end ≡ true → k.total ≤ max_zones → length k.names ≤ k.total
    → are_distinct k.names ≡ true → is_known k ≡ true
known_of_parts k valid few within distinct = rw (valid, distinct, le_test _ _ few, le_test _ _ within) refl
  where
    le_test : (a b : ℕ) → a ≤ b → nat_le a b ≡ true
    le_test a b le = grind (arith, nat_tests)

pub known_parts : (k : Known) → is_known k ≡ true
    → (is_range k.range.start k.range.end ≡ true) × (k.total ≤ max_zones) × (length k.names ≤ k.total) × (are_distinct k.names ≡ true)
known_parts k h =
    let a = and_parts (is_range k.range.start k.range.end && nat_le k.total max_zones && nat_le (length k.names) k.total)
    (are_distinct k.names) h in
    let b = and_parts (is_range k.range.start k.range.end && nat_le k.total max_zones) (nat_le (length k.names) k.total) a.0 in
    let c = and_parts (is_range k.range.start k.range.end) (nat_le k.total max_zones) b.0 in
    (c.0, le_of _ _ c.1, le_of _ _ b.1, a.1)
  where
    le_of : (a b : ℕ) → nat_le a b ≡ true → a ≤ b
    le_of a b t = grind (arith, nat_tests)

pub set_known : (range : Span) (names : List (List ℕ)) → is_range range.start range.end ≡ true → length names ≤ max_zones
    → is_known (set_list range names) ≡ true
set_known range names valid few =
    known_of_parts (set_list range names) valid (omega (arith, not_more names)) (omega arith) (distinct_fold [] names refl)

pub fresh_known : (range : Span) (total : ℕ) → is_range range.start range.end ≡ true → total ≤ max_zones
    → is_known (record { range = range; total = total; names = [] }) ≡ true
fresh_known range total valid few = known_of_parts (record { range = range; total = total; names = [] }) valid few (omega arith) refl

pub zone_known : (name : List ℕ) (k : Known) → is_known k ≡ true → is_known (with_zone name k) ≡ true
zone_known name k h =
    let p = known_parts k h in
    (elim (is_complete k) as (λ b. is_complete k ≡ b → is_known (if b then k else record k { names = with_name k.names name }) ≡ true) [
      | true ↦ λ t. h
      | false ↦ λ t.
          let few : length (with_name k.names name) ≤ k.total = omega (
            arith,
            one_longer k.names name,
            less
                (length k.names) k.total p.2 t,
          ) in
          known_of_parts (record k { names = with_name k.names name }) p.0 p.1 few (distinct_with k.names name p.3)
    ]) refl
  where
    less : (a b : ℕ) → a ≤ b → (a == b) ≡ false → a < b
    less a b le n = grind (arith, nat_tests)

-- ---- what each change keeps

pub known_ends : (k : Known) → is_known k ≡ true → (1 ≤ k.range.start) × (k.range.start ≤ k.range.end)
known_ends k h = let e = ends_of k.range.start k.range.end (known_parts k h).0 in (e.0, e.1)

pub lists_apart : (table : List Known) → IsZoneMap table → AreApart (λ k. k.range) 0 table
lists_apart table h = apart_of (λ k. k.range) is_known (λ k good. (known_ends k good).1) 0 table h.each h.apart

-- a map without a list is a map
pub without_map : (range : Span) (table : List Known) → IsZoneMap table → IsZoneMap (without range table)
without_map range table h =
    let others : Known → Bool = λ k. not (same_range k.range range) in
    record {
      apart = above_of (λ k. k.range) 0 (without range table) (apart_filter (λ k. k.range) others 0 table (lists_apart table h));
      each = all_filter is_known others table h.each;
      few = omega (arith, few_filter others table, h.few);
    }

-- putting a list at its place keeps the map
pub with_map : (known : Known) (table : List Known) → is_known known ≡ true → overlaps_another known.range table ≡ false
    → is_full_for known.range table ≡ false → IsZoneMap table → IsZoneMap (with_known known table)
with_map known table new none room h =
    let apart = lists_apart table h in
    let ends = known_ends known new in
    record {
      apart = above_of (λ k. k.range) 0 (with_known known table)
          (apart_with (λ k. k.range) known 0 table ends.1 none (omega (arith, ends.0)) apart);
      each = all_with (λ k. k.range) is_known known table new h.each;
      few = few_with (λ k. k.range) 200 known 0 table apart h.few (λ none. left (rw none at room));
    }
  where
    left : nat_le 200 (length table) ≡ false → length table < 200
    left t = grind (arith, nat_tests)

-- ---- a name that is added

pub list_own : (range : Span) (total : ℕ) (table : List Known) → (list_of range total (known_for range table)).range ≡ range
list_own range total table = by_list (known_for range table) refl
  where
    by_list : (o : Option Known) → known_for range table ≡ o → (list_of range total o).range ≡ range
    by_list None e = refl
    by_list (Some x) e =
        elim (x.total == total) as (λ b. (if b then x else record { range = range; total = total; names = [] }).range ≡ range) [
          | true ↦ one_range x.range range (found_is _ table x e)
          | false ↦ refl
        ]

-- the list before a name is added is a valid list of the range
pub list_known : (range : Span) (total : ℕ) (table : List Known) → is_range range.start range.end ≡ true → total ≤ max_zones
    → list_all is_known table ≡ true
    → (is_known (list_of range total (known_for range table)) ≡ true) × ((list_of range total (known_for range table)).range ≡ range)
list_known range total table valid few each = by_list (known_for range table) refl
  where
    fresh : Known
    fresh = record { range = range; total = total; names = [] }

    by_list : (o : Option Known) → known_for range table ≡ o
        → (is_known (list_of range total o) ≡ true) × ((list_of range total o).range ≡ range)
    by_list None e = (fresh_known range total valid few, refl)
    by_list (Some x) e =
        let good = found_all is_known _ table x each e in
        elim (x.total == total) as (λ b. (is_known (if b then x else fresh) ≡ true) × ((if b then x else fresh).range ≡ range)) [
          | true ↦ (good, one_range x.range range (found_is _ table x e))
          | false ↦ (fresh_known range total valid few, refl)
        ]

pub same_after : (name : List ℕ) (k : Known) → (with_zone name k).range ≡ k.range
same_after name k = elim (is_complete k) as (λ b. (if b then k else record k { names = with_name k.names name }).range
    ≡ k.range) [ true ↦ refl | false ↦ refl ]

-- adding a name keeps the map
pub heard_map : (range : Span) (total : ℕ) (name : List ℕ) (table : List Known) → is_range range.start range.end ≡ true → total ≤ max_zones
    → overlaps_another range table ≡ false → is_full_for range table ≡ false → IsZoneMap table → IsZoneMap (heard range total name table)
heard_map range total name table valid few none room h =
    let l = list_known range total table valid few h.each in
    let known = with_zone name (list_of range total (known_for range table)) in
    let same : known.range ≡ range = same_after name (list_of range total (known_for range table)) ∙ l.1 in
    with_map known table (zone_known name (list_of range total (known_for range table)) l.0) (ap (λ s. overlaps_another s table) same
    ∙ none) (ap (λ s. is_full_for s table) same ∙ room) h

-- a list to which a name is added stays at its place
pub heard_over : (range : Span) (total : ℕ) (name : List ℕ) (table : List Known) (place : ℕ) (at : IsAt (λ k. k.range) range table place)
    → list_of range total (Some at.item) ≡ at.item → slice_set table place (with_zone name at.item) ≡ heard range total name table
heard_over range total name table place at stays =
    let known : list_of range total (known_for range table) ≡ at.item = ap (list_of range total) at.found ∙ stays in
    rw known (sym (at.put (with_zone name at.item) (same_after name at.item ∙ at.own)))

-- ---- ranges that overlap

-- where a range has no list, another range overlaps it if any does
pub others_only : (range : Span) (table : List Known) → known_for range table ≡ None
    → list_any (λ k. overlaps k.range range) table ≡ overlaps_another range table
others_only range [] none = refl
others_only range (k ∷ table) none = by (same_range k.range range) none (others_only range table)
  where
    and_true : (b : Bool) → b ≡ (b && true)
    and_true true = refl
    and_true false = refl

    by : (b : Bool) → (if b then Some k else known_for range table) ≡ None
        → (known_for range table ≡ None → list_any (λ k. overlaps k.range range) table ≡ overlaps_another range table)
        → (overlaps k.range range || list_any (λ k. overlaps k.range range) table)
        ≡ ((overlaps k.range range && not b) || overlaps_another range table)
    by true e rest = cc
    by false e rest = rw (rest e) (ap (λ (b : Bool). b || overlaps_another range table) (and_true (overlaps k.range range)))
