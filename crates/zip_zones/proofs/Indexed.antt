-- The index of a zone table after each change of its lists.
use Rattle.std.proofs.Common.{◌≡◌, ◌==◌, ℕ, zero, suc, ◌+◌, ◌≤◌, Bool, true, false, not, List, [], ◌∷◌, ◌++◌, length}
use Rattle.std.proofs.Common.{flat_map, Some, None, slice_get, slice_set, refl, sym, ap, ◌∙◌, arith, subst, append_assoc, append-nil}
use Rattle.std.specs.Prelude.{if◌then◌else◌}
use Rattle.std.proofs.lemmas.List.Concat.{flat_map-append}
use Rattle.at_base.specs.Range.{Span, same_range}
use Rattle.at_base.specs.Spans.{AreApart, IsAt}
use Rattle.at_base.specs.Numbers.{AreRising, in_order, with_number, without_number}
use Rattle.at_base.proofs.Numbers.{in_order_among, rises, rising_lower, with_twice, without_with}
use Rattle.at_base.proofs.Ranges.{not_same, one_range}
use Rattle.at_base.proofs.Spans.{put_cases}
use Rattle.zip_zones.specs.Zones.{Known, IsZoneMap, has_zone, heard, is_complete, known_for, list_of, with_known, with_name, with_zone, without}
use Rattle.zip_zones.specs.Indexing.{IsIndexed, index_of, key_of, number_of, numbers_from, numbers_in, with_numbers, without_numbers}
use Rattle.zip_zones.proofs.Tables.{heard_over, lists_apart}

-- ---- numbers that are added and taken out

-- numbers among others are added at their places
among : (front more after : List ℕ) → in_order (front ++ (more ++ after)) ≡ with_numbers more (in_order (front ++ after))
among front [] after = refl
among front (n ∷ more) after = in_order_among front n (more ++ after) ∙ ap (with_number n) (among front more after)

-- what was added is taken out again
pub taken : (more index : List ℕ) → without_numbers more (with_numbers more index) ≡ index
taken [] index = refl
taken (n ∷ more) index = ap (without_numbers more) (without_with n (with_numbers more index)) ∙ taken more index

pub rising_less : (n low : ℕ) (index : List ℕ) → AreRising low index → AreRising low (without_number n index)
rising_less n low [] h = tt
rising_less n low (a ∷ index) h = by (a == n) (rising_less n a index h.1)
  where
    by : (b : Bool) → AreRising a (without_number n index) → AreRising low (if b then index else a ∷ without_number n index)
    by true rest = rising_lower low a index h.0 h.1
    by false rest = (h.0, rest)

pub long_less : (n : ℕ) (index : List ℕ) → length (without_number n index) ≤ length index
long_less n [] = omega arith
long_less n (a ∷ index) = by (a == n) (long_less n index)
  where
    by : (b : Bool) → length (without_number n index) ≤ length index
        → length (if b then index else a ∷ without_number n index) ≤ suc (length index)
    by true rest = omega arith
    by false rest = omega (arith, rest)

-- a number is put before others or after them
with_past : (n : ℕ) (more index : List ℕ) → with_number n (with_numbers more index) ≡ with_numbers more (with_number n index)
with_past n [] index = refl
with_past n (m ∷ more) index = with_twice n m (with_numbers more index) ∙ ap (with_number m) (with_past n more index)

-- numbers at the end are numbers more
more_after : (more last index : List ℕ) → with_numbers (more ++ last) index ≡ with_numbers last (with_numbers more index)
more_after [] last index = refl
more_after (m ∷ more) last index = ap (with_number m) (more_after more last index) ∙ with_past m last (with_numbers more index)

-- the numbers of names, with more names at the end
numbers_after : (start nth : ℕ) (names more : List (List ℕ))
    → numbers_from start nth (names ++ more) ≡ numbers_from start nth names ++ numbers_from start (nth + length names) more
numbers_after start nth [] more = ap (λ (m : ℕ). numbers_from start m more) (omega arith)
numbers_after start nth (n ∷ names) more =
    ap (λ (l : List ℕ). number_of (key_of n) start nth ∷ l) (numbers_after start (suc nth) names more
    ∙ ap (λ (m : ℕ). numbers_from start (suc nth) names ++ numbers_from start m more) (omega arith))

-- ---- lists that are put and taken out

-- the index with a list put is the index without the list of its range, with the list's numbers
put_from : (k : Known) (front : List ℕ) (low : ℕ) (table : List Known) → AreApart (λ k. k.range) low table
    → in_order (front ++ flat_map numbers_in (with_known k table))
    ≡ with_numbers (numbers_in k) (in_order (front ++ flat_map numbers_in (without k.range table)))
put_from k front low [] h = among front (numbers_in k) []
put_from k front low (a ∷ table) h =
    put_cases (λ a. a.range) (λ l. in_order (front ++ flat_map numbers_in l)
    ≡ with_numbers (numbers_in k) (in_order (front ++ flat_map numbers_in (without k.range (a ∷ table))))) k a table
    (λ lt. rw (not_same a.range k.range (λ s. omega (arith, s, lt)))
    (sides (with_known k table) ∙ put_from k (front ++ numbers_in a) a.range.end table h.2
    ∙ ap (with_numbers (numbers_in k)) (sym (sides (without k.range table)))))
    (λ s. let one : a.range ≡ k.range = one_range a.range k.range s in
    rw (s, stays k.range a.range.end table (subst (λ (r : Span). r.start ≤ a.range.end) one h.1) h.2)
    (among front (numbers_in k) (flat_map numbers_in table)))
    (λ le s. rw (s, stays k.range a.range.end table (omega (arith, le, h.1)) h.2)
    (among front (numbers_in k) (numbers_in a ++ flat_map numbers_in table)))
  where
    sides : (l : List Known) → in_order (front ++ (numbers_in a ++ flat_map numbers_in l))
        ≡ in_order ((front ++ numbers_in a) ++ flat_map numbers_in l)
    sides l = ap in_order (sym (append_assoc front (numbers_in a) (flat_map numbers_in l)))

    -- lists above a range are without it
    stays : (range : Span) (high : ℕ) (table : List Known) → range.start ≤ high → AreApart (λ k. k.range) high table
        → without range table ≡ table
    stays range high [] le h = refl
    stays range high (b ∷ table) le h =
        rw (not_same b.range range (λ s. omega (arith, s, le, h.0)))
        (ap (λ (l : List Known). b ∷ l) (stays range b.range.end table (omega (arith, le, h.0, h.1)) h.2))

pub put_index : (k : Known) (table : List Known) → AreApart (λ k. k.range) 0 table
    → index_of (with_known k table) ≡ with_numbers (numbers_in k) (index_of (without k.range table))
put_index k table h = put_from k [] 0 table h

set_same : (table : List Known) (i : ℕ) (k : Known) → slice_get table i ≡ Some k → slice_set table i k ≡ table
set_same [] i k e = cc
set_same (a ∷ table) zero k e = let same : a ≡ k = cc in rw same refl
set_same (a ∷ table) (suc i) k e = ap (λ (l : List Known). a ∷ l) (set_same table i k e)

-- the index of a table that has a list of the range is the index without the list, with its numbers
pub had_index : (range : Span) (table : List Known) (i : ℕ) (at : IsAt (λ k. k.range) range table i) → AreApart (λ k. k.range) 0 table
    → index_of table ≡ with_numbers (numbers_in at.item) (index_of (without range table))
had_index range table i at h =
    let same : with_known at.item table ≡ table = at.put at.item at.own ∙ set_same table i at.item at.is in
    ap index_of (sym same) ∙ put_index at.item table h
    ∙ ap (λ (r : Span). with_numbers (numbers_in at.item) (index_of (without r table))) at.own

-- the index after the numbers of a list are taken out
pub taken_index : (range : Span) (table : List Known) (i : ℕ) (at : IsAt (λ k. k.range) range table i) → AreApart (λ k. k.range) 0 table
    → without_numbers (numbers_in at.item) (index_of table) ≡ index_of (without range table)
taken_index range table i at h =
    ap (without_numbers (numbers_in at.item)) (had_index range table i at h) ∙ taken (numbers_in at.item) (index_of (without range table))

-- a table without a list of the range is the same without it
pub none_out : (range : Span) (table : List Known) → known_for range table ≡ None → without range table ≡ table
none_out range [] none = refl
none_out range (k ∷ table) none = by (same_range k.range range) none (none_out range table)
  where
    by : (b : Bool) → (if b then Some k else known_for range table) ≡ None
        → (known_for range table ≡ None → without range table ≡ table)
        → (if not b then k ∷ without range table else without range table) ≡ k ∷ table
    by true e rest = cc
    by false e rest = ap (λ (l : List Known). k ∷ l) (rest e)

-- the index after names are added at the end of the list at a place
pub lengthened_index : (range : Span) (table : List Known) (i : ℕ) (at : IsAt (λ k. k.range) range table i) (k : Known) (more : List (List ℕ))
    → AreApart (λ k. k.range) 0 table → k.range ≡ range → k.names ≡ at.item.names ++ more
    → index_of (with_known k table) ≡ with_numbers (numbers_from range.start (length at.item.names) more) (index_of table)
lengthened_index range table i at k more h own longer =
    let names = at.item.names in
    let numbers : numbers_in k ≡ numbers_in at.item ++ numbers_from range.start (length names) more =
    ap (λ (r : Span). numbers_from r.start 0 k.names) own ∙ ap (numbers_from range.start 0) longer
    ∙ numbers_after range.start 0 names more
    ∙ ap (λ (m : ℕ). numbers_from range.start 0 names ++ numbers_from range.start m more) (omega arith)
    ∙ ap (λ (r : Span). numbers_from r.start 0 names ++ numbers_from range.start (length names) more) (sym at.own) in
    put_index k table h ∙ ap (λ (r : Span). with_numbers (numbers_in k) (index_of (without r table))) own
    ∙ ap (λ (l : List ℕ). with_numbers l (index_of (without range table))) numbers
    ∙ more_after (numbers_in at.item) (numbers_from range.start (length names) more) (index_of (without range table))
    ∙ ap (with_numbers (numbers_from range.start (length names) more)) (sym (had_index range table i at h))

-- the index after a name is added at the end of the list at a place
pub longer_index : (range : Span) (table : List Known) (i : ℕ) (at : IsAt (λ k. k.range) range table i) (name : List ℕ)
    → AreApart (λ k. k.range) 0 table
    → index_of (slice_set table i (record at.item { names = at.item.names ++ name ∷ [] }))
    ≡ with_number (number_of (key_of name) range.start (length at.item.names)) (index_of table)
longer_index range table i at name h =
    let k = record at.item { names = at.item.names ++ name ∷ [] } in
    ap index_of (sym (at.put k at.own)) ∙ lengthened_index range table i at k (name ∷ []) h at.own refl

-- the index after a list is added last
pub last_index : (table : List Known) (k : Known) → index_of (table ++ k ∷ []) ≡ with_numbers (numbers_in k) (index_of table)
last_index table k =
    ap in_order (flat_map-append numbers_in table (k ∷ [])) ∙ among (flat_map numbers_in table) (numbers_in k) []
    ∙ ap (λ (l : List ℕ). with_numbers (numbers_in k) (in_order l)) (append-nil (flat_map numbers_in table))

-- the numbers of names in order, after a name is added at the end
pub one_more : (start : ℕ) (names : List (List ℕ)) (name : List ℕ)
    → in_order (numbers_from start 0 (names ++ name ∷ []))
    ≡ with_number (number_of (key_of name) start (length names)) (in_order (numbers_from start 0 names))
one_more start names name =
    let numbers = numbers_from start 0 names in
    let n = number_of (key_of name) start (0 + length names) in
    let at : 0 + length names ≡ length names = omega arith in
    ap in_order (numbers_after start 0 names (name ∷ [])) ∙ among numbers (n ∷ []) []
    ∙ ap (λ (l : List ℕ). with_number n (in_order l)) (append-nil numbers)
    ∙ ap (λ (m : ℕ). with_number (number_of (key_of name) start m) (in_order numbers)) at

-- ---- a table with its index

pub index_rises : (table : List Known) (index : List ℕ) → IsIndexed table index → AreRising 0 index
index_rises table index h = rw (h.index) (rises (flat_map numbers_in table))

pub indexed_apart : (table : List Known) (index : List ℕ) → IsIndexed table index → AreApart (λ k. k.range) 0 table
indexed_apart table index h = lists_apart table h.map

pub indexed_of : (table new : List Known) (index : List ℕ) → IsZoneMap table → new ≡ table → index ≡ index_of table → IsIndexed new index
indexed_of table new index map same is = record {
  map = rw same map;
  index = is ∙ ap index_of (sym same);
}

-- ---- a name that is heard

settled_complete : (name : List ℕ) (k : Known) → is_complete k ≡ true → with_zone name k ≡ k
settled_complete name k t = rw t refl

settled_has : (name : List ℕ) (k : Known) → has_zone name k ≡ true → with_zone name k ≡ k
settled_has name k t = by (is_complete k)
  where
    by : (b : Bool) → (if b then k else record k { names = with_name k.names name }) ≡ k
    by true = refl
    by false = rw t refl

heard_same : (range : Span) (total : ℕ) (name : List ℕ) (table : List Known) (place : ℕ) (at : IsAt (λ k. k.range) range table place)
    → list_of range total (Some at.item) ≡ at.item → with_zone name at.item ≡ at.item → table ≡ heard range total name table
heard_same range total name table place at stays same =
    sym (set_same table place at.item at.is) ∙ ap (slice_set table place) (sym same) ∙ heard_over range total name table place at stays

-- a name that a complete list gets changes nothing
pub heard_complete : (range : Span) (total : ℕ) (name : List ℕ) (table : List Known) (place : ℕ)
    (at : IsAt (λ k. k.range) range table place) → list_of range total (Some at.item) ≡ at.item → is_complete at.item ≡ true
    → table ≡ heard range total name table
heard_complete range total name table place at stays t =
    heard_same range total name table place at stays (settled_complete name at.item t)

-- nor does a name that the list has
pub heard_again : (range : Span) (total : ℕ) (name : List ℕ) (table : List Known) (place : ℕ)
    (at : IsAt (λ k. k.range) range table place) → list_of range total (Some at.item) ≡ at.item → has_zone name at.item ≡ true
    → table ≡ heard range total name table
heard_again range total name table place at stays t =
    heard_same range total name table place at stays (settled_has name at.item t)

-- another name goes to the end of the list
pub heard_last : (range : Span) (total : ℕ) (name : List ℕ) (table : List Known) (place : ℕ)
    (at : IsAt (λ k. k.range) range table place) → list_of range total (Some at.item) ≡ at.item → is_complete at.item ≡ false
    → has_zone name at.item ≡ false
    → slice_set table place (record at.item { names = at.item.names ++ name ∷ [] }) ≡ heard range total name table
heard_last range total name table place at stays more none =
    let after : with_zone name at.item ≡ record at.item { names = at.item.names ++ name ∷ [] } = rw (more, none) refl in
    ap (slice_set table place) (sym after) ∙ heard_over range total name table place at stays
