-- Zone tables: finite maps from ranges to zone lists, and the effects of calls on them.
-- (Inside AppleTalk, the chapter on ZIP)
use Rattle.std.specs.Prelude.{ℕ, ◌≤◌, max, Bool, true, false, not, ◌&&◌, ◌==◌, IsTrue, List, [], ◌∷◌, ◌++◌, length, map, filter, fold}
use Rattle.std.specs.Prelude.{Option, Some, None, nat_le, nat_lt, is_some, if◌then◌else◌}
use Rattle.std.specs.List.{list_all, list_any}
use Rattle.at_base.specs.Range.{Span, is_range}
use Rattle.at_base.specs.Spans as spans
use Rattle.at_base.specs.Text.{same_name}
use Rattle.at_base.specs.Limits.{max_lists, max_zones}
use Rattle.rtmp.specs.declared.row.Row.{Row}
use Rattle.rtmp.specs.States.{is_usable}

-- The zone list of a range: the number of zones, and the names received so far, in the order received, the default zone
-- first.
pub record Known : Type 0 where
  pub range : Span
  pub total : ℕ
  pub names : List (List ℕ)

-- ---- the names of a list

-- the names, with one more unless it is among them in any case; the first spelling stays
abbrev pub with_name : List (List ℕ) → List ℕ → List (List ℕ)
with_name names name = if list_any (same_name name) names then names else names ++ name ∷ []

-- the names, each once, ignoring case, in its first spelling
abbrev pub each_once : List (List ℕ) → List (List ℕ)
each_once names = fold with_name [] names

-- no two names are equal, ignoring case
abbrev pub are_distinct : List (List ℕ) → Bool
are_distinct [] = true
are_distinct (name ∷ names) = not (list_any (same_name name) names) && are_distinct names

-- all names were received
abbrev pub is_complete : Known → Bool
is_complete k = length k.names == k.total

-- the list has the zone, in any case
abbrev pub has_zone : List ℕ → Known → Bool
has_zone zone k = list_any (same_name zone) k.names

-- ---- the map

-- each range starts above the end of the one before it, and the first above low
abbrev pub are_above : ℕ → List Known → Bool
are_above low table = spans.are_above (λ k. k.range) low table

-- the range is valid, and the list has at most 255 zones, no more names than zones, and no name twice
abbrev pub is_known : Known → Bool
is_known k = is_range k.range.start k.range.end && nat_le k.total max_zones && nat_le (length k.names) k.total && are_distinct k.names

-- A zone table is a finite map from disjoint ranges to zone lists, listed by rising range: at most 200 lists.
pub record IsZoneMap (table : List Known) : Type 0 where
  pub apart : IsTrue (are_above 0 table)
  pub each : IsTrue (list_all is_known table)
  pub few : length table ≤ max_lists

-- the list of a range, if any
abbrev pub known_for : Span → List Known → Option Known
known_for range table = spans.item_of (λ k. k.range) range table

-- the list whose range contains the network, if any
abbrev pub known_of : ℕ → List Known → Option Known
known_of net table = spans.item_for (λ k. k.range) net table

-- another range of the table overlaps this one
abbrev pub overlaps_another : Span → List Known → Bool
overlaps_another range table = spans.overlaps_another (λ k. k.range) range table

-- the table without the list of a range
abbrev pub without : Span → List Known → List Known
without range table = spans.without (λ k. k.range) range table

-- the table with this list, instead of the one of its range if there is one, else inserted by rising range
abbrev pub with_known : Known → List Known → List Known
with_known known table = spans.with_item (λ k. k.range) known table

-- ---- changes of the map

-- the complete list with these names
abbrev pub set_list : Span → List (List ℕ) → Known
set_list range names = record { range = range; total = length (each_once names); names = each_once names }

-- the list of a range before a name is added, where the range has total zones: the list in the table if its total is
-- the same, else an empty one
abbrev pub list_of : Span → ℕ → Option Known → Known
list_of range total None = record { range = range; total = total; names = [] }
list_of range total (Some k) = if k.total == total then k else record { range = range; total = total; names = [] }

-- the list with these names, of at least this many zones
abbrev pub list_of_least : Span → ℕ → List (List ℕ) → Known
list_of_least range least names = record { range = range; total = max least (length (each_once names)); names = each_once names }

-- the last network of the last list, or low without lists
abbrev pub end_of : ℕ → List Known → ℕ
end_of low [] = low
end_of low (k ∷ table) = end_of k.range.end table

-- the range starts above all lists
abbrev pub is_past : Span → List Known → Bool
is_past range table = nat_lt (end_of 0 table) range.start

-- the table has room for one more list with these names
abbrev pub has_room : ℕ → List (List ℕ) → List Known → Bool
has_room least names table = nat_le least max_zones && nat_le (length names) max_zones && nat_lt (length table) max_lists

-- the list after a name was received; a complete list is unchanged
abbrev pub with_zone : List ℕ → Known → Known
with_zone name k = if is_complete k then k else record k { names = with_name k.names name }

-- the table after a name of a range was received, where the range has total zones
abbrev pub heard : Span → ℕ → List ℕ → List Known → List Known
heard range total name table = with_known (with_zone name (list_of range total (known_for range table))) table

-- the table has no room for a list of the range
abbrev pub is_full_for : Span → List Known → Bool
is_full_for range table = not (is_some (known_for range table)) && nat_le max_lists (length table)

-- ---- queries of the map

-- the list of the network's range is complete
abbrev pub complete_at : ℕ → List Known → Bool
complete_at net table = by_list (known_of net table)
  where
    by_list : Option Known → Bool
    by_list None = false
    by_list (Some k) = is_complete k

-- the list of the network's range has the zone; the list needn't be complete
abbrev pub lists_at : ℕ → List ℕ → List Known → Bool
lists_at net zone table = by_list (known_of net table)
  where
    by_list : Option Known → Bool
    by_list None = false
    by_list (Some k) = has_zone zone k

-- the names in the list of the network's range
abbrev pub names_at : ℕ → List Known → List (List ℕ)
names_at net table = by_list (known_of net table)
  where
    by_list : Option Known → List (List ℕ)
    by_list None = []
    by_list (Some k) = k.names

-- the ranges whose lists have the zone, in rising order
abbrev pub ranges_of : List ℕ → List Known → List Span
ranges_of zone table = map (λ k. k.range) (filter (has_zone zone) table)

-- the names, with those of a list if it is complete
abbrev pub with_list : List (List ℕ) → Known → List (List ℕ)
with_list names k = if is_complete k then fold with_name names k.names else names

-- the zones of all complete lists, by rising range, each once, in its first spelling
abbrev pub all_zones : List Known → List (List ℕ)
all_zones table = fold with_list [] table

-- the range has a complete list
abbrev pub is_answered : List Known → Span → Bool
is_answered table range = by_list (known_for range table)
  where
    by_list : Option Known → Bool
    by_list None = false
    by_list (Some k) = is_complete k

-- the first networks of the usable rows whose ranges have no complete list
abbrev pub due : List Row → List Known → List ℕ
due rows table = map (λ r. r.range.start) (filter (λ r. is_usable r.state && not (is_answered table r.range)) rows)

-- the greatest number of names that a list has, or 0 without lists
abbrev pub most_names : List Known → ℕ
most_names [] = 0
most_names (k ∷ table) = max (length k.names) (most_names table)
