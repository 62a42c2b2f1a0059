-- Routing tables: finite maps from ranges to rows, and the effects of messages and of aging on them.
-- (Inside AppleTalk, the chapter on RTMP)
use Rattle.std.specs.Prelude.{ℕ, ◌+◌, ◌≤◌, Bool, true, false, not, ◌&&◌, ◌||◌, ◌==◌, IsTrue, List}
use Rattle.std.specs.Prelude.{length, map, filter, fold, find}
use Rattle.std.specs.Prelude.{Option, Some, None, nat_le, if◌then◌else◌}
use Rattle.std.specs.List.{list_all, list_any}
use Rattle.at_base.specs.declared.address.Addr.{Addr}
use Rattle.at_base.specs.Address.{is_none, same_address}
use Rattle.at_base.specs.Limits.{max_rows}
use Rattle.at_base.specs.Range.{Span, is_between, is_range, overlaps}
use Rattle.at_base.specs.Spans as spans
use Rattle.rtmp.specs.declared.state.State.{State}
use Rattle.rtmp.specs.declared.state.State.TheVariants.{Good, Suspect, Bad, Last}
use Rattle.rtmp.specs.States.{is_usable}
use Rattle.rtmp.specs.declared.row.Row.{Row}
use Rattle.rtmp.specs.declared.table.Change.{Change}
use Rattle.rtmp.specs.declared.table.Change.TheVariants.{Ignored, Changed, Added}
use Rattle.rtmp.specs.declared.tuple.Tuple.{Tuple}

-- ---- the map

-- each range starts above the end of the one before it, and the first above low
abbrev pub are_above : ℕ → List Row → Bool
are_above low rows = spans.are_above (λ r. r.range) low rows

-- the ranges rise, and no two have a network in common
abbrev pub are_apart : List Row → Bool
are_apart rows = are_above 0 rows

-- the range is valid, and the distance is at most 31, the greatest that a packet can hold
abbrev pub is_row : Row → Bool
is_row r = is_range r.range.start r.range.end && nat_le r.distance 31

-- A routing table is a finite map from disjoint ranges to rows, listed by rising range: at most 200 rows.
pub record IsRouteMap (rows : List Row) : Type 0 where
  pub apart : IsTrue (are_apart rows)
  pub each : IsTrue (list_all is_row rows)
  pub few : length rows ≤ max_rows

-- A table: its rows, and whether there is room for as many as it may have.
pub record Tabled : Type 0 where
  pub rows : List Row
  pub has_room : Bool

-- the row is direct: it has no next router
abbrev pub is_direct : Row → Bool
is_direct row = is_none row.next

-- the row of a range, if any
abbrev pub row_at : Span → List Row → Option Row
row_at range rows = spans.item_of (λ r. r.range) range rows

-- the usable row whose range contains the network, if any
abbrev pub row_for : ℕ → List Row → Option Row
row_for net rows = find (λ r. is_usable r.state && is_between r.range.start r.range.end net) rows

-- the map with this row, instead of the one of its range if there is one, else inserted by rising range
abbrev pub with_row : Row → List Row → List Row
with_row row rows = spans.with_item (λ r. r.range) row rows

-- ---- changes of the map

-- the rows that don't overlap a range
abbrev pub beside : Span → List Row → List Row
beside range rows = filter (λ r. not (overlaps r.range range)) rows

-- the row of the range of a port's own cable
abbrev pub direct_row : Span → ℕ → Row
direct_row range port = record { range = range; distance = 0; port = port; next = record { net = 0; node = 0 }; state = Good }

-- the map after a port was added on a cable of this range
abbrev pub directed : Span → ℕ → List Row → List Row
directed range port rows = with_row (direct_row range port) (beside range rows)

-- the row of a range at distance t from router s, which was heard on a port
abbrev pub heard_row : Span → ℕ → Addr → ℕ → Row
heard_row range t s port = record { range = range; distance = t + 1; port = port; next = s; state = Good }

-- The row of a range, and the change, after router s reported on a port that the range is at distance t: a direct row
-- stays; with t at most 14, a row that isn't usable or isn't nearer is replaced; the row's own router is believed even
-- if the range is farther now, and above 14 it makes the row bad.
abbrev pub after_hearing : Row → ℕ → Addr → ℕ → Row × Change
after_hearing row t s port =
    if is_direct row then (row, Ignored)
    else if nat_le t 14 && (not (is_usable row.state) || nat_le (t + 1) row.distance) then (heard_row row.range t s port, Changed)
    else if same_address row.next s && row.port == port then
    (if nat_le t 14 then heard_row row.range t s port else record row { state = Bad }, Changed)
    else (row, Ignored)

-- a range without a row is added: it is near enough and overlaps no range of the map
abbrev pub is_new : Span → ℕ → List Row → Bool
is_new range t rows = nat_le t 14 && not (list_any (λ r. overlaps r.range range) rows)

-- the map and the change after router s reported on a port that a range is at distance t
abbrev pub heard : Span → ℕ → Addr → ℕ → List Row → List Row × Change
heard range t s port rows = by_row (row_at range rows)
  where
    by_row : Option Row → List Row × Change
    by_row (Some row) = (with_row (after_hearing row t s port).0 rows, (after_hearing row t s port).1)
    by_row None = if is_new range t rows then (with_row (heard_row range t s port) rows, Added) else (rows, Ignored)

-- the map after router s reported on a port that a range is at distance t; a new range is left out if the map is full
abbrev pub heard_within : Span → ℕ → Addr → ℕ → List Row → List Row
heard_within range t s port rows =
    if is_added (heard range t s port rows).1 && nat_le max_rows (length rows) then rows else (heard range t s port rows).0
  where
    is_added : Change → Bool
    is_added Added = true
    is_added Changed = false
    is_added Ignored = false

-- the map after a packet of routing data from router s, tuple by tuple
abbrev pub heard_packet : Addr → ℕ → List Tuple → List Row → List Row
heard_packet s port tuples rows = fold (λ table t. heard_within t.range t.distance s port table) rows tuples

-- one of the tuples has a range that is added to these rows
abbrev pub brings_new : List Tuple → List Row → Bool
brings_new tuples rows = list_any (λ t. is_new t.range t.distance rows) tuples

-- the next state of a row that ages
abbrev pub older : State → State
older Good = Suspect
older Suspect = Bad
older Bad = Last
older Last = Last

-- a row after aging; a direct row is unchanged
abbrev pub aged_row : Row → Row
aged_row r = if is_direct r then r else record r { state = older r.state }

-- the row is in its last state, and isn't direct
abbrev pub is_over : Row → Bool
is_over r = not (is_direct r) && is_last r.state
  where
    is_last : State → Bool
    is_last Good = false
    is_last Suspect = false
    is_last Bad = false
    is_last Last = true

-- the map after aging: rows in their last state are removed, and the others, except direct rows, get the next state
abbrev pub aged : List Row → List Row
aged rows = map aged_row (filter (λ r. not (is_over r)) rows)

-- a row after router next was lost: it is bad if it goes through that router
abbrev pub poisoned_row : Addr → Row → Row
poisoned_row next r = if not (is_direct r) && same_address r.next next then record r { state = Bad } else r

-- the map after router next was lost: the rows that go through it are bad
abbrev pub poisoned : Addr → List Row → List Row
poisoned next rows = map (poisoned_row next) rows
