-- The index of a routing table: its rows by rising next router.
use Rattle.std.specs.Prelude.{◌≡◌, ℕ, ◌+◌, ◌*◌, ◌%◌, ◌≤◌, ◌⊎◌, List, [], length, map, fold, if◌then◌else◌}
use Rattle.at_base.specs.declared.address.Addr.{Addr}
use Rattle.at_base.specs.Numbers.{in_order}
use Rattle.at_base.specs.Range.{is_between}
use Rattle.rtmp.specs.declared.row.Row.{Row}
use Rattle.rtmp.specs.Routes.{IsRouteMap, poisoned_row}

-- the least number that a row through a router can have
abbrev pub first_number : Addr → ℕ
first_number next = (next.net * 256 + next.node) * 65536

-- the number of a row: rows by rising number are in the order of their next routers, and then of their ranges
abbrev pub number_of : Row → ℕ
number_of row = first_number row.next + row.range.start

-- the numbers of the rows, rising
abbrev pub numbers_of : List Row → List ℕ
numbers_of rows = in_order (map number_of rows)

-- The rows are a routing table; their numbers are there, or none are, and there is room for one of each row.
pub record IsIndexed (rows : List Row) (numbers : List ℕ) (capacity : ℕ) : Type 0 where
  pub map : IsRouteMap rows
  pub index : (numbers ≡ []) ⊎ (numbers ≡ numbers_of rows)
  pub room : length rows ≤ capacity

-- a row after router next was lost, where only the row for a network is looked at
abbrev pub spoiled_row : Addr → ℕ → Row → Row
spoiled_row next net r = if is_between r.range.start r.range.end net then poisoned_row next r else r

-- the rows after router next was lost, where only the rows with these numbers are looked at
abbrev pub spoiled : Addr → List ℕ → List Row → List Row
spoiled next numbers rows = fold (λ rows n. map (spoiled_row next (n % 65536)) rows) rows numbers
