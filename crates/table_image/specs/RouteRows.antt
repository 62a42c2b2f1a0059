-- Rows of an image as rows of routing tables.
use Rattle.std.specs.Prelude.{ℕ, Bool, List, Option, option_map, slice_get}
use Rattle.std.specs.List.{list_all}
use Rattle.at_base.specs.Range.{is_range}
use Rattle.rtmp.specs.declared.row.Row.{Row as RouteRow}
use Rattle.table_image.specs.declared.row.Row.{Row}
use Rattle.table_image.specs.Internet.{Internet}

-- the row of an image as one of a routing table
abbrev pub route_row : Row → RouteRow
route_row r =
    record { range = record { start = r.start; end = r.end }; distance = r.distance; port = r.port; next = r.next; state = r.state }

-- the range of each row is valid
abbrev pub have_ranges : List Row → Bool
have_ranges rows = list_all (λ r. is_range r.start r.end) rows

-- the rows of a router, by its index from 0, if it exists
abbrev pub rows_at : ℕ → Internet → Option (List Row)
rows_at router i = option_map (λ r. r.rows) (slice_get i.routers router)
