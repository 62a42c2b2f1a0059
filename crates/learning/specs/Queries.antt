-- The queries for zone lists that a router sends. (Inside AppleTalk, the chapter on ZIP)
use Rattle.std.specs.Prelude.{ℕ, Bool, not, ◌&&◌, List, [], ◌∷◌, map, filter, Option, Some, None, if◌then◌else◌}
use Rattle.rtmp.specs.declared.row.Row.{Row}
use Rattle.rtmp.specs.Routes.{is_direct, row_for}
use Rattle.rtmp.specs.States.{is_usable}
use Rattle.zip_zones.specs.Zones.{Known, is_answered}
use Rattle.learning.specs.declared.query.Query.{Query}

-- the router asks another one for the list of the row's range: the row is usable and not direct, and the list isn't
-- complete
abbrev pub is_asked : List Known → Row → Bool
is_asked table r = is_usable r.state && not (is_direct r) && not (is_answered table r.range)

-- the query for a row's range, sent to the row's next router on the row's port
abbrev pub query_about : Row → Query
query_about r = record { port = r.port; next = r.next; start = r.range.start }

-- the queries for all rows whose lists are asked for, in the order of the rows
abbrev pub queries_of : List Row → List Known → List Query
queries_of rows table = map query_about (filter (is_asked table) rows)

-- the query for a network, by its usable row, unless it has none or the row is direct
abbrev pub query_at : List Row → ℕ → List Query
query_at rows net = by_row (row_for net rows)
  where
    by_row : Option Row → List Query
    by_row None = []
    by_row (Some row) = if is_direct row then [] else record { port = row.port; next = row.next; start = net } ∷ []
