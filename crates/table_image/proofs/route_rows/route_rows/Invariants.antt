use Rattle.std.proofs.Common.{◌≡◌, map, take}
use Rattle.table_image.specs.RouteRows.{route_row}
use Rattle.table_image.proofs.route_rows.route_rows.Given as goal

abbrev pub invariant-loop-row : goal.invariant-loop-row
invariant-loop-row l = l.made.items ≡ map route_row (take l.row-index l.rows)
