use Rattle.std.proofs.Common.{◌≡◌, map, take}
use Rattle.freeze.specs.Freezing.{frozen_row}
use Rattle.freeze.proofs.routers.rows_of.Given as goal

-- The rows before the index were appended.
abbrev pub invariant-loop-index : goal.invariant-loop-index
invariant-loop-index g l = l.rows.items ≡ map frozen_row (take l.index (g.T.RouteTable.rows l.routes))
