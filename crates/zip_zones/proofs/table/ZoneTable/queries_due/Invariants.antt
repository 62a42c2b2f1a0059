use Rattle.std.proofs.Common.{◌≡◌, ◌++◌, drop}
use Rattle.zip_zones.specs.Zones.{due}
use Rattle.zip_zones.proofs.table.ZoneTable.queries_due.Given as goal

abbrev pub invariant-loop-index : goal.invariant-loop-index
invariant-loop-index g l = l.starts.items ++ due (drop l.index (g.T.RouteTable.rows l.routes)) l.self
    ≡ due (g.T.RouteTable.rows l.routes) l.self
