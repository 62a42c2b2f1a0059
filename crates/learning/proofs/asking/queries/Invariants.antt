use Rattle.std.proofs.Common.{◌≡◌, take, flat_map}
use Rattle.learning.specs.Queries.{query_at}
use Rattle.learning.proofs.asking.queries.Given as goal

abbrev pub invariant-loop-start : goal.invariant-loop-start
invariant-loop-start g l = l.queries.items ≡ flat_map (query_at (g.T.RouteTable.rows l.routes)) (take l.start-index l.start-items)
