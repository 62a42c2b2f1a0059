use Rattle.std.proofs.Common.{◌≡◌, ◌≤◌, ◌+◌, length, drop}
use Rattle.rtmp.specs.Sending.{rows_sent}
use Rattle.rtmp.proofs.writer.count_sent.Given as goal

abbrev pub invariant-loop-index : goal.invariant-loop-index
invariant-loop-index g l =
    (l.count ≤ l.index) × (l.count + length (rows_sent l.horizon l.port (drop l.index (g.T.RouteTable.rows l.table)))
    ≡ length (rows_sent l.horizon l.port (g.T.RouteTable.rows l.table)))
