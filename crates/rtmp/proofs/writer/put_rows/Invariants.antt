use Rattle.std.proofs.Common.{◌≡◌, ◌++◌, map, take, drop}
use Rattle.rtmp.specs.Bytes.{tuples_bytes}
use Rattle.rtmp.specs.Sending.{rows_sent, sent_tuple}
use Rattle.rtmp.proofs.writer.put_rows.Given as goal

-- the bytes written and those still to be written are all bytes
abbrev pub invariant-loop-index : goal.invariant-loop-index
invariant-loop-index g l =
    l.bytes.items ++ tuples_bytes
    (map sent_tuple (take l.room (drop l.left_out (rows_sent l.horizon l.port (drop l.index (g.T.RouteTable.rows l.table))))))
    ≡ l.initial.bytes.items ++ tuples_bytes
    (map sent_tuple (take 96 (drop l.initial.left_out (rows_sent l.horizon l.port (g.T.RouteTable.rows l.table)))))
