use Rattle.std.proofs.Common.{◌+◌, drop, ◌∙◌, sym, arith}
use Rattle.rtmp.proofs.Sent.{row_next, none_next, sent_at, window_skip, window_later, goes_on_written, goes_on_full}
use Rattle.rtmp.proofs.writer.put_rows.Goals as goal
use Rattle.rtmp.proofs.writer.put_rows.Goals.{in-Some+else-not-is_sent+then-left_out-gt0}
use Rattle.rtmp.proofs.writer.put_rows.Goals.{in-Some+else-not-is_sent+else-left_out-gt0+then-room-gt0+in_ok-put_tuple}
use Rattle.rtmp.proofs.writer.put_rows.Goals.{in-Some+else-not-is_sent+else-left_out-gt0+else-room-gt0, in_default}

pub loop-index-preserved-then-not-is_sent : goal.loop-index-preserved-then-not-is_sent
loop-index-preserved-then-not-is_sent g c =
    let rows = g.T.RouteTable.rows c.args.table.now in
    let next = row_next rows c.loop-index.index c.in-Some.row (sym c.row.ensures.value ∙ c.in-Some.is) in
    rw (
      next,
      window_skip c.args.horizon c.args.port c.loop-index.left_out c.loop-index.room c.in-Some.row (drop (c.loop-index.index + 1) rows)
          (sym c.is_sent.ensures ∙ c.if-not-is_sent.true),
    ) at c.loop-index.invariant

pub put_tuple-requires : goal.put_tuple-requires
put_tuple-requires g c =
    let rows = g.T.RouteTable.rows c.args.table.now in
    rw c.sent_tuple.ensures (sent_at rows c.loop-index.index c.in-Some.row c.row.ensures.map.each (sym c.row.ensures.value ∙ c.in-Some.is))

pub loop-index-preserved : goal.loop-index-preserved
loop-index-preserved g c = elim c.match-row.branch [
  | in-Some+else-not-is_sent+then-left_out-gt0 w ↦
      let rows = g.T.RouteTable.rows c.args.table.now in
      let next = row_next rows c.loop-index.index w.in-Some.row (sym c.row.ensures.value ∙ w.in-Some.is) in
      let so_far =
      rw (
        next,
        window_later c.args.horizon c.args.port c.loop-index.left_out c.loop-index.room w.in-Some.row (drop (c.loop-index.index + 1) rows)
            (sym w.is_sent.ensures ∙ w.if-not-is_sent.false) w.if-left_out-gt0.true,
      ) at c.loop-index.invariant in
      rw (w.bytes-is, w.left_out-is, w.room-is) so_far
  | in-Some+else-not-is_sent+else-left_out-gt0+then-room-gt0+in_ok-put_tuple w ↦
      let rows = g.T.RouteTable.rows c.args.table.now in
      let next = row_next rows c.loop-index.index w.in-Some.row (sym c.row.ensures.value ∙ w.in-Some.is) in
      let so_far = rw next at c.loop-index.invariant in
      let written = (w.in_ok-put_tuple.ensures {u = tt}).put in
      rw (w.bytes-is, w.left_out-is, w.room-is)
      (goes_on_written c.args.horizon c.args.port c.loop-index.left_out c.loop-index.room w.in-Some.row (drop (c.loop-index.index + 1) rows)
      c.loop-index.bytes.items w.put_tuple.new.bytes.items _ so_far (sym w.is_sent.ensures ∙ w.if-not-is_sent.false) w.if-left_out-gt0.false w.if-room-gt0.true
      (rw w.sent_tuple.ensures at written))
  | in-Some+else-not-is_sent+else-left_out-gt0+else-room-gt0 w ↦
      rw (w.bytes-is, w.left_out-is, w.room-is)
      (goes_on_full c.args.horizon c.args.port c.loop-index.left_out c.loop-index.room (drop c.loop-index.index (g.T.RouteTable.rows c.args.table.now))
      (drop (c.loop-index.index + 1) (g.T.RouteTable.rows c.args.table.now)) c.loop-index.bytes.items _ c.loop-index.invariant
      w.if-room-gt0.false)
  | in_default w ↦
      let rows = g.T.RouteTable.rows c.args.table.now in
      absurd (none_next rows c.loop-index.index (sym c.row.ensures.value ∙ w.in_default.is)
      (omega (arith, c.loop-index-test.true, c.len-index-end.ensures.value)))
]
