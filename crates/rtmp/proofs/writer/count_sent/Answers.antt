use Rattle.std.proofs.Common.{◌+◌, drop, ◌∙◌, sym, arith}
use Rattle.rtmp.proofs.Sent.{row_next, none_next, sent_skip, sent_take}
use Rattle.rtmp.proofs.writer.count_sent.Goals as goal
use Rattle.rtmp.proofs.writer.count_sent.Goals.{in-Some+then-is_sent, in-Some+else-is_sent, in_default}

pub loop-index-preserved : goal.loop-index-preserved
loop-index-preserved g c = elim c.match-row.branch [
  | in-Some+then-is_sent w ↦
      let rows = g.T.RouteTable.rows c.args.table.now in
      let next = row_next rows c.loop-index.index w.in-Some.row (sym c.row.ensures.value ∙ w.in-Some.is) in
      let so_far =
      rw (next, sent_take c.args.horizon c.args.port w.in-Some.row (drop (c.loop-index.index + 1) rows) (sym w.is_sent.ensures ∙ w.if-is_sent.true)) at
      c.loop-index.invariant.1 in
      (omega (arith, w.count-is, c.loop-index.invariant.0), omega (arith, w.count-is, so_far))
  | in-Some+else-is_sent w ↦
      let rows = g.T.RouteTable.rows c.args.table.now in
      let next = row_next rows c.loop-index.index w.in-Some.row (sym c.row.ensures.value ∙ w.in-Some.is) in
      let so_far =
      rw (next, sent_skip c.args.horizon c.args.port w.in-Some.row (drop (c.loop-index.index + 1) rows) (sym w.is_sent.ensures ∙ w.if-is_sent.false)) at
      c.loop-index.invariant.1 in
      (omega (arith, w.count-is, c.loop-index.invariant.0), rw w.count-is so_far)
  | in_default w ↦
      let rows = g.T.RouteTable.rows c.args.table.now in
      absurd (none_next rows c.loop-index.index (sym c.row.ensures.value ∙ w.in_default.is)
      (omega (arith, c.loop-index-test.true, c.len-index-end.ensures.value)))
]
