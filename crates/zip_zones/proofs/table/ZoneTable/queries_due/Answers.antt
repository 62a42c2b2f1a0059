use Rattle.std.proofs.Common.{◌+◌, drop, ◌∙◌, sym, arith, true≢false}
use Rattle.rtmp.proofs.Sent.{row_next, none_next}
use Rattle.zip_zones.proofs.Asked.{due_next, none_due}
use Rattle.zip_zones.proofs.table.ZoneTable.queries_due.Goals as goal
use Rattle.zip_zones.proofs.table.ZoneTable.queries_due.Goals.{in-Some+in_ok-put_due, in_default}

pub loop-index-preserved : goal.loop-index-preserved
loop-index-preserved g c = elim c.match-row.branch [
  | in-Some+in_ok-put_due w ↦
      let rows = g.T.RouteTable.rows c.args.routes.now in
      let next = row_next rows c.loop-index.index w.in-Some.row (sym c.row.ensures.value ∙ w.in-Some.is) in
      let so_far = rw next at c.loop-index.invariant in
      rw (w.starts-is, w.in_ok-put_due.ensures.put) (due_next c.loop-index.starts.items w.in-Some.row (drop
      (c.loop-index.index + 1) rows) c.args.self.now ∙ so_far)
  | in_default w ↦
      let rows = g.T.RouteTable.rows c.args.routes.now in
      absurd (none_next rows c.loop-index.index (sym c.row.ensures.value
      ∙ w.in_default.is) (omega (arith, c.loop-index-test.true, c.len-index-end.ensures.value)))
]

pub returns-in_err-put_due-clause-none : goal.returns-in_err-put_due-clause-none
returns-in_err-put_due-clause-none g c none =
    let rows = g.T.RouteTable.rows c.args.routes.now in
    let next = row_next rows c.loop-index.index c.in-Some.row (sym c.row.ensures.value ∙ c.in-Some.is) in
    let so_far = rw next at c.loop-index.invariant in
    let nothing = none_due c.loop-index.starts.items c.in-Some.row (drop (c.loop-index.index + 1) rows) c.args.self.now (so_far ∙ none) in
    absurd (true≢false (sym (c.in_err-put_due.ensures.none nothing)))
