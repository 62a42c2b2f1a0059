use Rattle.std.proofs.Common.{sym, ◌∙◌, arith}
use Rattle.rtmp.proofs.Sent.{none_next}
use Rattle.live_router.proofs.Aging.{over_found, over_next, over_past}
use Rattle.live_router.proofs.joined.any_over.Goals as goal
use Rattle.live_router.proofs.joined.any_over.Goals.{in-Some+else-is_over, in_default}

pub returns-then-is_over : goal.returns-then-is_over
returns-then-is_over g c =
    over_found (g.T.RouteTable.rows c.args.routes.now) c.loop-index.index c.in-Some.row (sym c.row.ensures.value ∙ c.in-Some.is)
    (sym c.is_over.ensures ∙ c.if-is_over.true) c.loop-index.invariant

pub loop-index-preserved : goal.loop-index-preserved
loop-index-preserved g c =
    let rows = g.T.RouteTable.rows c.args.routes.now in
    elim c.match-row.branch [
      | in-Some+else-is_over w ↦
          over_next rows c.loop-index.index w.in-Some.row (sym c.row.ensures.value ∙ w.in-Some.is)
          (sym w.is_over.ensures ∙ w.if-is_over.false) c.loop-index.invariant
      | in_default w ↦
          absurd (none_next rows c.loop-index.index (sym c.row.ensures.value
          ∙ w.in_default.is) (omega (arith, c.loop-index-test.true, c.len-index-end.ensures.value)))
    ]

pub returns : goal.returns
returns g c =
    over_past (g.T.RouteTable.rows c.args.routes.now) c.loop-index.index
    (omega (arith, c.loop-index-test.false, c.len-index-end.ensures.value)) c.loop-index.invariant
