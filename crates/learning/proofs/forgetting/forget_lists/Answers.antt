use Rattle.std.proofs.Common.{sym, ◌∙◌, arith}
use Rattle.rtmp.proofs.Sent.{none_next}
use Rattle.learning.specs.Forgetting.{without_gone}
use Rattle.learning.proofs.Gone.{gone_at, gone_past}
use Rattle.learning.proofs.forgetting.forget_lists.Goals as goal
use Rattle.learning.proofs.forgetting.forget_lists.Goals.{in-Some, in_default}

pub loop-index-preserved : goal.loop-index-preserved
loop-index-preserved g c =
    let rows = g.T.RouteTable.rows c.args.routes.now in
    elim c.match-row.branch [
      | in-Some w ↦
          gone_at rows c.loop-index.index w.in-Some.row c.loop-index.zones c.match-row.zones
          (without_gone rows c.args.zones.now) (sym c.row.ensures.value ∙ w.in-Some.is)
          (w.zones-is ∙ w.forget_list.ensures) c.loop-index.invariant
      | in_default w ↦
          absurd (none_next rows c.loop-index.index (sym c.row.ensures.value
          ∙ w.in_default.is) (omega (arith, c.loop-index-test.true, c.len-index-end.ensures.value)))
    ]

pub returns : goal.returns
returns g c =
    let rows = g.T.RouteTable.rows c.args.routes.now in
    gone_past rows c.loop-index.index c.loop-index.zones (without_gone rows c.args.zones.now)
    (omega (arith, c.loop-index-test.false, c.len-index-end.ensures.value)) c.loop-index.invariant
