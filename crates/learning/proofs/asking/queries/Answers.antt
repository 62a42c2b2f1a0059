use Rattle.std.proofs.Common.{arith, ◌∙◌}
use Rattle.learning.proofs.Asked.{asked, asked_few}
use Rattle.learning.proofs.asking.queries.Goals as goal

pub returns-clause-ok : goal.returns-clause-ok
returns-clause-ok g c =
    asked (g.T.RouteTable.rows c.args.routes.now) c.args.zones.now c.as_slice-start-items.result.now c.loop-start.start-index
    c.loop-start.queries.items c.recall_map.ensures (c.as_slice-start-items.ensures.value ∙ c.in_ok-starts.ensures.ok)
    (omega (arith, c.loop-start-test.false)) c.loop-start.invariant

pub returns-clause-few : goal.returns-clause-few
returns-clause-few g c =
    asked_few (g.T.RouteTable.rows c.args.routes.now) c.args.zones.now c.loop-start.queries.items c.recall_map.ensures
    (returns-clause-ok g c)
