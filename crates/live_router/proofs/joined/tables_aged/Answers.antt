use Rattle.std.proofs.Common.{sym, ◌∙◌}
use Rattle.live_router.proofs.Aging.{lists_stay}
use Rattle.live_router.proofs.joined.tables_aged.Goals as goal

pub returns-then-not-any_over-clause-zones : goal.returns-then-not-any_over-clause-zones
returns-then-not-any_over-clause-zones g c =
    lists_stay (g.T.RouteTable.rows c.args.joined) c.args.zones.now (sym c.any_over.ensures ∙ c.if-not-any_over.true)
