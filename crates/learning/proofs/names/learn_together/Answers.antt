use Rattle.std.proofs.Common.{sym, ◌∙◌}
use Rattle.learning.proofs.Together.{all_heard, none_heard}
use Rattle.learning.proofs.names.learn_together.Goals as goal

pub returns-in-Some-clause-ok : goal.returns-in-Some-clause-ok
returns-in-Some-clause-ok g c =
    let rows = g.T.RouteTable.rows c.args.routes.now in
    rw (all_heard rows c.args.total c.args.net c.in-Some.range c.args.entries c.args.zones.now (sym c.range_of.ensures ∙ c.in-Some.is)
    c.requires) c.take_names.ensures.ok

pub returns-in-None-clause-ok : goal.returns-in-None-clause-ok
returns-in-None-clause-ok g c =
    let rows = g.T.RouteTable.rows c.args.routes.now in
    sym (none_heard rows c.args.total c.args.net c.args.entries c.args.zones.now (sym c.range_of.ensures ∙ c.in-None.is) c.requires)
