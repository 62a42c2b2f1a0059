use Rattle.std.proofs.Common.{length}
use Rattle.router.proofs.Ports.{hand_in}
use Rattle.router.proofs.router.Router.hand.Goals as goal

pub returns-clause-inside : goal.returns-clause-inside
returns-clause-inside g c =
    rw (c.hand_of.ensures, c.row_for.ensures.value, ← c.self.view_is)
    (hand_in (length c.self.inside.ports.items) (g.T.RouteTable.rows c.self.inside.routes) c.args.net c.self.invariant.seated)
