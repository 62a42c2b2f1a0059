use Rattle.std.proofs.Common.{◌<◌, length, subst, sym}
use Rattle.std.proofs.lemmas.Bool.{lt-ltb}
use Rattle.router.proofs.Seated.{learnt_seated}
use Rattle.router.specs.Holding.{Holding}
use Rattle.router.proofs.router.Router.learn_routes.Goals as goal

pub invariant_of-self : goal.invariant_of-self
invariant_of-self g c =
    let n = length c.self.inside.ports.items in
    let inside = subst (λ (h : Holding). c.args.port < length h.ports) (sym c.self.view_is) c.requires in
    record {
      few = c.self.invariant.few;
      seated = learnt_seated n c.args.nonextended c.args.range c.args.port c.args.packet.now (g.T.RouteTable.rows c.self.inside.routes)
          (g.T.RouteTable.rows c.learn_routes.new.routes) c.learn_routes.result (lt-ltb c.args.port n inside) c.self.invariant.seated
          c.learn_routes.ensures.ok c.learn_routes.ensures.stays;
    }
