use Rattle.std.proofs.Common.{◌≡◌, true, length, sym, subst}
use Rattle.std.specs.Prelude.{nat_lt}
use Rattle.std.specs.List.{list_all}
use Rattle.router.proofs.Poisoned.{poisoned_seated}
use Rattle.router.proofs.router.Router.poison.Goals as goal

pub invariant_of-self : goal.invariant_of-self
invariant_of-self g c = record {
  few = c.self.invariant.few;
  seated = subst (λ rows. list_all (λ r. nat_lt r.port (length c.self.inside.ports.items)) rows ≡ true)
      (sym c.poison.ensures)
      (poisoned_seated (length c.self.inside.ports.items) c.args.next (g.T.RouteTable.rows c.self.inside.routes)
      c.self.invariant.seated);
}
