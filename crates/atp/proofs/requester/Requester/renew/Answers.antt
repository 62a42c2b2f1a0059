use Rattle.std.proofs.Common.{◌≡◌, count_by, is_some, eqb-true, sym, ◌∙◌}
use Rattle.slab.specs.Slab.{slab_len}
use Rattle.atp.specs.Repeating.{renewed}
use Rattle.atp.proofs.Renewals.{none_change}
use Rattle.atp.proofs.requester.Requester.renew.Goals as goal

pub returns-else-not-is_empty-clause-renewed : goal.returns-else-not-is_empty-clause-renewed
returns-else-not-is_empty-clause-renewed c =
    let none : count_by is_some c.args.self.now.slots ≡ 0 =
    rw (sym c.self.view_is) (eqb-true (slab_len c.self.inside.table) 0 (sym c.is_empty.ensures ∙ c.if-not-is_empty.false)) in
    λ id. none_change renewed id c.args.self.now.slots none
