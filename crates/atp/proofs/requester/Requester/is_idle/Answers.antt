use Rattle.std.proofs.Common.{eqb-true, sym, ◌∙◌}
use Rattle.atp.proofs.Renewals.{none_repeats}
use Rattle.atp.proofs.requester.Requester.is_idle.Goals as goal

pub returns-clause-none : goal.returns-clause-none
returns-clause-none c = λ idle.
    rw (← c.self.view_is) (none_repeats c.self.inside.table.slots (eqb-true _ _ (sym c.is_empty.ensures ∙ idle)))
