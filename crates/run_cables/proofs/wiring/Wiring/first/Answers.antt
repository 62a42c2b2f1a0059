use Rattle.std.proofs.Common.{IfSome, sym, subst}
use Rattle.cable_model.specs.Outcomes.{IsLeast}
use Rattle.run_cables.specs.Wired.{pending_for}
use Rattle.run_cables.specs.declared.wiring.Wiring.{Wiring}
use Rattle.run_cables.proofs.wiring.Wiring.first.Goals as goal

pub returns-in-Known-clause-some : goal.returns-in-Known-clause-some
returns-in-Known-clause-some c =
    subst (λ (w : Wiring). IfSome c.first.result (λ pair. IsLeast (pending_for w) pair.0 pair.1)) (sym c.in-Known.is) c.first.ensures.some

pub returns-in-Asking-clause-some : goal.returns-in-Asking-clause-some
returns-in-Asking-clause-some c =
    subst (λ (w : Wiring). IfSome c.first-in-Asking.result (λ pair. IsLeast (pending_for w) pair.0 pair.1)) (sym c.in-Asking.is)
    c.first-in-Asking.ensures.some
