use Rattle.std.proofs.Common.{IfSome, subst}
use Rattle.router.specs.Forwarding.{IsBy}
use Rattle.router.proofs.receive.fate.Goals as goal

pub returns-in_ok-output-in-Some-clause-good : goal.returns-in_ok-output-in-Some-clause-good
returns-in_ok-output-in-Some-clause-good c n by =
    (c.in_ok-output-in-Some.ensures {u = tt}).good n (subst (λ s. IfSome s (IsBy n)) c.in-Some.is by)
