use Rattle.std.proofs.Common.{◌∙◌}
use Rattle.atp.proofs.requester.Requester.result.Goals as goal

pub invariant_of-self : goal.invariant_of-self
invariant_of-self c =
    let s = (c.in-Some.ensures {u = tt}).some in
    (c.close_at.ensures.after s.0 s.1).table

pub returns-in-Some-clause-others : goal.returns-in-Some-clause-others
returns-in-Some-clause-others c = λ other differs.
    let s = (c.in-Some.ensures {u = tt}).some in
    rw (← c.self.view_is) ((c.close_at.ensures.after s.0 s.1).others other (λ same. differs (same ∙ s.2)))
