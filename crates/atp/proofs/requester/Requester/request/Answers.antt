use Rattle.std.proofs.Common.{◌∙◌}
use Rattle.atp.proofs.requester.Requester.request.Goals as goal

pub request_at-requires : goal.request_at-requires
request_at-requires c = c.self.invariant.sendable c.in-Some.key

pub invariant_of-self : goal.invariant_of-self
invariant_of-self c =
    let s = (c.in-Some.ensures {u = tt}).some in
    (c.send_at.ensures s.0 s.1).table

pub returns-in_ok-bytes-in-Some-clause-others : goal.returns-in_ok-bytes-in-Some-clause-others
returns-in_ok-bytes-in-Some-clause-others c = λ other differs.
    let s = (c.in-Some.ensures {u = tt}).some in
    rw (← c.self.view_is) ((c.send_at.ensures s.0 s.1).others other (λ same. differs (same ∙ s.2)))
