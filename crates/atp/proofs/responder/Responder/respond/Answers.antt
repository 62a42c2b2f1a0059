use Rattle.std.proofs.Common.{sym, ◌∙◌}
use Rattle.atp.proofs.Requests.{answered, forgotten}
use Rattle.atp.proofs.responder.Responder.respond.Goals as goal

pub invariant_of-self : goal.invariant_of-self
invariant_of-self c =
    let short = sym c.is_short.ensures ∙ c.if-not-is_short.false in
    rw (c.keep_at.ensures, (c.in_ok-answer.ensures {u = tt}).ok)
    (answered c.args.from c.args.id c.args.parts.now c.self.inside.requests.items short c.self.invariant)

pub invariant_of-self-else-index : goal.invariant_of-self-else-index
invariant_of-self-else-index c = rw c.forget.ensures (forgotten c.args.from c.args.id c.self.inside.requests.items c.self.invariant)
