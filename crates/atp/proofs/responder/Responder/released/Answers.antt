use Rattle.atp.proofs.Requests.{forgotten}
use Rattle.atp.proofs.responder.Responder.released.Goals as goal

pub invariant_of-self : goal.invariant_of-self
invariant_of-self c = rw c.forget.ensures (forgotten c.args.from c.args.id c.self.inside.requests.items c.self.invariant)
