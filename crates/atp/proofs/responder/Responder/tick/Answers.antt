use Rattle.atp.proofs.Requests.{passed}
use Rattle.atp.proofs.responder.Responder.tick.Goals as goal

pub invariant_of-self : goal.invariant_of-self
invariant_of-self c = rw c.pass_tick.ensures (passed c.self.inside.requests.items c.self.invariant)
