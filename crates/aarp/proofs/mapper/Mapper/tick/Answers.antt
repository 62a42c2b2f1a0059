use Rattle.aarp.proofs.Counts.{waited_counted}
use Rattle.aarp.proofs.mapper.Mapper.tick.Goals as goal

pub invariant_of-self : goal.invariant_of-self
invariant_of-self c =
    let was = c.self.invariant in
    (was.0, rw c.wait.ensures.capacity was.1, rw c.wait.ensures.waits (waited_counted c.self.inside.held.items was.2))
