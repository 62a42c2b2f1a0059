use Rattle.aarp.proofs.Counts.{left_counted}
use Rattle.aarp.proofs.mapper.Mapper.release.Goals as goal

pub invariant_of-self : goal.invariant_of-self
invariant_of-self c =
    let was = c.self.invariant in
    (was.0, rw c.release.ensures.capacity was.1, rw c.release.ensures.left (left_counted c.args.addr c.self.inside.held.items was.2))
