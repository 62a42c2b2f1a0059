use Rattle.aarp.proofs.Counts.{held_counted}
use Rattle.aarp.proofs.mapper.Mapper.hold.Goals as goal

pub invariant_of-self : goal.invariant_of-self
invariant_of-self c =
    let was = c.self.invariant in (
      was.0,
      rw c.push_back.ensures.items was.1,
      rw (c.push_back.ensures.items, c.asked_for.ensures, was.1) (held_counted c.args.held
          c.self.inside.held.items was.2),
    )
