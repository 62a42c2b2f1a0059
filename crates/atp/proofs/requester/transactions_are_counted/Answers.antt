use Rattle.atp.proofs.OpenIds.{are_open, counted, ids_of}
use Rattle.atp.proofs.requester.transactions_are_counted.Goals as goal

pub returns : goal.returns
returns c =
    rw (← c.requester.view_is) (
      ids_of c.requester.inside.table.slots,
      are_open c.requester.inside.table.slots c.requester.invariant.apart,
      counted c.requester.inside.table.slots,
    )
