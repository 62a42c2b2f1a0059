use Rattle.rtmp.proofs.Maps.{poisoned_map}
use Rattle.rtmp.proofs.plain.PlainTableRouteTable.poison.Goals as goal

pub invariant_of-self : goal.invariant_of-self
invariant_of-self c = rw c.update_all.ensures (poisoned_map c.args.next c.self.inside.rows.items c.self.invariant)
