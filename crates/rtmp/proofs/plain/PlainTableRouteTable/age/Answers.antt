use Rattle.rtmp.proofs.Maps.{aged_map}
use Rattle.rtmp.proofs.plain.PlainTableRouteTable.age.Goals as goal

pub invariant_of-self : goal.invariant_of-self
invariant_of-self c = rw (c.update_all.ensures, c.remove_rows.ensures.kept) (aged_map c.self.inside.rows.items c.self.invariant)
