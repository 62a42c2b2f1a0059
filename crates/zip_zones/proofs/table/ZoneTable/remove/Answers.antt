use Rattle.zip_zones.specs.Zones.{without}
use Rattle.zip_zones.proofs.Indexed.{indexed_of}
use Rattle.zip_zones.proofs.Tables.{without_map}
use Rattle.zip_zones.proofs.table.ZoneTable.remove.Goals as goal

pub invariant_of-self : goal.invariant_of-self
invariant_of-self c =
    indexed_of (without c.args.range c.self.inside.lists.items) c.take_out.new.lists.items c.take_out.new.index.items
    (without_map c.args.range c.self.inside.lists.items c.self.invariant.map) c.take_out.ensures.lists c.take_out.ensures.index
