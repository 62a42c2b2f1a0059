use Rattle.zip_zones.proofs.Indexed.{indexed_apart}
use Rattle.zip_zones.proofs.table.ZoneTable.complete.Goals as goal

pub list_of-requires : goal.list_of-requires
list_of-requires c =
    rw c.as_slice.ensures.value (indexed_apart c.self.inside.lists.items c.self.inside.index.items c.self.invariant)
