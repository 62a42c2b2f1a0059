use Rattle.zip_zones.proofs.Indexed.{indexed_apart}
use Rattle.zip_zones.proofs.table.ZoneTable.is_answered.Goals as goal

pub list_for-requires : goal.list_for-requires
list_for-requires c =
    rw c.as_slice.ensures.value (indexed_apart c.self.inside.lists.items c.self.inside.index.items c.self.invariant)
