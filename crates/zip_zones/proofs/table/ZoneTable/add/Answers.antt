use Rattle.std.proofs.Common.{◌≡◌}
use Rattle.zip_zones.specs.Zones.{heard}
use Rattle.zip_zones.proofs.Indexed.{indexed_apart, indexed_of}
use Rattle.zip_zones.proofs.Tables.{heard_map}
use Rattle.zip_zones.proofs.table.ZoneTable.add.Goals as goal

pub place_for-requires : goal.place_for-requires
place_for-requires c =
    rw c.as_slice.ensures.value (indexed_apart c.self.inside.lists.items c.self.inside.index.items c.self.invariant)

pub invariant_of-self-2 : goal.invariant_of-self-2
invariant_of-self-2 c =
    let room = c.in_ok-place.ensures.ok in
    let lists = c.self.inside.lists.items in
    let items : c.as_slice.result.now ≡ lists = c.as_slice.ensures.value in
    let done = c.in_ok-hear.ensures.ok in
    indexed_of (heard c.args.range c.args.total c.args.name.now lists) c.hear.new.lists.items c.hear.new.index.items
    (heard_map c.args.range c.args.total c.args.name.now lists c.recall_valid.ensures
    room.1 (rw (← items) room.0) (rw (← items) room.2) c.self.invariant.map) done.0 done.1
