use Rattle.std.proofs.Common.{◌≡◌, arith}
use Rattle.zip_zones.specs.Zones.{set_list, with_known}
use Rattle.zip_zones.proofs.Indexed.{indexed_apart, indexed_of}
use Rattle.zip_zones.proofs.Names.{not_more}
use Rattle.zip_zones.proofs.Tables.{set_known, with_map}
use Rattle.zip_zones.proofs.table.ZoneTable.set.Goals as goal

pub place_for-requires : goal.place_for-requires
place_for-requires c =
    rw c.as_slice.ensures.value (indexed_apart c.self.inside.lists.items c.self.inside.index.items c.self.invariant)

pub replace-requires-clause-few : goal.replace-requires-clause-few
replace-requires-clause-few c = rw c.in_ok-known.ensures.ok (omega (arith, not_more c.args.names.now, c.in_ok-place.ensures.ok.1))

pub invariant_of-self-2 : goal.invariant_of-self-2
invariant_of-self-2 c =
    let room = c.in_ok-place.ensures.ok in
    let lists = c.self.inside.lists.items in
    let items : c.as_slice.result.now ≡ lists = c.as_slice.ensures.value in
    let known = set_list c.args.range c.args.names.now in
    let done = rw (c.in_ok-known.ensures.ok) at c.in_ok-replace.ensures.ok in
    indexed_of (with_known known lists) c.replace.new.lists.items c.replace.new.index.items
    (with_map known lists (set_known c.args.range c.args.names.now c.recall_valid.ensures room.1)
    (rw (← items) room.0) (rw (← items) room.2) c.self.invariant.map) done.0 done.1
