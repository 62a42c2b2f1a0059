use Rattle.std.proofs.Common.{◌≡◌, ◌++◌, ◌∷◌, [], true, sym, ◌∙◌, arith}
use Rattle.zip_zones.specs.Zones.{has_room, is_past, list_of_least}
use Rattle.zip_zones.proofs.Appended.{append_map, least_known, room_parts}
use Rattle.zip_zones.proofs.Indexed.{indexed_of}
use Rattle.zip_zones.proofs.Names.{not_more}
use Rattle.zip_zones.proofs.table.ZoneTable.append.Goals as goal

pub put_last-requires-clause-few : goal.put_last-requires-clause-few
put_last-requires-clause-few c =
    let some = sym c.has_room.ensures ∙ c.if-not-has_room.false in
    let room = room_parts c.args.least c.args.names.now c.as_slice-2.result.now some in
    rw c.in_ok-known.ensures.ok (omega (arith, not_more c.args.names.now, room.1))

pub invariant_of-self-2 : goal.invariant_of-self-2
invariant_of-self-2 c =
    let lists = c.self.inside.lists.items in
    let items : c.as_slice.result.now ≡ lists = c.as_slice.ensures.value in
    let items_too : c.as_slice-2.result.now ≡ lists = c.as_slice-2.ensures.value in
    let past : is_past c.args.range c.as_slice.result.now ≡ true = sym c.is_past.ensures ∙ c.if-not-is_past.false in
    let some : has_room c.args.least c.args.names.now c.as_slice-2.result.now ≡ true = sym c.has_room.ensures ∙ c.if-not-has_room.false in
    let room = room_parts c.args.least c.args.names.now lists (rw (← items_too) some) in
    let known = list_of_least c.args.range c.args.least c.args.names.now in
    let good = least_known c.args.range c.args.least c.args.names.now c.recall_valid.ensures room.0 room.1 in
    let done = rw (c.in_ok-known.ensures.ok) at c.in_ok-put_last.ensures.ok in
    indexed_of (lists ++ known ∷ []) c.put_last.new.lists.items c.put_last.new.index.items
    (append_map lists known c.self.invariant.map good (rw (← items) past) room.2) done.0 done.1
