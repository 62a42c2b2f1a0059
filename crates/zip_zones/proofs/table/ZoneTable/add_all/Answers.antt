use Rattle.std.proofs.Common.{◌≡◌, sym, ◌∙◌}
use Rattle.zip_zones.specs.Zones.{with_known}
use Rattle.zip_zones.proofs.Added.{after_map, all_at_once, list_after}
use Rattle.zip_zones.proofs.Indexed.{indexed_apart, indexed_of}
use Rattle.zip_zones.proofs.table.ZoneTable.add_all.Goals as goal

pub place_for-requires : goal.place_for-requires
place_for-requires c =
    rw c.as_slice.ensures.value (indexed_apart c.self.inside.lists.items c.self.inside.index.items c.self.invariant)

pub invariant_of-self-2 : goal.invariant_of-self-2
invariant_of-self-2 c =
    let room = c.in_ok-place.ensures.ok in
    let lists = c.self.inside.lists.items in
    let items : c.as_slice.result.now ≡ lists = c.as_slice.ensures.value in
    let done = c.in_ok-hear_all.ensures.ok in
    indexed_of (with_known (list_after c.args.range c.args.total c.args.entries lists) lists) c.hear_all.new.lists.items
    c.hear_all.new.index.items
    (after_map c.args.range c.args.total c.args.entries lists c.recall_valid.ensures room.1 (rw (← items) room.0)
    (rw (← items) room.2) c.self.invariant.map) done.0 done.1

pub returns-clause-ok : goal.returns-clause-ok
returns-clause-ok c =
    let lists = c.self.inside.lists.items in
    let done = c.in_ok-hear_all.ensures.ok in
    let some = sym c.is_empty.ensures ∙ c.if-is_empty.false in
    rw (← c.self.view_is) (done.0 ∙ sym (all_at_once c.args.range c.args.total c.args.entries lists some))
