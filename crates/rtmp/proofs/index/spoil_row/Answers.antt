use Rattle.std.proofs.Common.{◌≡◌, ◌%◌, Some, None, slice_get, refl, sym, ◌∙◌}
use Rattle.std.proofs.lemmas.Option.{slice_get_read}
use Rattle.at_base.specs.Spans.{item_for}
use Rattle.rtmp.proofs.Spoiled.{spoiled_at, spoiled_none}
use Rattle.rtmp.proofs.index.spoil_row.Goals as goal

pub returns-in-Some : goal.returns-in-Some
returns-in-Some c =
    let rows = c.args.rows.now.items in
    let given = c.in-Some.ensures {u = tt} in
    let read : slice_get rows c.in-Some.place ≡ Some c.index.result.now =
    slice_get_read rows _ c.in-Some.place c.index.result.now refl (rw c.as_slice.ensures.value at given.inside) c.index.ensures in
    let found : slice_get rows c.in-Some.place ≡ item_for (λ r. r.range) (c.args.number % 65536) rows =
    rw c.as_slice.ensures.value at given.found in
    rw c.updated_row.ensures
    (spoiled_at c.args.next (c.args.number % 65536) 0 c.in-Some.place rows c.index.result.now c.requires read (sym found ∙ read))

pub returns-in-None : goal.returns-in-None
returns-in-None c =
    let none : item_for (λ r. r.range) (c.args.number % 65536) c.args.rows.now.items ≡ None =
    rw c.as_slice.ensures.value at (c.in-None.ensures {u = tt}).none in
    spoiled_none c.args.next (c.args.number % 65536) c.args.rows.now.items none
