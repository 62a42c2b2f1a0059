use Rattle.std.proofs.Common.{◌≡◌, arith, sym, ◌∙◌, slice_get, None}
use Rattle.std.proofs.lemmas.Option.{slice_get_within}
use Rattle.cable_model.proofs.Looking.{none_left_out}
use Rattle.cable_model.proofs.Stored.{found_none, found_other, pair_lead, rest_left, shorter, still_rises}
use Rattle.cable_model.specs.Waits.{is_at}
use Rattle.cable_model.proofs.pendings.+remove_pairs.Goals as goal

pub returns-in_default-clause-items : goal.returns-in_default-clause-items
returns-in_default-clause-items t c =
    let ds = c.args.items.now.items in
    let lead = pair_lead c.args.stamp c.args.station c.place_of-place.result ds c.requires c.place_of-place.ensures.place in
    let none : slice_get ds c.place_of-place.result ≡ None = sym c.in_default.ensures in
    sym (none_left_out (is_at c.args.stamp c.args.station) ds
    (sym (found_none (is_at c.args.stamp c.args.station) ds c.place_of-place.result lead none)))

pub remove_pairs-requires : goal.remove_pairs-requires
remove_pairs-requires t c =
    let ds = c.args.items.now.items in
    let at = sym c.in-Some.ensures in
    let is = c.remove_at.ensures.items in
    let less = shorter (is_at c.args.stamp c.args.station) ds c.remove_at.new.items.items c.place_of-place.result c.in-Some.due at is in (
      omega (arith, less, c.decreases),
      still_rises (is_at c.args.stamp c.args.station) ds c.remove_at.new.items.items c.place_of-place.result c.in-Some.due at is
          c.requires,
    )

pub returns-then-is_due-clause-items : goal.returns-then-is_due-clause-items
returns-then-is_due-clause-items t c =
    let ds = c.args.items.now.items in
    let at = sym c.in-Some.ensures in
    let is = c.remove_at.ensures.items in
    c.remove_pairs.ensures.items
    ∙ rest_left (is_at c.args.stamp c.args.station) ds c.remove_at.new.items.items c.place_of-place.result c.in-Some.due at is
    (sym c.is_due.ensures ∙ c.if-is_due.true)

pub returns-else-is_due-clause-items : goal.returns-else-is_due-clause-items
returns-else-is_due-clause-items t c =
    let ds = c.args.items.now.items in
    let lead = pair_lead c.args.stamp c.args.station c.place_of-place.result ds c.requires c.place_of-place.ensures.place in
    let at = sym c.in-Some.ensures in
    sym (none_left_out (is_at c.args.stamp c.args.station) ds
    (sym (found_other (is_at c.args.stamp c.args.station)
    ds c.place_of-place.result lead c.in-Some.due at (sym c.is_due.ensures ∙ c.if-is_due.false))))

pub remove_at-requires : goal.remove_at-requires
remove_at-requires t c =
    slice_get_within c.args.items.now.items c.place_of-place.result c.in-Some.due (sym c.in-Some.ensures)
