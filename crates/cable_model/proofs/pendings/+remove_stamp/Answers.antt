use Rattle.std.proofs.Common.{◌≡◌, ◌==◌, eq-eqb, arith, sym, ◌∙◌, slice_get, None}
use Rattle.std.proofs.lemmas.Bool.{ne_eqb}
use Rattle.std.proofs.lemmas.Option.{slice_get_within}
use Rattle.cable_model.proofs.Looking.{none_left_out}
use Rattle.cable_model.proofs.Stored.{found_none, found_other, frame_lead, rest_left, shorter, still_rises}
use Rattle.cable_model.proofs.pendings.+remove_stamp.Goals as goal

pub returns-in_default-clause-items : goal.returns-in_default-clause-items
returns-in_default-clause-items t c =
    let ds = c.args.items.now.items in
    let lead = frame_lead c.args.stamp c.place_of-place.result ds c.requires c.place_of-place.ensures.place in
    let none : slice_get ds c.place_of-place.result ≡ None = sym c.in_default.ensures in
    sym (none_left_out (λ d. c.args.stamp == d.stamp) ds
    (sym (found_none (λ d. c.args.stamp == d.stamp) ds c.place_of-place.result lead none)))

pub remove_stamp-requires : goal.remove_stamp-requires
remove_stamp-requires t c =
    let ds = c.args.items.now.items in
    let at = sym c.in-Some.ensures in
    let is = c.remove_at.ensures.items in
    let less = shorter (λ d. c.args.stamp == d.stamp) ds c.remove_at.new.items.items c.place_of-place.result c.in-Some.due at is in (
      omega (arith, less, c.decreases),
      still_rises (λ d. c.args.stamp == d.stamp) ds c.remove_at.new.items.items c.place_of-place.result c.in-Some.due at is
          c.requires,
    )

pub returns-then-stamp-due-clause-items : goal.returns-then-stamp-due-clause-items
returns-then-stamp-due-clause-items t c =
    let ds = c.args.items.now.items in
    let at = sym c.in-Some.ensures in
    let is = c.remove_at.ensures.items in
    c.remove_stamp.ensures.items
    ∙ rest_left (λ d. c.args.stamp == d.stamp) ds c.remove_at.new.items.items c.place_of-place.result c.in-Some.due at is
    (eq-eqb c.args.stamp _ c.if-stamp-due.true)

pub returns-else-stamp-due-clause-items : goal.returns-else-stamp-due-clause-items
returns-else-stamp-due-clause-items t c =
    let ds = c.args.items.now.items in
    let lead = frame_lead c.args.stamp c.place_of-place.result ds c.requires c.place_of-place.ensures.place in
    let at = sym c.in-Some.ensures in
    sym (none_left_out (λ d. c.args.stamp == d.stamp) ds
    (sym (found_other (λ d. c.args.stamp == d.stamp)
    ds c.place_of-place.result lead c.in-Some.due at (ne_eqb c.args.stamp _ c.if-stamp-due.false))))

pub remove_at-requires : goal.remove_at-requires
remove_at-requires t c =
    slice_get_within c.args.items.now.items c.place_of-place.result c.in-Some.due (sym c.in-Some.ensures)
