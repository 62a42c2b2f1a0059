use Rattle.std.proofs.Common.{sym, ◌∙◌}
use Rattle.cable_model.proofs.Stored.{found_here, found_none, found_other, pair_lead}
use Rattle.cable_model.specs.Waits.{is_at}
use Rattle.cable_model.proofs.pendings.Pendings.find.Goals as goal

pub returns-then-is_due : goal.returns-then-is_due
returns-then-is_due c =
    let ds = c.self.inside.items.items in
    let lead = pair_lead c.args.stamp c.args.station c.place_of-place.result ds c.self.invariant c.place_of-place.ensures.place in
    rw (← c.self.view_is) (found_here (is_at c.args.stamp c.args.station) ds c.place_of-place.result lead c.in-Some.due
    (sym c.in-Some.ensures) (sym c.is_due.ensures ∙ c.if-is_due.true))

pub returns-else-is_due : goal.returns-else-is_due
returns-else-is_due c =
    let ds = c.self.inside.items.items in
    let lead = pair_lead c.args.stamp c.args.station c.place_of-place.result ds c.self.invariant c.place_of-place.ensures.place in
    rw (← c.self.view_is) (found_other (is_at c.args.stamp c.args.station) ds c.place_of-place.result lead c.in-Some.due
    (sym c.in-Some.ensures) (sym c.is_due.ensures ∙ c.if-is_due.false))

pub returns-in-None : goal.returns-in-None
returns-in-None c =
    let ds = c.self.inside.items.items in
    let lead = pair_lead c.args.stamp c.args.station c.place_of-place.result ds c.self.invariant c.place_of-place.ensures.place in
    rw (← c.self.view_is) (found_none (is_at c.args.stamp c.args.station) ds c.place_of-place.result lead
    (sym c.in-None.ensures))
