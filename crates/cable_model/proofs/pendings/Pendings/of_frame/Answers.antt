use Rattle.std.proofs.Common.{◌==◌, eq-eqb, sym}
use Rattle.std.proofs.lemmas.Bool.{ne_eqb}
use Rattle.cable_model.proofs.Stored.{found_here, found_none, found_other, frame_lead}
use Rattle.cable_model.proofs.pendings.Pendings.of_frame.Goals as goal

pub returns-then-stamp-due : goal.returns-then-stamp-due
returns-then-stamp-due c =
    let ds = c.self.inside.items.items in
    let lead = frame_lead c.args.stamp c.place_of-place.result ds c.self.invariant c.place_of-place.ensures.place in
    rw (← c.self.view_is) (found_here (λ d. c.args.stamp == d.stamp) ds c.place_of-place.result lead c.in-Some.due
    (sym c.in-Some.ensures) (eq-eqb c.args.stamp _ c.if-stamp-due.true))

pub returns-else-stamp-due : goal.returns-else-stamp-due
returns-else-stamp-due c =
    let ds = c.self.inside.items.items in
    let lead = frame_lead c.args.stamp c.place_of-place.result ds c.self.invariant c.place_of-place.ensures.place in
    rw (← c.self.view_is) (found_other (λ d. c.args.stamp == d.stamp) ds c.place_of-place.result lead c.in-Some.due
    (sym c.in-Some.ensures) (ne_eqb c.args.stamp _ c.if-stamp-due.false))

pub returns-in-None : goal.returns-in-None
returns-in-None c =
    let ds = c.self.inside.items.items in
    let lead = frame_lead c.args.stamp c.place_of-place.result ds c.self.invariant c.place_of-place.ensures.place in
    rw (← c.self.view_is) (found_none (λ d. c.args.stamp == d.stamp) ds c.place_of-place.result lead
    (sym c.in-None.ensures))
