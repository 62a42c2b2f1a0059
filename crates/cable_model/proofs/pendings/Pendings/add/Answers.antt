use Rattle.std.proofs.Common.{rules, ◌≡◌, ◌+◌, ap, sym, subst, ◌∙◌}
use Rattle.std.specs.Prelude.{insert}
use Rattle.cable_model.proofs.Looking.{placed_is}
use Rattle.cable_model.proofs.Order.{placed_rises}
use Rattle.cable_model.proofs.Stored.{behind, when_ok}
use Rattle.cable_model.specs.Order.{Rises}
use Rattle.cable_model.specs.Waits.{due_key}
use Rattle.cable_model.proofs.pendings.Pendings.add.Goals as goal

pub returns-clause-dues : goal.returns-clause-dues
returns-clause-dues c =
    let ds = c.self.inside.items.items in
    let due = c.args.due in
    let ok : c.insert.new.self.items ≡ insert ds c.place_of-place.result due =
    when_ok c.insert.result c.insert.ensures.full (λ full. absurd (search rules)) c.insert.ensures.items in
    rw (← c.self.view_is)
    (ok ∙ (ap (λ k. insert ds k due) c.place_of-place.ensures.place
    ∙ sym (placed_is due_key due (due.stamp, due.station + 1) ds (behind due))))

pub invariant_of-self : goal.invariant_of-self
invariant_of-self c =
    let ds = c.self.inside.items.items in
    let due = c.args.due in
    let ok : c.insert.new.self.items ≡ insert ds c.place_of-place.result due =
    when_ok c.insert.result c.insert.ensures.full (λ full. absurd (search rules)) c.insert.ensures.items in
    subst (Rises due_key)
    (sym (ok ∙ (ap (λ k. insert ds k due) c.place_of-place.ensures.place
    ∙ sym (placed_is due_key due (due.stamp, due.station + 1) ds (behind due)))))
    (placed_rises due_key due ds c.self.invariant)
