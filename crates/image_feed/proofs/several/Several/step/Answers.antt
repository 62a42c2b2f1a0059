use Rattle.std.proofs.Common.{◌∙◌, suc, Err, ap, refl, Bor, List, ℕ}
use Rattle.table_image.specs.declared.flaw.Fault.{Fault}
use Rattle.image_feed.specs.Growing.{items_on}
use Rattle.image_feed.proofs.Leading.{items_cut, items_step, items_stop, none_found, on_ok, steps_stop}
use Rattle.image_feed.proofs.several.Several.step.Goals as goal

pub returns-in-Err-clause-steps : goal.returns-in-Err-clause-steps
returns-in-Err-clause-steps g c =
    let item = g.T.Item.spelling c.args.context in
    let front = c.args.self.now.items.items in
    let low = c.args.self.now.low in
    rw c.requires
    (steps_stop {X = Bor (List ℕ)} (λ rest. rest.now) (items_on item g.T.Item.next front low (suc c.args.after)) c.args.bytes.now c.in-Err.fault
    c.none_if_cut.result c.none_if_cut.ensures.waits c.none_if_cut.ensures.refused
    (λ cut. items_cut item g.T.Item.next front low c.args.after c.args.bytes.now (c.in-Err.ensures {u = tt} ∙ ap (λ (f : Fault). Err f) cut))
    (λ other. items_stop item g.T.Item.next front low c.args.after c.args.bytes.now c.in-Err.fault (c.in-Err.ensures {u = tt}) other))

pub returns-in_ok-push-in-Ok-clause-steps : goal.returns-in_ok-push-in-Ok-clause-steps
returns-in_ok-push-in-Ok-clause-steps g c =
    let item = g.T.Item.spelling c.args.context in
    rw (c.requires, c.next_low-self.ensures, (c.in_ok-push-in-Ok.ensures {u = tt}).items)
    (items_step item g.T.Item.next c.args.self.now.items.items c.args.self.now.low c.args.after c.args.bytes.now c.in-Ok.item c.in-Ok.rest.now
    (c.in-Ok.ensures {u = tt}))

pub returns-in-Err-clause-left : goal.returns-in-Err-clause-left
returns-in-Err-clause-left g c = none_found {X = Bor (List ℕ)} _ c.in-Err.fault c.none_if_cut.result c.none_if_cut.ensures.waits

pub returns-in-Err-clause-some : goal.returns-in-Err-clause-some
returns-in-Err-clause-some g c = on_ok c.none_if_cut.result (rw c.requires refl)
