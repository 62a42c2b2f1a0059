use Rattle.std.proofs.Common.{◌∙◌, suc, Err, ap, refl, Bor, List, ℕ}
use Rattle.table_image.specs.declared.flaw.Fault.{Fault}
use Rattle.table_image.specs.Spelling.{zone_spelling}
use Rattle.image_feed.specs.Fronts.{front_of}
use Rattle.image_feed.specs.Growing.{items_on}
use Rattle.image_feed.proofs.Leading.{items_cut, items_step, items_stop, none_found, on_ok, steps_stop}
use Rattle.image_feed.proofs.names.Names.step.Goals as goal

pub returns-in-Err-clause-steps : goal.returns-in-Err-clause-steps
returns-in-Err-clause-steps c =
    let front = front_of c.args.like.now c.args.self.now.front in
    λ version. rw c.requires
    (steps_stop {X = Bor (List ℕ)} (λ rest. rest.now) (items_on (λ low. zone_spelling) (λ name. 0) front 0 (suc c.args.after)) c.args.bytes.now
    c.in-Err.fault c.none_if_cut.result c.none_if_cut.ensures.waits c.none_if_cut.ensures.refused
    (λ cut. items_cut (λ low. zone_spelling) (λ name. 0) front 0 c.args.after c.args.bytes.now (c.in-Err.ensures {u = tt} ∙ ap (λ (f : Fault). Err f) cut))
    (λ other. items_stop (λ low. zone_spelling) (λ name. 0) front 0 c.args.after c.args.bytes.now c.in-Err.fault (c.in-Err.ensures {u = tt}) other))

pub returns-in-Err-clause-left : goal.returns-in-Err-clause-left
returns-in-Err-clause-left c = none_found {X = Bor (List ℕ)} _ c.in-Err.fault c.none_if_cut.result c.none_if_cut.ensures.waits

pub returns-in-Err-clause-some : goal.returns-in-Err-clause-some
returns-in-Err-clause-some c = on_ok c.none_if_cut.result (rw c.requires refl)

pub returns-clause-steps : goal.returns-clause-steps
returns-clause-steps c =
    λ version. rw (c.requires, (c.in_ok-push.ensures {u = tt}).pushed)
    (items_step (λ low. zone_spelling) (λ name. 0) (front_of c.args.like.now c.args.self.now.front) 0 c.args.after c.args.bytes.now c.in-Ok.found.0
    c.in-Ok.found.1.now (c.in-Ok.ensures {u = tt}))
