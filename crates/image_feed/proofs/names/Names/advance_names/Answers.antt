use Rattle.std.proofs.Common.{◌≡◌, ◌∙◌, Some, suc, arith, refl, inr}
use Rattle.std.proofs.lemmas.Result.{err_from_is_err_and}
use Rattle.image_feed.specs.Zones.{names_on}
use Rattle.image_feed.proofs.Leading.{leads_then, stops_then}
use Rattle.image_feed.proofs.names.Names.advance_names.Goals as goal

pub loop-after-smaller : goal.loop-after-smaller
loop-after-smaller c =
    let left : c.step.new.self.left ≡ Some c.in-Some.after = rw c.in-Some-2.is at (c.in_ok-more.ensures {u = tt}).left in
    let before : c.loop-after.self.left ≡ Some (suc c.in-Some.after) = (c.in-Some.ensures {u = tt}).some in
    rw (left, before) (omega arith)

pub loop-after-preserved : goal.loop-after-preserved
loop-after-preserved c =
    let left : c.step.new.self.left ≡ Some c.in-Some.after = rw c.in-Some-2.is at (c.in_ok-more.ensures {u = tt}).left in
    let said = rw c.in-Some-2.is at (c.in_ok-more.ensures {u = tt}).steps in
    (rw left refl, λ version more. c.loop-after.invariant.1 version more ∙ said version more)

pub returns-in_err-more-clause-next : goal.returns-in_err-more-clause-next
returns-in_err-more-clause-next c = λ version.
    (let like = c.args.like.now in
    let stop = err_from_is_err_and c.from_residual.result c.from_residual.ensures.1 in
    rw (stop.1, stop.2)
    (stops_then (names_on version like c.args.self.now) (names_on version like c.loop-after.self) c.args.bytes.now c.loop-after.rest.now
    c.in_err-more.field-0.0 (c.loop-after.invariant.1 version) (c.in_err-more.ensures.steps version)))

pub returns-in-None-clause-next : goal.returns-in-None-clause-next
returns-in-None-clause-next c = λ version.
    (let like = c.args.like.now in
    let said = rw c.in-None.is at ((c.in_ok-more.ensures {u = tt}).steps version) in (
      leads_then (names_on version like c.args.self.now) (names_on version like c.loop-after.self) (names_on version like c.step.new.self)
          c.args.bytes.now c.loop-after.rest.now c.loop-after.rest.now (c.loop-after.invariant.1 version) said.0,
      inr said.1,
    ))
