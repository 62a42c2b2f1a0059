use Rattle.std.proofs.Common.{◌≡◌, ◌∙◌, Some, suc, arith, refl}
use Rattle.image_feed.proofs.several.Several.advance_items.Goals as goal

pub loop-after-smaller : goal.loop-after-smaller
loop-after-smaller g c =
    let left : c.step.new.self.left ≡ Some c.in-Some.after = rw c.in-Some-2.is at (c.in_ok-more.ensures {u = tt}).left in
    let before : c.loop-after.self.left ≡ Some (suc c.in-Some.after) = (c.in-Some.ensures {u = tt}).some in
    rw (left, before) (omega arith)

pub loop-after-preserved : goal.loop-after-preserved
loop-after-preserved g c =
    let left : c.step.new.self.left ≡ Some c.in-Some.after = rw c.in-Some-2.is at (c.in_ok-more.ensures {u = tt}).left in
    let said = rw c.in-Some-2.is at (c.in_ok-more.ensures {u = tt}).steps in
    (rw left refl, λ more. c.loop-after.invariant.1 more ∙ said more)
