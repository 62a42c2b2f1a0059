use Rattle.std.proofs.Common.{◌≡◌, Some, slice_get}
use Rattle.image_feed.proofs.Fronts.{take_next}
use Rattle.image_feed.proofs.front.Front.push_same.Goals as goal

pub returns-in-Same-clause-pushed : goal.returns-in-Same-clause-pushed
returns-in-Same-clause-pushed g c =
    let at : slice_get c.args.like.now c.in-Same.count ≡ Some c.args.part.now = rw c.in-Same.is at c.requires in
    rw c.in-Same.is (take_next c.args.like.now c.in-Same.count c.args.part.now at)
