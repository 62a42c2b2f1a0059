use Rattle.std.proofs.Common.{arith}
use Rattle.audit.proofs.Firsts.{item_at, end_of}
use Rattle.settled.proofs.Places.{none_changes}
use Rattle.settled.proofs.settling.first_place.Goals as goal

pub from_one-requires-in-Some : goal.from_one-requires-in-Some
from_one-requires-in-Some c =
    let at = item_at c.args.image.now.routers _ c.loop-r.r _ c.routers-router-items.ensures.value c.loop-r-test.true c.router-item.is in
    let few = (c.routers-router-items.ensures.bounded.each c.loop-r.r _ at).rows in
    let low = c.in-Some.ensures.low in
    omega (arith, few, low)

pub returns : goal.returns
returns c =
    none_changes c.args.image.now c.loop-r.r
    (end_of c.args.image.now.routers _ c.loop-r.r c.routers-router-items.ensures.value c.loop-r-test.false) c.loop-r.invariant
