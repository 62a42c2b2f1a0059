use Rattle.std.proofs.Common.{arith}
use Rattle.audit.proofs.Firsts.{item_at, end_of}
use Rattle.audit.proofs.ListPlaces.{no_bad_list}
use Rattle.audit.proofs.zone_lists.first_bad.Goals as goal

pub from_one-requires-in-Some : goal.from_one-requires-in-Some
from_one-requires-in-Some c =
    let at = item_at c.args.image.now.routers _ c.loop-r.r _ c.routers-router-items.ensures.value c.loop-r-test.true c.router-item.is in
    let few = (c.routers-router-items.ensures.bounded.each c.loop-r.r _ at).lists in
    let low = c.in-Some.ensures.low in
    omega (arith, few, low)

pub first_missing-requires : goal.first_missing-requires
first_missing-requires c =
    item_at c.args.image.now.routers _ c.loop-r.r _ c.routers-router-items.ensures.value c.loop-r-test.true c.router-item.is

pub returns : goal.returns
returns c =
    no_bad_list c.args.image.now c.loop-r.r
    (end_of c.args.image.now.routers _ c.loop-r.r c.routers-router-items.ensures.value c.loop-r-test.false) c.loop-r.invariant
