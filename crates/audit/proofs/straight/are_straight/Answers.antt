use Rattle.std.proofs.Common.{◌≡◌, Some, slice_get, below_more, subst, arith}
use Rattle.table_image.specs.declared.router.Router.{Router}
use Rattle.audit.specs.Straight.{IsStraight}
use Rattle.audit.proofs.Firsts.{item_at, end_of}
use Rattle.audit.proofs.WalkLists.{at_within, at_one}
use Rattle.audit.proofs.straight.are_straight.Goals as goal

pub loop-router-preserved : goal.loop-router-preserved
loop-router-preserved c =
    let i = c.args.image.now in
    let at = item_at i.routers _ c.loop-router.router-index _ c.routers-router-items.ensures.value c.loop-router-test.true c.router-item.is in
    let good = c.has_straight_rows.ensures c.if-not-has_straight_rows.false in
    below_more (λ r. (router : Router) → slice_get i.routers r ≡ Some router → IsStraight i router) _ c.loop-router.invariant
    (λ router here. subst (IsStraight i) (at_one i.routers c.loop-router.router-index _ router at here) good)

pub returns : goal.returns
returns c = λ _ r router at.
    let i = c.args.image.now in
    let past = end_of i.routers _ c.loop-router.router-index c.routers-router-items.ensures.value c.loop-router-test.false in
    let within = at_within i.routers r router at in
    c.loop-router.invariant r (omega (arith, within, past)) router at
