use Rattle.std.proofs.Common.{arith}
use Rattle.at_base.specs.Packets.{packets}
use Rattle.at_base.proofs.Loops.{starts, goes_on, stops, ends, shrinks}
use Rattle.at_base.proofs.in_place.all_items.Goals as goal

pub loop-rest-init : goal.loop-rest-init
loop-rest-init g c = record { bytes = λ i. omega (arith, c.type_inv.bytes i); few = omega arith; stands = starts _ _ _ }

pub loop-rest-smaller : goal.loop-rest-smaller
loop-rest-smaller g c =
    let format = g.F.ItemFormat.format c.args.format in
    (shrinks packets format c.are_items.ensures c.loop-rest.low _ _ _ c.loop-rest.invariant.bytes c.in-Ok.ensures).0

pub loop-rest-preserved : goal.loop-rest-preserved
loop-rest-preserved g c =
    let format = g.F.ItemFormat.format c.args.format in
    let s = shrinks packets format c.are_items.ensures c.loop-rest.low _ _ _ c.loop-rest.invariant.bytes c.in-Ok.ensures in record {
      bytes = s.1;
      few = omega (arith, s.0, c.loop-rest.invariant.few);
      stands = rw c.low_after-low.ensures (goes_on _ _ _ _ _ _ _ _ (omega (arith, s.0)) c.in-Ok.ensures c.loop-rest.invariant.stands);
    }

pub returns-in-Err : goal.returns-in-Err
returns-in-Err g c =
    let i = c.loop-rest.invariant in
    stops _ _ _ _ _ _ _ (omega (arith, c.loop-rest-test.true)) i.few c.in-Err.ensures i.stands

pub invariant_of-result : goal.invariant_of-result
invariant_of-result g c =
    let i = c.loop-rest.invariant in
    (ends _ _ _ _ _ _ (omega (arith, c.loop-rest-test.false)) (omega (arith, i.few)) i.stands).some

pub returns : goal.returns
returns g c =
    let i = c.loop-rest.invariant in
    (ends _ _ _ _ _ _ (omega (arith, c.loop-rest-test.false)) (omega (arith, i.few)) i.stands).all
