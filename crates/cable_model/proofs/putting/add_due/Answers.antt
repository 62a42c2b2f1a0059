use Rattle.std.proofs.Common.{ap, arith, length}
use Rattle.cable_model.proofs.Order.{length_placed}
use Rattle.cable_model.specs.Waits.{due_key}
use Rattle.cable_model.proofs.putting.add_due.Goals as goal

pub returns-then-is_for-clause-few : goal.returns-then-is_for-clause-few
returns-then-is_for-clause-few c =
    let long = ap length c.add.ensures.dues in
    let one = length_placed due_key
    (record { stamp = c.args.stamp; station = c.in-Some.s.station; put = c.args.put; seat = c.args.seat }) c.args.due.now.dues in
    omega (arith, long, one)
