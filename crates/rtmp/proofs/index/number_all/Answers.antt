use Rattle.std.proofs.Common.{◌≡◌, arith, length, take, ap, ◌∙◌}
use Rattle.rtmp.proofs.Numbering.{numbered_more, numbers_rise, up_to}
use Rattle.rtmp.proofs.index.number_all.Goals as goal

pub put_number-requires-clause-rising : goal.put_number-requires-clause-rising
put_number-requires-clause-rising c = rw (c.loop-row.invariant.0) (numbers_rise (take c.loop-row.row-index c.args.rows.now))

pub put_number-requires-clause-room : goal.put_number-requires-clause-room
put_number-requires-clause-room c =
    let some : length c.loop-row.numbers.items ≡ c.loop-row.row-index =
    ap length c.loop-row.invariant.0 ∙ up_to c.args.rows.now c.loop-row.row-index c.loop-row-test.true in
    omega (arith, some, c.loop-row.invariant.1, c.requires.room, c.loop-row-test.true)

pub loop-row-preserved : goal.loop-row-preserved
loop-row-preserved c =
    rw (c.put_number.ensures.put, c.number_of.ensures, c.loop-row.invariant.0, c.put_number.ensures.room)
    (numbered_more c.args.rows.now c.loop-row.row-index c.row-item.result c.loop-row-test.true c.row-item.is, c.loop-row.invariant.1)
