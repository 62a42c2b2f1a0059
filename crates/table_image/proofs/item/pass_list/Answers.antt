use Rattle.std.proofs.Common.{ℕ}
use Rattle.at_base.specs.Reading.{read, list_at}
use Rattle.table_image.specs.Flaws.{faults}
use Rattle.table_image.proofs.Loop.{passes_more}
use Rattle.table_image.proofs.item.pass_list.Goals as goal

pub loop-preserved : goal.loop-preserved
loop-preserved g c =
    let item = λ (low : ℕ). read faults (g.T.Item.spelling c.args.context low) in
    let found = c.in_ok-next.ensures in
    rw (← found.2) (passes_more item g.T.Item.next c.loop.low c.args.count c.loop.counter c.loop.rest.now found.0 c.in_ok-next.after.now
    (list_at item g.T.Item.next 0 c.args.count c.args.bytes.now) c.loop-test.true found.1 c.loop.invariant)
