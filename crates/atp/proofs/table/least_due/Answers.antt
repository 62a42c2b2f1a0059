use Rattle.std.proofs.Common.{arith}
use Rattle.atp.specs.Repeating.{is_due_by}
use Rattle.atp.proofs.Due.{least, none_due}
use Rattle.atp.proofs.table.least_due.Goals as goal

pub returns-clause-some : goal.returns-clause-some
returns-clause-some c =
    let i = c.loop-key.invariant in
    least (is_due_by c.args.when) c.args.first c.args.table.now.slots c.loop-key.key c.loop-key.best c.requires.apart
    (omega (arith, i.within, c.loop-key-test.false)) i.some i.least

pub returns-clause-none : goal.returns-clause-none
returns-clause-none c =
    let i = c.loop-key.invariant in
    none_due (is_due_by c.args.when) c.args.first c.args.table.now.slots c.loop-key.key c.loop-key.best
    (omega (arith, i.within, c.loop-key-test.false)) i.none
