use Rattle.std.proofs.Common.{arith}
use Rattle.atp.proofs.Copies.{whole}
use Rattle.atp.proofs.table.copy_all.Goals as goal

pub returns-clause-ok : goal.returns-clause-ok
returns-clause-ok c = whole c.loop-key.key c.args.table.now c.loop-key.copy c.requires c.loop-key.invariant.copied
    (omega (arith, c.loop-key.invariant.within, c.loop-key-test.false))
