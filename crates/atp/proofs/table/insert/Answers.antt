use Rattle.std.proofs.Common.{arith}
use Rattle.atp.proofs.Slots.{added}
use Rattle.atp.proofs.table.insert.Goals as goal

pub returns-clause-put : goal.returns-clause-put
returns-clause-put c =
    added c.args.table.now c.insert_reserved.new.self c.insert_reserved.result c.args.transaction c.requires.table c.requires.some
    c.requires.fresh c.requires.sendable c.insert_reserved.ensures.was_vacant
    c.insert_reserved.ensures.updates c.insert_reserved.ensures.len (omega (arith, c.insert_reserved.ensures.capacity))
