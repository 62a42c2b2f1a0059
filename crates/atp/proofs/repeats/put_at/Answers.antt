use Rattle.std.proofs.Common.{sym}
use Rattle.atp.proofs.repeats.put_at.Goals as goal

pub repeat-requires : goal.repeat-requires
repeat-requires c = c.requires.sendable c.args.key c.in-Some.transaction.now (sym c.in-Some.ensures)
