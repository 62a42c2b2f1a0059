use Rattle.std.proofs.Common.{arith}
use Rattle.at_base.proofs.Loops.{one_more, refused}
use Rattle.nbp.proofs.packet.+after_tuples.Goals as goal

pub returns-in-Ok : goal.returns-in-Ok
returns-in-Ok t c =
    one_more _ _ (λ r. r.now) 0 c.args.count _ _ _ _ (omega (arith, c.if-count-eq0.false)) c.in-Ok.ensures c.after_tuples.ensures

pub returns-in-Err : goal.returns-in-Err
returns-in-Err t c = refused _ _ 0 c.args.count _ _ (omega (arith, c.if-count-eq0.false)) c.in-Err.ensures
