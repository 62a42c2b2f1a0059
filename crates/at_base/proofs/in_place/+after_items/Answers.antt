use Rattle.std.proofs.Common.{arith}
use Rattle.at_base.proofs.Loops.{one_more, refused}
use Rattle.at_base.proofs.in_place.+after_items.Goals as goal

pub returns-in-Ok : goal.returns-in-Ok
returns-in-Ok g t c =
    one_more _ _ (λ r. r.now) c.args.low c.args.count _ _ _ _ (omega (arith, c.if-count-eq0.false)) c.in-Ok.ensures
    (rw c.low_after.ensures at c.after_items.ensures)

pub returns-in-Err : goal.returns-in-Err
returns-in-Err g t c = refused _ _ c.args.low c.args.count _ _ (omega (arith, c.if-count-eq0.false)) c.in-Err.ensures
