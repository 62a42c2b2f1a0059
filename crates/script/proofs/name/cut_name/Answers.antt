use Rattle.std.proofs.Common.{arith}
use Rattle.script.proofs.Names.{parts_at}
use Rattle.script.proofs.name.cut_name.Goals as goal

pub returns : goal.returns
returns c =
    parts_at c.args.text.now c.in_ok-colon.colon c.in_ok-at.at c.in_ok-colon.ensures c.in_ok-at.ensures.place (omega arith)
    (omega (arith, c.in_ok-at.ensures.inside))
