use Rattle.std.proofs.Common.{◌<◌, ◌+◌, take, sym, arith}
use Rattle.text.specs.Words.{value}
use Rattle.text.proofs.Values.{one_more, exceeds}
use Rattle.text.proofs.number.value_up_to.Goals as goal

pub returns-then-value-from : goal.returns-then-value-from
returns-then-value-from c =
    let i = c.loop-digit.digit-index in
    let next = one_more c.args.digits.now i (omega arith) in
    let more : c.args.max < value (take (i + 1) c.args.digits.now) = omega arith in
    sym (exceeds c.args.max (i + 1) c.args.digits.now more)
