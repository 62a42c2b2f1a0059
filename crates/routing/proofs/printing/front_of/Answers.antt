use Rattle.std.proofs.Common.{arith, sym}
use Rattle.std.proofs.lemmas.List.{length-take-le, take_all}
use Rattle.routing.proofs.printing.front_of.Goals as goal

pub slice_bounds-result-end : goal.slice_bounds-result-end
slice_bounds-result-end c = sym (length-take-le 1492 c.args.bytes.now (omega (arith, c.if-bytes-gt-MAX_BYTES.true)))

pub returns-then-bytes-gt-MAX_BYTES-clause-few : goal.returns-then-bytes-gt-MAX_BYTES-clause-few
returns-then-bytes-gt-MAX_BYTES-clause-few c =
    let len = length-take-le 1492 c.args.bytes.now (omega (arith, c.if-bytes-gt-MAX_BYTES.true)) in
    omega (arith, len)

pub returns-else-bytes-gt-MAX_BYTES-clause-front : goal.returns-else-bytes-gt-MAX_BYTES-clause-front
returns-else-bytes-gt-MAX_BYTES-clause-front c = sym (take_all 1492 c.args.bytes.now (omega (arith, c.if-bytes-gt-MAX_BYTES.false)))
