use Rattle.std.proofs.Common.{arith}
use Rattle.at_base.proofs.Numbers.{between_is}
use Rattle.at_base.proofs.index.places_between.Goals as goal

pub returns-clause-apart : goal.returns-clause-apart
returns-clause-apart c =
    let e = between_is c.args.low c.args.high 0 c.args.numbers.now c.requires.span c.requires.rising in
    omega (arith, c.place_of.ensures.place, c.place_of-2.ensures.place, e.0)
