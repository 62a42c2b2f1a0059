use Rattle.at_base.proofs.Numbers.{between_is}
use Rattle.at_base.proofs.index.numbers_between.Goals as goal

pub returns : goal.returns
returns c =
    let e = between_is c.args.low c.args.high 0 c.args.numbers.now c.requires.span c.requires.rising in
    rw c.places_between-first.ensures.places e.1
