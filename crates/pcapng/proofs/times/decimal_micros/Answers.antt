use Rattle.std.proofs.Common.{arith, ap, ◌∙◌, ◌-◌, ◌^◌, ◌<◌}
use Rattle.pcapng.proofs.Powers.{few_micros, none_left, ten_some}
use Rattle.pcapng.proofs.times.decimal_micros.Goals as goal

pub returns-then-power-le6-clause-few : goal.returns-then-power-le6-clause-few
returns-then-power-le6-clause-few c =
    let fits : c.from.result < 2 ^ 64 = omega (arith, c.from.ensures, c.ranges.units.fits) in
    let is = c.from-then-power-le6-2.ensures ∙ c.pow.ensures ∙ ap (λ m. 10 ^ (6 - m)) c.from-then-power-le6.ensures in
    few_micros c.from.result c.from-then-power-le6-2.result c.args.power fits c.if-power-le6.true is

pub returns-then-more-gt19-clause-value : goal.returns-then-more-gt19-clause-value
returns-then-more-gt19-clause-value c =
    none_left c.args.units c.args.power (omega (arith, c.ranges.units.fits)) c.if-power-le6.false
    (omega (arith, c.if-more-gt19.true, c.from-more.ensures))

pub nonzero_div-units : goal.nonzero_div-units
nonzero_div-units c = let some = ten_some (c.from-more.result - 6) in omega (arith, some, c.pow-2.ensures)
