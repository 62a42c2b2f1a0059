use Rattle.std.proofs.Common.{◌≡◌, arith, false, sym, true, Some, ◌∙◌}
use Rattle.at_base.specs.declared.error.Error.TheVariants.{BadRange, NoSuch}
use Rattle.at_base.specs.declared.error.What.TheVariants as what
use Rattle.image_stations.proofs.Refusals.{last_of_three}
use Rattle.image_stations.proofs.Routes.{ranges_at}
use Rattle.image_stations.proofs.routers.rows_of.Goals as goal

pub returns-clause-refused : goal.returns-clause-refused
returns-clause-refused c =
    let there = c.requires.there in
    let valid = ranges_at c.args.image.now c.args.index c.requires.passes there in
    last_of_three (NoSuch what.Router) BadRange c.rows_of.result c.rows_of.ensures.refused
    (λ e. let past = c.rows_of.ensures.none.0 e in omega (arith, there, past))
    (λ e. let bad : Some true ≡ Some false = sym valid ∙ c.rows_of.ensures.range.0 e in cc)
