use Rattle.std.proofs.Common.{◌≤◌, IfSome, length, subst, sym}
use Rattle.at_base.specs.Limits.{max_mappings}
use Rattle.freeze.proofs.Valid.{few_at_first}
use Rattle.freeze.proofs.mappings.first_of.Goals as goal

pub returns-clause-few : goal.returns-clause-few
returns-clause-few c few =
    subst (λ o. IfSome o (λ m. length m.known ≤ max_mappings)) (sym c.first.ensures.value) (few_at_first c.args.mappers.now few)
