use Rattle.std.proofs.Common.{◌≡◌, IsTrue, ◌↔◌, Bool, false, refl, sym, ◌∙◌, subst}
use Rattle.at_base.specs.Text.{is_only}
use Rattle.nbp.specs.Matching.{Matches, matches}
use Rattle.nbp.proofs.Patterns.{decides}
use Rattle.nbp.proofs.matching.matches.Goals as goal

pub returns-else-is_equals-clause-exact : goal.returns-else-is_equals-clause-exact
returns-else-is_equals-clause-exact c =
    let other : is_only 61 c.args.pattern.now ≡ false = sym c.is_equals.ensures ∙ c.if-is_equals.false in
    let is : matches c.args.pattern.now c.args.name.now ≡ c.is_like.result = rw (other, c.is_like.ensures) refl in
    subst (λ (b : Bool). IsTrue b ↔ Matches c.args.pattern.now c.args.name.now) is (decides c.args.pattern.now c.args.name.now)
