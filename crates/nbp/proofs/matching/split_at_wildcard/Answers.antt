use Rattle.std.proofs.Common.{◌≡◌, refl, ap, sym, ◌∙◌, Some, None}
use Rattle.std.specs.Prelude.{option_map, ◌+◌}
use Rattle.nbp.specs.Matching.{split_at_wildcard}
use Rattle.nbp.proofs.Patterns.{rest_of, split_at, split_after}
use Rattle.nbp.proofs.matching.split_at_wildcard.Goals as goal

pub returns-in_err-at : goal.returns-in_err-at
returns-in_err-at c =
    let none : split_at_wildcard c.args.pattern.now ≡ None =
    split_at c.args.pattern.now
    ∙ ap (option_map (λ i. split_after i c.args.pattern.now)) (sym c.wildcard_in.ensures ∙ c.in_err-at.was {u = tt}) in
    rw (none, c.from_residual.ensures) refl

pub returns : goal.returns
returns c =
    let some : split_at_wildcard c.args.pattern.now ≡ Some (split_after c.in_ok-at.at c.args.pattern.now) =
    split_at c.args.pattern.now
    ∙ ap (option_map (λ i. split_after i c.args.pattern.now)) (sym c.wildcard_in.ensures ∙ c.in_ok-at.was {u = tt}) in
    rw (some, rest_of (c.in_ok-at.at + 1) c.args.pattern.now) refl
