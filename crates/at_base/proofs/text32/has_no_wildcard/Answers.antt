use Rattle.std.proofs.Common.{ℕ, true, not, ◌==◌, ◌∙◌}
use Rattle.at_base.proofs.Texts.{fold_and}
use Rattle.at_base.proofs.text32.has_no_wildcard.Goals as goal

pub returns : goal.returns
returns c = c.fold_no_wildcard.ensures ∙ fold_and (λ (b : ℕ). not (b == 0xC5)) true c.args.text.now
