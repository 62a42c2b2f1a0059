use Rattle.std.proofs.Common.{true, ◌∙◌}
use Rattle.at_base.specs.Text.{is_printable}
use Rattle.at_base.proofs.Texts.{fold_and}
use Rattle.at_base.proofs.name.all_printable.Goals as goal

pub returns : goal.returns
returns c = c.fold_printable.ensures ∙ fold_and is_printable true c.args.bytes.now
