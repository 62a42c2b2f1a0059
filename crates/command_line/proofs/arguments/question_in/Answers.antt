use Rattle.std.proofs.Common.{◌∙◌, List, [], Option, ap, codes, rules, unwrap_or}
use Rattle.clap.specs.Words.{Text, found_of}
use Rattle.clap.proofs.WalkLemmas.{raw_values-rows}
use Rattle.command_line.proofs.arguments.question_in.Goals as goal

pub returns : goal.returns
returns c =
    let words = c.all_texts.ensures ∙ ap (λ (texts : Option (List Text)). unwrap_or texts [])
    (c.get_strs.ensures ∙ raw_values-rows (found_of c.args.operands.now) (codes "QUESTION")) in
    search (rules, words)
