use Rattle.std.proofs.Common.{◌∙◌, ap, option_map, sym}
use Rattle.clap.specs.Words.{Text, found_of}
use Rattle.clap.proofs.WalkLemmas.{first_value-rows}
use Rattle.std.specs.Borrow.{Bor}
use Rattle.command_line.specs.Arguments.{is_set}
use Rattle.command_line.proofs.arguments.flag_in.Goals as goal

pub returns-in-Some : goal.returns-in-Some
returns-in-Some c =
    c.is_true.ensures
    ∙ ap is_set (sym (ap (option_map (λ (s : Bor Text). s.now)) c.in-Some.is) ∙ c.get_str.ensures
    ∙ first_value-rows (found_of c.args.operands.now) c.args.name.now)

pub returns-in-None : goal.returns-in-None
returns-in-None c =
    ap is_set (sym (ap (option_map (λ (s : Bor Text). s.now)) c.in-None.is) ∙ c.get_str.ensures
    ∙ first_value-rows (found_of c.args.operands.now) c.args.name.now)
