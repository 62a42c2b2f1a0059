use Rattle.std.proofs.Common.{◌≡◌, ℕ, List, rules}
use Rattle.script.specs.Scripts.{IsBadAt}
use Rattle.commands.proofs.Known.{all_taken}
use Rattle.commands.proofs.Scripts.{fed_bad, fed_good, fed_named}
use Rattle.commands.proofs.script_input.read_steps.Goals as goal

pub returns-in-Ok-finish-clause-bad_line : goal.returns-in-Ok-finish-clause-bad_line
returns-in-Ok-finish-clause-bad_line g c =
    let took = c.in-Ok.ensures.took in
    all_taken (λ text. (n : ℕ) → IsBadAt text n → ⊥) _ (g.R.Read.remaining c.read_into.new.input) took.0 took.3 c.in-Ok.ensures.end
    (λ n bad. c.scripts_have_no_bad_line.ensures.sound took.0 c.in-Ok-finish.steps.items n
    (c.in-Ok-finish.ensures.script took.0 took.1.1) bad)

pub returns-clause-named : goal.returns-clause-named
returns-clause-named g c =
    let at = c.in-Err-Refused.ensures.refused c.in-Err-Refused.error c.in-Err-Refused.field-0-is in (
      fed_named c.in_script-in-Err-Refused.result c.in-Err-Refused.error at.0 (search rules) at.1,
      c.in_script-in-Err-Refused.ensures.origin,
      search rules,
    )

pub returns-clause-bad_line : goal.returns-clause-bad_line
returns-clause-bad_line g c =
    let at = c.in-Err-Refused.ensures.refused c.in-Err-Refused.error c.in-Err-Refused.field-0-is in
    fed_bad _ (g.R.Read.remaining c.read_into.new.input) at.0 c.in_script-in-Err-Refused.result c.in-Err-Refused.error (search rules)
    at.2 at.1

pub returns-clause-good : goal.returns-clause-good
returns-clause-good g c =
    let at = c.in-Err-Refused.ensures.refused c.in-Err-Refused.error c.in-Err-Refused.field-0-is in
    fed_good c.scripts_have_no_bad_line.ensures.sound _ (g.R.Read.remaining c.read_into.new.input) at.0
    c.in_script-in-Err-Refused.result c.in-Err-Refused.error (search rules) at.2 at.1
