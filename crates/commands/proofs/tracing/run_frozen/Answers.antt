use Rattle.std.proofs.Common.{List, ℕ, refl, rules}
use Rattle.commands.proofs.Images.{IsLate}
use Rattle.commands.proofs.Scripts.{script_read, script_refused, script_unread}
use Rattle.commands.proofs.tracing.run_frozen.Goals as goal

pub returns-in-Err-clause-script : goal.returns-in-Err-clause-script
returns-in-Err-clause-script g c =
    script_unread _ _ _ (g.I.Read.remaining c.args.image.now) (g.I.Read.remaining c.read_image.new.input)
    (g.S.Read.remaining c.args.script.now) (g.S.Read.remaining c.args.script.now) c.in-Err.refused refl c.in-Err.ensures.origin
    c.in-Err.ensures.named c.in-Err.ensures.read

pub returns-in-Err-read_steps-clause-script : goal.returns-in-Err-read_steps-clause-script
returns-in-Err-read_steps-clause-script g c =
    script_refused _ (List ℕ) _ _ (g.I.Read.remaining c.args.image.now) (g.I.Read.remaining c.read_image.new.input)
    (g.S.Read.remaining c.args.script.now) (g.S.Read.remaining c.read_steps.new.input) c.in-Ok.image c.in-Ok.image
    c.in-Err-read_steps.refused c.in-Ok.ensures.found c.in-Ok.ensures.read c.in-Err-read_steps.ensures.bad_line
    c.in-Err-read_steps.ensures.good

pub returns-in-Ok-trace_script-clause-script : goal.returns-in-Ok-trace_script-clause-script
returns-in-Ok-trace_script-clause-script g c =
    script_read _ _ _ _ (g.I.Read.remaining c.args.image.now) (g.I.Read.remaining c.read_image.new.input)
    (g.S.Read.remaining c.args.script.now) (g.S.Read.remaining c.read_steps.new.input) c.in-Ok.image c.in-Ok.image
    c.in-Ok-read_steps.steps _ c.in-Ok.ensures.found c.in-Ok.ensures.read c.in-Ok-read_steps.ensures.end
    c.in-Ok-read_steps.ensures.bad_line tt

pub returns-clause-script : goal.returns-clause-script
returns-clause-script g c =
    let late : IsLate c.of.result = search rules in
    script_read _ _ _ _ (g.I.Read.remaining c.args.image.now) (g.I.Read.remaining c.read_image.new.input)
    (g.S.Read.remaining c.args.script.now) (g.S.Read.remaining c.read_steps.new.input) c.in-Ok.image c.in-Ok.image
    c.in-Ok-read_steps.steps _ c.in-Ok.ensures.found c.in-Ok.ensures.read c.in-Ok-read_steps.ensures.end
    c.in-Ok-read_steps.ensures.bad_line late
