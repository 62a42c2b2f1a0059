use Rattle.std.proofs.Common.{◌++◌, [], ◌∷◌, ◌∙◌}
use Rattle.std.proofs.lemmas.List.{append_assoc}
use Rattle.cable_model.specs.Logs.{entry_at}
use Rattle.text.proofs.Going.{goes_put, on_ok}
use Rattle.trace_lines.specs.Lines.{line}
use Rattle.frozen.specs.Runs.{cabling}
use Rattle.frozen_trace.proofs.printing.print_entry.Goals as goal

pub returns-clause-gone : goal.returns-clause-gone
returns-clause-gone g c =
    let text = c.args.output.now.text.items in
    let known = c.args.lines.now in
    let e = entry_at (cabling c.args.run.now).kept c.args.entry.now in
    on_ok c.pass_on.result c.pass_on.ensures.gone
    (goes_put _ _ text _ _ (line known.addresses known.cables e ++ 10 ∷ [])
    (c.in_ok-append.ensures.line (cabling c.args.run.now).kept c.bytes_of-bytes.ensures
    ∙ append_assoc text (line known.addresses known.cables e) (10 ∷ [])))

pub returns-clause-further : goal.returns-clause-further
returns-clause-further g c =
    on_ok c.pass_on.result c.pass_on.ensures.gone (λ p. c.in_ok-append.ensures.further (cabling c.args.run.now).kept)
