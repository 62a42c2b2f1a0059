use Rattle.std.proofs.Common.{◌++◌}
use Rattle.frozen_trace.proofs.Began.{Began, as_one, traced}
use Rattle.frozen_trace.specs.Traces.{pending_line}
use Rattle.frozen_trace.proofs.trace.trace_image.Goals as goal

pub returns-in-Ok-clause-traced : goal.returns-in-Ok-clause-traced
returns-in-Ok-clause-traced g c =
    let did = c.in_ok-run.ensures in
    let told = c.in-Ok.ensures in
    let began : Began c.args.image c.in_ok-run.run' = record { passes = c.requires.passes; has_begun = did.started; fresh = did.fresh } in
    let ended = c.trace_run.new.run in
    let played = told.printed.0 in (
      played ++ pending_line ended,
      traced c.args.image c.args.steps.now c.in_ok-run.run' ended played began told.frozen.0 told.frozen.1 told.printed.1,
      as_one (g.W.Write.contents c.args.output.now.writer) (g.W.Write.contents c.trace_run.new.output.writer)
          c.args.output.now.text.items played (pending_line ended) told.printed.2,
    )
