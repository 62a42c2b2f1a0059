use Rattle.std.proofs.Common.{◌++◌, [], length, refl, ◌∙◌}
use Rattle.std.proofs.lemmas.Option.{slice_get_read}
use Rattle.text.proofs.Going.{goes_none, goes_then}
use Rattle.frozen_trace.proofs.Growth.{play_one}
use Rattle.frozen_trace.specs.Traces.{Unplayed}
use Rattle.frozen_trace.proofs.playing.play.Goals as goal

pub loop-step-init : goal.loop-step-init
loop-step-init g c = (
  ([], Unplayed c.args.run.now, goes_none (g.W.Write.contents c.args.output.now.writer) c.args.output.now.text.items),
  c.requires.known,
  refl,
)

pub loop-step-preserved : goal.loop-step-preserved
loop-step-preserved g c =
    let held = c.loop-step.invariant in
    let steps = c.args.steps.now in
    let k = c.loop-step.step-index in
    let s = c.step-item.result in
    let at = slice_get_read steps (length steps) k s refl c.loop-step-test.true c.step-item.is in
    let one = c.in_ok-play_step.ensures.played in (
      (
        held.0.0 ++ one.0,
        play_one c.args.run.now c.loop-step.run c.play_step.new.run steps k s held.0.0 one.0 at held.0.1 one.1,
        goes_then _ _ _ c.args.output.now.text.items _ _ held.0.0 one.0 held.0.2 one.2,
      ),
      c.in_ok-play_step.ensures.known,
      c.in_ok-play_step.ensures.prints.stays ∙ held.2,
    )
