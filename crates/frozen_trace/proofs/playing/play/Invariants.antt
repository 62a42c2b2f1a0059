use Rattle.std.proofs.Common.{◌≡◌, List, take, ℕ}
use Rattle.text.specs.Going.{Goes}
use Rattle.frozen_trace.specs.Traces.{StepsPrint, all_printed}
use Rattle.frozen_trace.proofs.playing.play.Given as goal

abbrev pub invariant-loop-step : goal.invariant-loop-step
invariant-loop-step g l =
    ((more : List ℕ) × StepsPrint l.fn.run (take l.step-index l.steps) more l.run
    × Goes (g.W.Write.contents l.fn.output.writer) l.fn.output.text.items more
    (g.W.Write.contents l.output.writer) l.output.text.items)
    × (l.lines ≡ all_printed l.run)
    × (l.output.faults ≡ l.fn.output.faults)
