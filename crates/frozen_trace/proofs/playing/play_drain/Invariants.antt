use Rattle.std.proofs.Common.{◌≡◌}
use Rattle.frozen.specs.Events.{Drained}
use Rattle.text.specs.Going.{Goes}
use Rattle.frozen_trace.specs.Traces.{all_printed, told}
use Rattle.frozen_trace.proofs.playing.play_drain.Given as goal

abbrev pub invariant-loop-turn : goal.invariant-loop-turn
invariant-loop-turn g l =
    Drained l.fn.run l._turn l.run
    × Goes (g.W.Write.contents l.fn.output.writer) l.fn.output.text.items (told l.fn.run l.run)
    (g.W.Write.contents l.output.writer) l.output.text.items
    × (l.lines ≡ all_printed l.run)
    × (l.output.faults ≡ l.fn.output.faults)
