use Rattle.std.proofs.Common.{◌≡◌, map, take}
use Rattle.cable_model.specs.Logs.{entry_at}
use Rattle.captures.proofs.Further.{left_after}
use Rattle.captures.specs.Packets.{ticks_bytes}
use Rattle.text.specs.Going.{Goes}
use Rattle.captures.proofs.ticks.print_ticks.Given as goal

abbrev pub invariant-loop-k : goal.invariant-loop-k
invariant-loop-k g l =
    Goes (g.W.Write.contents l.fn.output.writer) l.fn.output.text.items
    (ticks_bytes l.seats l.tick (take l.k l.counts) (map (entry_at (g.S.Said.kept l.said)) l.entries))
    (g.W.Write.contents l.output.writer) l.output.text.items
    × (map (entry_at (g.S.Said.kept l.said)) l.left
    ≡ left_after (take l.k l.counts) (map (entry_at (g.S.Said.kept l.said)) l.entries))
    × (l.output.faults ≡ l.fn.output.faults)
