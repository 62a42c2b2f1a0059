use Rattle.std.proofs.Common.{◌≡◌, ◌+◌, ◌≤◌, map, take}
use Rattle.cable_model.specs.Logs.{entry_at}
use Rattle.captures.proofs.Further.{times_after}
use Rattle.captures.specs.Packets.{entries_bytes}
use Rattle.text.specs.Going.{Goes}
use Rattle.captures.proofs.packets.print_entries.Given as goal

abbrev pub invariant-loop-entry : goal.invariant-loop-entry
invariant-loop-entry g l =
    Goes (g.W.Write.contents l.fn.output.writer) l.fn.output.text.items
    (entries_bytes (record { seats = l.seats; lost = l.lost }) l.time
    (map (entry_at (g.S.Said.kept l.said)) (take l.entry-index l.entries)))
    (g.W.Write.contents l.output.writer) l.output.text.items
    × (l.next ≡ times_after l.time (map (entry_at (g.S.Said.kept l.said)) (take l.entry-index l.entries)))
    × (l.next ≤ l.time + l.entry-index)
    × (l.output.faults ≡ l.fn.output.faults)
