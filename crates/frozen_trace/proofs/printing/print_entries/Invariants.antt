use Rattle.std.proofs.Common.{◌≡◌, ◌++◌, map, take}
use Rattle.cable_model.specs.Logs.{entry_at}
use Rattle.text.specs.Going.{Goes}
use Rattle.trace_lines.specs.Lines.{lines as lines_of, with_cables}
use Rattle.frozen.specs.Runs.{cabling}
use Rattle.frozen_trace.proofs.printing.print_entries.Given as goal

abbrev pub invariant-loop-entry : goal.invariant-loop-entry
invariant-loop-entry g l =
    Goes (g.W.Write.contents l.fn.output.writer) l.fn.output.text.items
    (lines_of l.fn.lines.addresses l.fn.lines.cables (map (entry_at (cabling l.run).kept) (take l.entry-index l.entries)))
    (g.W.Write.contents l.output.writer) l.output.text.items
    × (l.lines ≡ record {
      addresses = l.fn.lines.addresses;
      cables = with_cables l.fn.lines.cables (map (entry_at (cabling l.run).kept) (take l.entry-index l.entries));
    })
    × (l.output.faults ≡ l.fn.output.faults)
