use Rattle.std.proofs.Common.{◌≡◌, ◌+◌, length, map, drop}
use Rattle.toml.specs.View.{view}
use Rattle.file_entries.specs.Entries.{each, each_from}
use Rattle.file_entries.proofs.Turns.{with_front}
use Rattle.file_entries.proofs.entries.each.Given as goal

abbrev pub invariant-loop-value : goal.invariant-loop-value
invariant-loop-value g l =
    (each (g.R.Reader.meaning l.reader) (map view l.values)
    ≡ with_front l.items.items
    (each_from (length l.items.items + 1) (g.R.Reader.meaning l.reader) (map view (drop l.value-index l.values))))
    × (l.value-index ≡ length l.items.items) × (l.faults ≡ l.initial.faults)
