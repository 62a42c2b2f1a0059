use Rattle.std.proofs.Common.{◌≡◌, false}
use Rattle.file_entries.specs.Faults.{noted, spot}
use Rattle.tables_file.proofs.rising.note_falling.Given as goal

abbrev pub invariant-loop-item : goal.invariant-loop-item
invariant-loop-item g l = noted (spot l.place) false l.faults ≡ noted (spot l.place) false l.initial.faults
