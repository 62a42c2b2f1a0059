use Rattle.std.proofs.Common.{◌≡◌, false}
use Rattle.file_entries.specs.Faults.{noted, spot}
use Rattle.file_entries.proofs.key.note_strange.Given as goal

abbrev pub invariant-loop-key : goal.invariant-loop-key
invariant-loop-key l = noted (spot l.place) false l.faults ≡ noted (spot l.place) false l.initial.faults
