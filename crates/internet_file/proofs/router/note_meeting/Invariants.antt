use Rattle.std.proofs.Common.{◌≡◌, false}
use Rattle.file_entries.specs.Faults.{noted, spot}
use Rattle.internet_file.proofs.router.note_meeting.Given as goal

abbrev pub invariant-loop-index : goal.invariant-loop-index
invariant-loop-index l = noted (spot l.place) false l.faults ≡ noted (spot l.place) false l.initial.faults
