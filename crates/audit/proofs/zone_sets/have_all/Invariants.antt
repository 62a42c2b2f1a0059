use Rattle.std.proofs.Common.{take}
use Rattle.audit.specs.Found.{is_found}
use Rattle.audit.proofs.SameZones.{Matches}
use Rattle.audit.proofs.zone_sets.have_all.Given as goal

abbrev pub invariant-loop-name : goal.invariant-loop-name
invariant-loop-name l = Matches l.zones (take l.name-index l.names) (is_found l.found)
