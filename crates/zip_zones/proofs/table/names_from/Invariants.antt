use Rattle.std.proofs.Common.{◌≡◌, take}
use Rattle.zip_zones.proofs.table.names_from.Given as goal

abbrev pub invariant-loop-zone : goal.invariant-loop-zone
invariant-loop-zone l = l.names.items ≡ take l.zone-index l.zones
