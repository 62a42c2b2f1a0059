use Rattle.std.proofs.Common.{◌≡◌, take}
use Rattle.zip_zones.specs.Zones.{all_zones}
use Rattle.zip_zones.proofs.table.ZoneTable.all.Given as goal

abbrev pub invariant-loop-known : goal.invariant-loop-known
invariant-loop-known l = l.zones.keys ≡ all_zones (take l.known-index l.self)
