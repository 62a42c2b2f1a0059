use Rattle.std.proofs.Common.{◌≡◌, take, fold}
use Rattle.zip_zones.specs.Zones.{with_name}
use Rattle.zip_zones.proofs.table.insert_all.Given as goal

abbrev pub invariant-loop-name : goal.invariant-loop-name
invariant-loop-name l = l.zones.keys ≡ fold with_name l.fn.zones.keys (take l.name-index l.others)
