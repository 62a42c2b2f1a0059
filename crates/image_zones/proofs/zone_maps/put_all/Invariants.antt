use Rattle.std.proofs.Common.{◌≡◌, ◌++◌, drop}
use Rattle.image_zones.specs.ZoneMaps.{zone_map}
use Rattle.image_zones.proofs.zone_maps.put_all.Given as goal

abbrev pub invariant-loop-list : goal.invariant-loop-list
invariant-loop-list l = l.table ++ zone_map (drop l.list-index l.lists) ≡ zone_map l.lists
