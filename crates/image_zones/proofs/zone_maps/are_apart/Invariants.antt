use Rattle.std.proofs.Common.{◌≡◌, drop}
use Rattle.zip_zones.specs.Zones.{are_above}
use Rattle.image_zones.specs.ZoneMaps.{zone_map}
use Rattle.image_zones.proofs.zone_maps.are_apart.Given as goal

abbrev pub invariant-loop-list : goal.invariant-loop-list
invariant-loop-list l = are_above 0 (zone_map l.lists) ≡ are_above l.end (zone_map (drop l.list-index l.lists))
