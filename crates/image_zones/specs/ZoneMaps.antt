-- The zone lists of a router as a zone table.
use Rattle.std.specs.Prelude.{ℕ, ◌+◌, Bool, not, ◌&&◌, ◌||◌, ◌==◌, List, length, map, filter, Option, option_map, slice_get, nat_le}
use Rattle.std.specs.Prelude.{if◌then◌else◌}
use Rattle.std.specs.List.{list_all}
use Rattle.at_base.specs.Limits.{max_zones}
use Rattle.at_base.specs.Range.{Span, is_range}
use Rattle.zip_zones.specs.Zones.{Known, are_above, each_once, set_list}
use Rattle.table_image.specs.declared.zone_list.ZoneList.{ZoneList}
use Rattle.table_image.specs.Internet.{Internet}

-- the range of a zone list
abbrev pub range_of : ZoneList → Span
range_of l = record { start = l.start; end = l.end }

-- the list of a zone table: complete if the zone list is, else with one zone more in its total than it has names
abbrev pub known_of_list : ZoneList → Known
known_of_list l =
    if l.complete then set_list (range_of l) l.zones
    else record { range = range_of l; total = length l.zones + 1; names = each_once l.zones }

-- the zone list is put into the zone table: it is complete, or has a zone
abbrev pub is_told : ZoneList → Bool
is_told l = l.complete || not (length l.zones == 0)

-- the zone table with these zone lists
abbrev pub zone_map : List ZoneList → List Known
zone_map lists = map known_of_list (filter is_told lists)

-- the range of each list is valid, and no two ranges of the zone table overlap
abbrev pub have_zone_ranges : List ZoneList → Bool
have_zone_ranges lists = list_all (λ l. is_range l.start l.end) lists && are_above 0 (zone_map lists)

-- the zone table has room for the zones of each list
abbrev pub have_few_zones : List ZoneList → Bool
have_few_zones lists = list_all (λ k. nat_le k.total max_zones) (zone_map lists)

-- the zone lists of a router, by its index from 0, if it exists
abbrev pub lists_at : ℕ → Internet → Option (List ZoneList)
lists_at router i = option_map (λ r. r.lists) (slice_get i.routers router)
