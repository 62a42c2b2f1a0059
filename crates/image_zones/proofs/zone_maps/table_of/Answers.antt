use Rattle.std.proofs.Common.{sym}
use Rattle.image_zones.proofs.ZoneTables.{lists_map}
use Rattle.image_zones.proofs.zone_maps.table_of.Goals as goal

pub put_all-requires-clause-map : goal.put_all-requires-clause-map
put_all-requires-clause-map c =
    lists_map c.args.lists.now (sym c.if-not-have_ranges.ensures) (sym c.if-not-are_short.ensures) c.requires.few
