-- The zone lists that a router removes in each period. (Inside AppleTalk, the chapters on RTMP and ZIP)
use Rattle.std.specs.Prelude.{not, List, map, filter}
use Rattle.std.specs.List.{list_any}
use Rattle.at_base.specs.Range.{Span, same_range}
use Rattle.rtmp.specs.declared.row.Row.{Row}
use Rattle.rtmp.specs.Routes.{is_over}
use Rattle.zip_zones.specs.Zones.{Known}

-- the ranges of the rows that are removed: those in their last state that aren't direct
abbrev pub gone : List Row → List Span
gone rows = map (λ r. r.range) (filter is_over rows)

-- the zone table without the lists of the ranges whose rows are removed
abbrev pub without_gone : List Row → List Known → List Known
without_gone rows table = filter (λ k. not (list_any (same_range k.range) (gone rows))) table
