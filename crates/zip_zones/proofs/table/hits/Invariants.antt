use Rattle.std.proofs.Common.{◌≡◌, filter_map, take}
use Rattle.zip_zones.specs.Indexing.{hit}
use Rattle.zip_zones.proofs.table.hits.Given as goal

abbrev pub invariant-loop-number : goal.invariant-loop-number
invariant-loop-number l = l.ranges.items ≡ filter_map (hit l.zone l.lists) (take l.number-index l.numbers)
