use Rattle.std.proofs.Common.{◌≡◌, ◌≤◌, length, take}
use Rattle.at_base.specs.Numbers.{in_order}
use Rattle.zip_zones.specs.Indexing.{numbers_from}
use Rattle.zip_zones.specs.Zones.{each_once}
use Rattle.zip_zones.proofs.once.many_once.Given as goal

abbrev pub invariant-loop-name : goal.invariant-loop-name
invariant-loop-name l =
    (l.kept.items ≡ each_once (take l.name-index l.names))
    × (l.numbers.items ≡ in_order (numbers_from 0 0 l.kept.items))
    × (length l.kept.items ≤ l.name-index)
