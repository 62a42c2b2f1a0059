use Rattle.std.proofs.Common.{◌≡◌, take}
use Rattle.zip_zones.specs.Zones.{each_once}
use Rattle.zip_zones.proofs.once.few_once.Given as goal

abbrev pub invariant-loop-name : goal.invariant-loop-name
invariant-loop-name l = l.kept.items ≡ each_once (take l.name-index l.names)
