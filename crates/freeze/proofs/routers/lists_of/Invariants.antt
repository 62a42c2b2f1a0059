use Rattle.std.proofs.Common.{◌≡◌, map, take}
use Rattle.freeze.specs.Freezing.{frozen_list}
use Rattle.freeze.proofs.routers.lists_of.Given as goal

-- The lists before the index were appended.
abbrev pub invariant-loop-index : goal.invariant-loop-index
invariant-loop-index l = l.lists.items ≡ map frozen_list (take l.index l.zones)
