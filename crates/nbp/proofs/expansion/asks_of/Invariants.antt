use Rattle.std.proofs.Common.{◌≡◌, length, map, take}
use Rattle.std.specs.List.{All}
use Rattle.nbp.specs.Expansion.{IsAskIn, ask}
use Rattle.nbp.proofs.expansion.asks_of.Given as goal

abbrev pub invariant-loop-range : goal.invariant-loop-range
invariant-loop-range l =
    (l.asked.items ≡ map (ask l.ports) (take l.range-index l.ranges)) × All (IsAskIn (length l.ports)) l.asked.items
