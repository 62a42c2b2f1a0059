use Rattle.std.proofs.Common.{◌≡◌, ◌≤◌, ◌*◌, length, map}
use Rattle.planned_stations.specs.Planning.{ports_of}
use Rattle.world.specs.Going.{GoesOn}
use Rattle.world.specs.Passing.{HavePassed}
use Rattle.world.specs.Received.{got}
use Rattle.world.proofs.station_ticks.tick_all.Given as goal

abbrev pub invariant-loop-index : goal.invariant-loop-index
invariant-loop-index g l =
    (map ports_of l.stations.items ≡ map ports_of l.initial.stations.items)
    × (map got l.stations.items ≡ map got l.initial.stations.items) × (length l.stations.items ≡ length l.initial.stations.items)
    × GoesOn 0 l.initial.wires l.wires × (l.seat ≤ 255 * l.index)
    × HavePassed l.index l.seat l.initial.stations.items l.stations.items l.initial.wires l.wires
