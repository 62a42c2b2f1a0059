use Rattle.std.proofs.Common.{◌≡◌, map}
use Rattle.live_cables.specs.Living.{happened}
use Rattle.planned_stations.specs.Planning.{ports_of}
use Rattle.world.specs.Going.{GoesOn}
use Rattle.world.specs.Received.{AreReceived, got}
use Rattle.world.specs.Taking.{AreTaken}
use Rattle.world.proofs.taking.take_all.Given as goal

-- A frame was taken in each step.
abbrev pub invariant-loop-step : goal.invariant-loop-step
invariant-loop-step g l =
    (map ports_of l.stations.items ≡ map ports_of l.initial.stations.items) × GoesOn l._step l.initial.wires l.wires
    × (AreReceived (happened l.initial.wires) (map got l.initial.stations.items)
    → AreReceived (happened l.wires) (map got l.stations.items))
    × AreTaken l._step l.initial.stations.items l.stations.items l.initial.wires l.wires
