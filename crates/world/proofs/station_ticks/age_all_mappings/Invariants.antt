use Rattle.std.proofs.Common.{◌≡◌}
use Rattle.planned_stations.specs.Planning.{ports_of}
use Rattle.world.specs.Going.{GoesOn}
use Rattle.world.specs.Passing.{AreAged}
use Rattle.world.specs.Received.{got}
use Rattle.world.proofs.station_ticks.age_all_mappings.Given as goal

abbrev pub invariant-loop-port : goal.invariant-loop-port
invariant-loop-port g l =
    (ports_of l.station ≡ ports_of l.initial.station) × (got l.station ≡ got l.initial.station) × GoesOn 0 l.initial.wires l.wires
    × AreAged l.seat l.port l.initial.station l.station l.initial.wires l.wires
