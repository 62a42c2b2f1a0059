use Rattle.std.proofs.Common.{◌≡◌}
use Rattle.world.specs.Doing.{settled_own}
use Rattle.world.proofs.station_ticks.settle.Given as goal

-- The seats of the ports before this one have the station's settled addresses, and only addresses change.
abbrev pub invariant-loop-port : goal.invariant-loop-port
invariant-loop-port g l =
    (l.wires.own ≡ settled_own l.station l.seat l.port l.initial.wires.own)
    × (l.wires ≡ record l.initial.wires { own = l.wires.own })
