use Rattle.std.proofs.Common.{◌≡◌, ◌≤◌, ◌+◌, ◌++◌, length, map, take, drop}
use Rattle.std.specs.Prelude.{◌*◌}
use Rattle.at_base.specs.Limits.{max_held}
use Rattle.cabled.specs.Putting.{all_asked, with_tick}
use Rattle.cabled.specs.Steps.{after_asking}
use Rattle.cabled.proofs.ticking.ask_all.Given as goal

abbrev pub invariant-loop-port : goal.invariant-loop-port
invariant-loop-port g l =
    (l.number ≡ l.port-index)
    × (l.ports ≡ map with_tick (take l.port-index l.initial.ports) ++ drop l.port-index l.initial.ports)
    × (l.puts.items ≡ l.initial.puts.items ++ all_asked 0 (take l.port-index l.initial.ports))
    × (l.router ≡ after_asking (take l.port-index l.initial.ports) l.initial.router)
    × (max_held * length l.initial.ports ≤ l.puts.spare + max_held * l.port-index)
