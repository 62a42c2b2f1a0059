use Rattle.std.proofs.Common.{◌≡◌, ◌++◌, take, drop}
use Rattle.cabled.specs.Steps.{called_from}
use Rattle.cabled.proofs.ticking.call_all.Given as goal

abbrev pub invariant-loop-port : goal.invariant-loop-port
invariant-loop-port l =
    (l.number ≡ l.port-index)
    × (l.ports ≡ called_from l.choosers 0 (take l.port-index l.initial.ports) ++ drop l.port-index l.initial.ports)
