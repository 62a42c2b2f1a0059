use Rattle.std.proofs.Common.{◌≡◌, ◌++◌, map, take, drop}
use Rattle.aarp.specs.Choosing.{minded}
use Rattle.router.proofs.setters.mind_all.Given as goal

abbrev pub invariant-loop-port : goal.invariant-loop-port
invariant-loop-port l = l.ports ≡ map (minded l.care) (take l.port-index l.initial.ports) ++ drop l.port-index l.initial.ports
