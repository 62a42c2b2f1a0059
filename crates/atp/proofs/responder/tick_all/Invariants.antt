use Rattle.std.proofs.Common.{◌≡◌, ◌++◌, map, take, drop}
use Rattle.atp.specs.Responding.{older}
use Rattle.atp.proofs.responder.tick_all.Given as goal

abbrev pub invariant-loop-request : goal.invariant-loop-request
invariant-loop-request l = l.requests ≡ map older (take l.request-index l.initial.requests) ++ drop l.request-index l.initial.requests
