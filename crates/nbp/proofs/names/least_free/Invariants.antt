use Rattle.std.proofs.Common.{◌≡◌, ◌+◌, drop}
use Rattle.nbp.specs.Registered.{free_from}
use Rattle.nbp.proofs.names.least_free.Given as goal

abbrev pub invariant-loop-name : goal.invariant-loop-name
invariant-loop-name l = (l.free ≡ l.name-index + 1) × (free_from 1 l.names ≡ free_from l.free (drop l.name-index l.names))
