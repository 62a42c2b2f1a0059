use Rattle.std.proofs.Common.{◌≡◌, ◌+◌, drop}
use Rattle.nbp.specs.Registered.{before}
use Rattle.nbp.proofs.names.place_for.Given as goal

abbrev pub invariant-loop-name : goal.invariant-loop-name
invariant-loop-name l = (l.index ≡ l.name-index) × (before l.enumerator l.names ≡ l.index + before l.enumerator (drop l.name-index l.names))
