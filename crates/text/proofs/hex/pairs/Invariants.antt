use Rattle.std.proofs.Common.{◌≡◌, length}
use Rattle.text.specs.Words.{pairs}
use Rattle.text.proofs.Pairs.{after}
use Rattle.text.proofs.hex.pairs.Given as goal

abbrev pub invariant-loop-rest : goal.invariant-loop-rest
invariant-loop-rest l = pairs l.digits ≡ after l.bytes.items (pairs l.rest)

abbrev pub decreases-loop-rest : goal.decreases-loop-rest
decreases-loop-rest l = length l.rest
