use Rattle.audit.specs.Hints.{HasHintsBelow}
use Rattle.audit.proofs.next.Hints.of.Given as goal

abbrev pub invariant-loop-r : goal.invariant-loop-r
invariant-loop-r l = HasHintsBelow l.hints l.image.routers l.r
