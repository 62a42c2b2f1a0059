use Rattle.std.proofs.Common.{◌≡◌, ◌++◌, None, map, take, drop}
use Rattle.atp.proofs.transaction.clear_parts.Given as goal

abbrev pub invariant-loop-part : goal.invariant-loop-part
invariant-loop-part l = l.parts ≡ map (λ part. None) (take l.part-index l.initial.parts) ++ drop l.part-index l.initial.parts
