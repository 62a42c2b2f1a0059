use Rattle.std.proofs.Common.{◌≡◌, take}
use Rattle.audit.proofs.zone_sets.are_spelled_alike.Given as goal

abbrev pub invariant-loop-k : goal.invariant-loop-k
invariant-loop-k l = take l.k l.names ≡ take l.k l.others
