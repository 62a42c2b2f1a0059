use Rattle.std.proofs.Common.{ℕ, ◌<◌}
use Rattle.audit.specs.GoodLists.{KeepsList}
use Rattle.audit.proofs.zone_lists.are_spelled_like_cables.Given as goal

abbrev pub invariant-loop-k : goal.invariant-loop-k
invariant-loop-k l = (j : ℕ) → j < l.k → KeepsList l.image l.r j
