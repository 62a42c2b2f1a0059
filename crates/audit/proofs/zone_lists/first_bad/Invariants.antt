use Rattle.std.proofs.Common.{ℕ, ◌<◌}
use Rattle.audit.specs.GoodLists.{KeepsLists}
use Rattle.audit.proofs.zone_lists.first_bad.Given as goal

abbrev pub invariant-loop-r : goal.invariant-loop-r
invariant-loop-r l = (s : ℕ) → s < l.r → KeepsLists l.image s
