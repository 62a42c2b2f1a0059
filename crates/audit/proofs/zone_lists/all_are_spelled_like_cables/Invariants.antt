use Rattle.std.proofs.Common.{ℕ, ◌<◌}
use Rattle.audit.specs.GoodLists.{KeepsLists}
use Rattle.audit.proofs.zone_lists.all_are_spelled_like_cables.Given as goal

abbrev pub invariant-loop-r : goal.invariant-loop-r
invariant-loop-r l = (s : ℕ) → s < l.r → KeepsLists l.image s
