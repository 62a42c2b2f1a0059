use Rattle.std.proofs.Common.{◌≡◌, drop}
use Rattle.learning.specs.Forgetting.{without_gone}
use Rattle.learning.proofs.forgetting.forget_lists.Given as goal

-- the rows that are left remove the lists that are still to be removed
abbrev pub invariant-loop-index : goal.invariant-loop-index
invariant-loop-index g l =
    without_gone (drop l.index (g.T.RouteTable.rows l.routes)) l.zones
    ≡ without_gone (g.T.RouteTable.rows l.routes) l.initial.zones
