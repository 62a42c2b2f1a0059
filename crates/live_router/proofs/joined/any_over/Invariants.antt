use Rattle.std.proofs.Common.{◌≡◌, drop}
use Rattle.std.specs.List.{list_any}
use Rattle.rtmp.specs.Routes.{is_over}
use Rattle.live_router.proofs.joined.any_over.Given as goal

-- a row is removed if one of those that are left is
abbrev pub invariant-loop-index : goal.invariant-loop-index
invariant-loop-index g l =
    list_any is_over (drop l.index (g.T.RouteTable.rows l.routes)) ≡ list_any is_over (g.T.RouteTable.rows l.routes)
