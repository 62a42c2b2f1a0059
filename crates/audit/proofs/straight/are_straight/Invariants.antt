use Rattle.std.proofs.Common.{◌≡◌, ℕ, ◌<◌, Some, slice_get}
use Rattle.table_image.specs.declared.router.Router.{Router}
use Rattle.audit.specs.Straight.{IsStraight}
use Rattle.audit.proofs.straight.are_straight.Given as goal

abbrev pub invariant-loop-router : goal.invariant-loop-router
invariant-loop-router l =
    (r : ℕ) → r < l.router-index → (router : Router) → slice_get l.image.routers r ≡ Some router → IsStraight l.image router
