use Rattle.std.proofs.Common.{◌<◌, length, List, subst}
use Rattle.table_image.specs.declared.router.Router.{Router}
use Rattle.audit.proofs.stations.a_router_has.Goals as goal

pub earlier_router_has-requires-clause-seen : goal.earlier_router_has-requires-clause-seen
earlier_router_has-requires-clause-seen c s lt =
    let P : List Router → Type 0 = λ routers. s < length routers in
    c.requires s (subst P c.routers.ensures.value lt)
