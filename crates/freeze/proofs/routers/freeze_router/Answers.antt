use Rattle.std.proofs.Common.{◌≤◌, sym, subst, length}
use Rattle.std.specs.List.{AllByRecursion as Each}
use Rattle.at_base.specs.Spelling.{IsValue}
use Rattle.freeze.proofs.Values.{router_value}
use Rattle.freeze.specs.Fits.{FitsList}
use Rattle.freeze.specs.Valid.{HaveMappings}
use Rattle.rtmp.specs.Routes.{IsRouteMap}
use Rattle.table_image.proofs.Checked.{FitsPort, FitsRow}
use Rattle.table_image.specs.Spelling.{router_spelling}
use Rattle.zip_zones.specs.Zones.{IsZoneMap}
use Rattle.freeze.proofs.routers.freeze_router.Goals as goal

pub returns-clause-valid : goal.returns-clause-valid
returns-clause-valid g c count below same short few =
    let is = c.in_ok-frozen.ensures.ok in
    let h = c.args.router.now in
    let v = c.args.version in
    subst (λ x. IsValue (router_spelling v count) x) (sym is)
    (router_value v count c.args.cables.now h c.args.mappers.now
    (subst (λ ps. length ps ≤ 16) c.ports_now-ports.ensures.value c.ports_now-ports.ensures.few)
    c.ports_now-ports.ensures.seated (subst IsRouteMap c.routes.ensures c.len-rows.ensures.map)
    (subst IsZoneMap c.zones.ensures c.len-lists.ensures.map) short
    (subst (λ x. Each FitsPort x.ports) is c.fit_router.ensures.ports)
    (subst (λ x. HaveMappings v x.ports) is (c.in_ok-frozen.ensures.known few))
    (subst (λ x. Each FitsRow x.rows) is c.fit_router.ensures.rows)
    (subst (λ x. Each FitsList x.lists) is c.fit_router.ensures.lists) below same)
