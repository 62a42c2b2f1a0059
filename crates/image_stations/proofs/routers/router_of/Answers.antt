use Rattle.std.proofs.Common.{ap, subst, sym, ◌∙◌}
use Rattle.std.specs.List.{list_all}
use Rattle.image_stations.proofs.Addressed.{ports_seated}
use Rattle.image_stations.proofs.Routes.{are_ported, route_map, rows_are}
use Rattle.image_stations.specs.Plans.{is_port_seated}
use Rattle.rtmp.specs.Routes.{IsRouteMap}
use Rattle.image_stations.proofs.routers.router_of.Goals as goal

pub table_of-requires : goal.table_of-requires
table_of-requires g c =
    let i = c.args.image.now in
    let known = c.tables_of-tables.ensures.known in
    let rows = rows_are i c.args.index c.tables_of-tables.result.now c.in_ok-rows.rows.items known c.in_ok-rows.ensures.ok in
    subst IsRouteMap (sym (c.as_slice.ensures.value ∙ rows))
    (route_map i c.requires.passes c.args.index c.tables_of-tables.result.now known c.tables_of-tables.ensures.bounded)

pub router_by-requires-clause-seated : goal.router_by-requires-clause-seated
router_by-requires-clause-seated g c =
    ap (list_all (is_port_seated c.args.image.now.cables)) c.as_slice-2.ensures
    ∙ ports_seated c.args.image.now c.args.index c.tables_of-tables.result.now c.requires.passes c.tables_of-tables.ensures.known

pub router_by-requires-clause-ported : goal.router_by-requires-clause-ported
router_by-requires-clause-ported g c =
    let i = c.args.image.now in
    let known = c.tables_of-tables.ensures.known in
    let rows = rows_are i c.args.index c.tables_of-tables.result.now c.in_ok-rows.rows.items known c.in_ok-rows.ensures.ok in
    are_ported i c.requires.passes c.args.index c.tables_of-tables.result.now known _ _ c.tables_of-tables.ensures.bounded
    c.as_slice-2.ensures (c.in_ok-routes.ensures.ok ∙ (c.as_slice.ensures.value ∙ rows))
