use Rattle.std.proofs.Common.{◌≡◌, Some, List, slice_get, sym, ap, ◌∙◌}
use Rattle.table_image.specs.declared.router.Router.{Router}
use Rattle.image_zones.proofs.zone_maps.lists_of.Goals as goal

pub returns-clause-few : goal.returns-clause-few
returns-clause-few c =
    let there : slice_get c.args.image.now.routers c.args.router ≡ Some c.in_ok-found.found.now =
    ap (λ (routers : List Router). slice_get routers c.args.router) (sym c.routers.ensures.value) ∙ sym (c.in_ok-found.ensures {u = tt}) in
    rw (c.as_slice.ensures) (c.routers.ensures.bounded.each c.args.router c.in_ok-found.found.now there).lists

pub returns-clause-zones : goal.returns-clause-zones
returns-clause-zones c =
    let there : slice_get c.args.image.now.routers c.args.router ≡ Some c.in_ok-found.found.now =
    ap (λ (routers : List Router). slice_get routers c.args.router) (sym c.routers.ensures.value) ∙ sym (c.in_ok-found.ensures {u = tt}) in
    let each = (c.routers.ensures.bounded.each c.args.router c.in_ok-found.found.now there).each_list in
    rw (c.as_slice.ensures) (λ k x e. (each k x e).few)
