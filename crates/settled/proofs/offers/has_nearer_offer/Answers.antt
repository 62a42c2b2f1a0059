use Rattle.std.proofs.Common.{◌∙◌, List, ap, slice_get, sym}
use Rattle.std.specs.List.{list_any}
use Rattle.settled.proofs.Tests.{any_swap}
use Rattle.settled.proofs.offers.has_nearer_offer.Goals as goal
use Rattle.settled.specs.Offers.{offers_nearer}
use Rattle.table_image.specs.declared.port.Port.{Port}
use Rattle.table_image.specs.declared.router.Router.{Router}

pub is_offered-requires : goal.is_offered-requires
is_offered-requires c = λ s router at.
    (c.routers.ensures.bounded.each s router (ap (λ (l : List Router). slice_get l s) (sym c.routers.ensures.value) ∙ at)).rising

pub returns : goal.returns
returns c =
    let offers = λ (port : Port) (router : Router). offers_nearer port.cable c.args.row.now router in
    let ports = c.args.router.now.ports in
    let routers = c.args.image.now.routers in
    c.is_offered.ensures
    ∙ (ap (λ (l : List Port). list_any (λ (router : Router). list_any (λ port. offers port router) l) c.routers.result.now) c.as_slice.ensures
    ∙ (ap (λ (l : List Router). list_any (λ (router : Router). list_any (λ port. offers port router) ports) l) c.routers.ensures.value
    ∙ sym (any_swap offers ports routers)))
