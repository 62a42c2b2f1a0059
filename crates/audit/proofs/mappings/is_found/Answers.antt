use Rattle.std.proofs.Common.{◌||◌, sym, ap, ◌∙◌}
use Rattle.std.specs.List.{list_any}
use Rattle.std.proofs.lemmas.Bool.{or_left}
use Rattle.table_image.specs.declared.router.Router.{Router}
use Rattle.audit.specs.Mapped.{is_port, is_node}
use Rattle.audit.proofs.Mapped.{in_seats}
use Rattle.audit.proofs.mappings.is_found.Goals as goal

pub returns-then-one_router_is : goal.returns-then-one_router_is
returns-then-one_router_is c =
    let i = c.args.image.now in
    let cable = c.args.cable in
    let m = c.args.mapping.now in
    let any = ap (list_any (λ (router : Router). list_any (is_port cable m) router.ports)) (sym c.routers.ensures.value)
    ∙ (sym c.one_router_is.ensures ∙ c.if-one_router_is.true) in
    c.if-one_router_is.true ∙ sym (in_seats cable m i ∙ or_left _ _ any)

pub returns-else-one_router_is : goal.returns-else-one_router_is
returns-else-one_router_is c =
    let i = c.args.image.now in
    let cable = c.args.cable in
    let m = c.args.mapping.now in
    let none = ap (list_any (λ (router : Router). list_any (is_port cable m) router.ports)) (sym c.routers.ensures.value)
    ∙ (sym c.one_router_is.ensures ∙ c.if-one_router_is.false) in
    c.one_node_is.ensures
    ∙ (ap (list_any (is_node cable m)) c.nodes.ensures.value
    ∙ sym (in_seats cable m i ∙ ap (λ b. b || list_any (is_node cable m) i.nodes) none))
