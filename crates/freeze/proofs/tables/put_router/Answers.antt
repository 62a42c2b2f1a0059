use Rattle.std.proofs.Common.{◌∙◌, ◌-◌, ◌∷◌, [], IsTrue, ap, length, nat_lt, sym, subst}
use Rattle.std.specs.List.{list_all}
use Rattle.at_base.specs.Spelling.{IsValue}
use Rattle.cable_model.proofs.Counting.{each-append}
use Rattle.freeze.proofs.Valid.{cables_on, length-map}
use Rattle.freeze.specs.Frozen.{has_long_list, is_long}
use Rattle.freeze.specs.Valid.{AreRouters, IsNotInV1}
use Rattle.planned_stations.specs.Planning.{ports_of}
use Rattle.table_image.specs.Spelling.{router_spelling}
use Rattle.zip_zones.specs.Zones.{most_names}
use Rattle.freeze.proofs.tables.put_router.Goals as goal

pub returns-in_ok-push-in-Router-clause-valid : goal.returns-in_ok-push-in-Router-clause-valid
returns-in_ok-push-in-Router-clause-valid g c count on ports short few old =
    let v = c.args.version in
    let cables = c.as_slice-cables.ensures.value ∙ (c.in_ok-cables-in-Router.ensures {u = tt}).ok in
    let below = subst (λ cs. IsTrue (list_all (λ c. nat_lt c count) cs)) (sym cables) (cables_on count c.args.planned.now on) in
    let same =
    ap length cables ∙ length-map (λ p. p.cable - 1) c.args.planned.now.port ∙ sym ports ∙ ap ports_of c.in-Router.is
    ∙ ap (λ h. length h.ports) (sym c.router.ensures) in
    let in_lists = subst (λ h. IsNotInV1 v (is_long (most_names h.zones))) (sym c.router.ensures)
    (subst (λ m. IsNotInV1 v (has_long_list m)) c.in-Router.is short) in
    let value = (c.in_ok-router-in-Router.ensures {u = tt}).valid count below same in_lists few in
    subst (AreRouters v count) (sym (c.in_ok-push-in-Router.ensures {u = tt}).items)
    (each-append (λ r. IsValue (router_spelling v count) r) c.args.frozen.now.items (c.in_ok-router-in-Router.router ∷ []) old (value, tt))
