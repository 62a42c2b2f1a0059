use Rattle.std.proofs.Common.{◌∙◌, ◌-◌, ◌∷◌, ◌++◌, [], IsTrue, ap, length, nat_lt, sym, subst}
use Rattle.std.specs.List.{list_all}
use Rattle.freeze.proofs.Valid.{cables_on, length-map}
use Rattle.freeze.specs.Valid.{AreRouters}
use Rattle.freeze.proofs.alone.router_in.Goals as goal

pub returns-clause-valid : goal.returns-clause-valid
returns-clause-valid g c count on ports short =
    let cables = c.as_slice.ensures.value ∙ (c.in_ok-cables.ensures {u = tt}).ok in
    let below = subst (λ cs. IsTrue (list_all (λ c. nat_lt c count) cs)) (sym cables) (cables_on count c.args.planned.now on) in
    let same = ap length cables ∙ length-map (λ p. p.cable - 1) c.args.planned.now.port ∙ ports in
    let value = (c.in_ok-frozen.ensures {u = tt}).valid count below same short tt in
    subst (AreRouters c.args.version count) (sym ((c.in_ok-push.ensures {u = tt}).items ∙ ap (λ l. l ++ c.in_ok-frozen.frozen ∷ []) (c.in_ok-routers.ensures {u = tt}).items)) (value, tt)
