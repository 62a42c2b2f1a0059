use Rattle.std.proofs.Common.{◌≡◌, ◌∙◌, List, ap, length, refl, sym}
use Rattle.std.proofs.lemmas.List.{with_items_is}
use Rattle.std.specs.Vec.{with_items}
use Rattle.port.specs.Ports.{Ported}
use Rattle.cabled.proofs.cabled_router.CabledRouter.hear.Goals as goal

pub returns-clause-after : goal.returns-clause-after
returns-clause-after g c =
    let did = c.in_ok-hear_on.ensures {u = tt} in
    let len = did.ports_len ∙ ap (λ (l : List Ported). length l) c.as_mut_slice-ports.ensures.value in
    let items : (with_items c.self.inside.ports c.hear_on.new.ports).items ≡ c.hear_on.new.ports =
    with_items_is c.self.inside.ports c.hear_on.new.ports (len ∙ sym c.self.inside.ports.ok.0) in
    rw (← c.self.view_is, items, did.router, did.ports, c.as_mut_slice-ports.ensures.value) refl
