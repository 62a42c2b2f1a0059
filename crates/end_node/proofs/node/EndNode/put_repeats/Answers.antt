use Rattle.std.proofs.Common.{◌≡◌, [], false, true, ap, length, sym, subst, Some, ◌∙◌}
use Rattle.std.proofs.lemmas.List.{length-map, nil_from_length}
use Rattle.atp.specs.Repeating.{repeats}
use Rattle.end_node.specs.Repeating.{repeats_by}
use Rattle.end_node.proofs.node.EndNode.put_repeats.Goals as goal

pub returns-in_err-repeats-clause-silent : goal.returns-in_err-repeats-clause-silent
returns-in_err-repeats-clause-silent c e =
    let some : repeats_by (Some c.in-Some.own) c.args.self.now.asks.slots ≡ [] =
    subst (λ own. repeats_by own c.args.self.now.asks.slots ≡ []) c.in-Some.is e in
    let none = nil_from_length _ (sym (length-map _ _) ∙ ap length some) in
    let no : false ≡ true = (c.in_err-repeats.ensures {u = tt}).none (subst (λ h. repeats h.asks.slots ≡ []) (sym c.self.view_is) none) in
    absurd cc
