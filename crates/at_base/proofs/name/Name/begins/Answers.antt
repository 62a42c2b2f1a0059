use Rattle.std.proofs.Common.{◌∙◌, ap, sym, take, length}
use Rattle.std.proofs.lemmas.List.{take-take}
use Rattle.at_base.proofs.name.Name.begins.Goals as goal

pub returns-in-Some : goal.returns-in-Some
returns-in-Some c =
    let bytes = c.args.bytes.now in
    let len = c.self.invariant.1 ∙ ap length c.self.view_is in
    let own = ap (λ n. take n c.self.inside.bytes) (sym len) ∙ c.self.view_is in
    let short = c.as_slice-text.ensures.short in
    let front = ap (take (length c.args.self.now)) (c.in-Some.ensures {u = tt}).cases.same
    ∙ take-take (length c.args.self.now) 32 bytes short in
    let said = rw len at c.are_equal_first.ensures in
    (λ t. sym front ∙ (sym (said.0 t) ∙ own), λ same. said.1 (own ∙ (sym same ∙ sym front)))
