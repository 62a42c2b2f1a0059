use Rattle.std.proofs.Common.{ℕ, List, ◌++◌, ◌∷◌, [], ap, ◌∙◌}
use Rattle.cable_model.proofs.Packing.{one_more}
use Rattle.cable_model.proofs.kept.Kept.push.Goals as goal

pub returns-clause-items : goal.returns-clause-items
returns-clause-items c =
    one_more c.self.inside.packed.items _ c.self.inside.loose.items _ _ _ c.keep-span.ensures.keeps c.self.inside.spans.items _
    c.push_reserved.ensures.items c.self.invariant.inside
    ∙ ap (λ (l : List (List ℕ)). l ++ c.args.bytes ∷ []) (ap (λ s. s.items) c.self.view_is)
