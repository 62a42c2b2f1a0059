use Rattle.std.proofs.Common.{arith, ap, length, ◌+◌, List, ℕ, ◌≡◌, ◌∙◌, sym, true, false}
use Rattle.at_base.specs.Text.{is_entity}
use Rattle.table_image.proofs.Checked.{entity_passes, entity_empty, entity_wrong}
use Rattle.table_image.proofs.node.check_entity.Goals as goal

pub returns-then-bytes-lt1-clause-checked : goal.returns-then-bytes-lt1-clause-checked
returns-then-bytes-lt1-clause-checked c =
    let len = ap (λ (s : List ℕ). length s) c.as_slice-bytes.ensures.value in
    entity_empty c.args.text.now c.args.at (omega (arith, len))

pub returns-then-not-is_entity-clause-checked : goal.returns-then-not-is_entity-clause-checked
returns-then-not-is_entity-clause-checked c =
    let len = ap (λ (s : List ℕ). length s) c.as_slice-bytes.ensures.value in
    let bad : is_entity c.args.text.now ≡ false =
    ap is_entity (sym c.as_slice-bytes.ensures.value) ∙ (sym c.is_entity.ensures ∙ c.if-not-is_entity.true) in
    entity_wrong c.args.text.now c.args.at bad (omega (arith, len)) c.as_slice-bytes.ensures.short

pub returns-clause-checked : goal.returns-clause-checked
returns-clause-checked c =
    let len = ap (λ (s : List ℕ). length s) c.as_slice-bytes.ensures.value in
    let good : is_entity c.args.text.now ≡ true =
    ap is_entity (sym c.as_slice-bytes.ensures.value) ∙ (sym c.is_entity.ensures ∙ c.if-not-is_entity.false) in
    entity_passes c.args.text.now c.args.at (c.args.at + 1 + length c.as_slice-bytes.result.now) good (omega
    (arith, len)) c.as_slice-bytes.ensures.short (omega (arith, len))
