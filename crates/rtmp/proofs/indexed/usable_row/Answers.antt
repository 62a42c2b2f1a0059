use Rattle.std.proofs.Common.{◌≡◌, Some, None, Bool, cond, sym, ap, ◌∙◌}
use Rattle.at_base.specs.Spans.{item_for}
use Rattle.rtmp.proofs.Maps.{rows_apart}
use Rattle.rtmp.proofs.Usable.{usable_none, usable_one}
use Rattle.rtmp.proofs.indexed.usable_row.Goals as goal

pub item_at-requires : goal.item_at-requires
item_at-requires c = rows_apart c.args.rows.now c.requires

pub returns-in-None : goal.returns-in-None
returns-in-None c = sym (usable_none c.args.net c.args.rows.now (sym c.item_at.ensures ∙ (sym c.copied.ensures ∙ c.in-None.is)))

pub returns-then-is_usable : goal.returns-then-is_usable
returns-then-is_usable c =
    let row = c.in-Some.row in
    let found : item_for (λ r. r.range) c.args.net c.args.rows.now ≡ Some row =
    sym c.item_at.ensures ∙ (sym c.copied.ensures ∙ c.in-Some.is) in
    sym (usable_one c.args.net 0 c.args.rows.now row (rows_apart c.args.rows.now c.requires) found
    ∙ ap (λ (b : Bool). cond b (Some row) None) (sym c.is_usable.ensures ∙ c.if-is_usable.true))

pub returns-else-is_usable : goal.returns-else-is_usable
returns-else-is_usable c =
    let row = c.in-Some.row in
    let found : item_for (λ r. r.range) c.args.net c.args.rows.now ≡ Some row =
    sym c.item_at.ensures ∙ (sym c.copied.ensures ∙ c.in-Some.is) in
    sym (usable_one c.args.net 0 c.args.rows.now row (rows_apart c.args.rows.now c.requires) found
    ∙ ap (λ (b : Bool). cond b (Some row) None) (sym c.is_usable.ensures ∙ c.if-is_usable.false))
