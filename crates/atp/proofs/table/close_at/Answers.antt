use Rattle.std.proofs.Common.{◌≡◌, Bool, true, cond, Some, None, sym, subst, ◌∙◌}
use Rattle.atp.specs.Requesting.{is_waiting}
use Rattle.atp.specs.Slots.{Put}
use Rattle.atp.proofs.Slots.{same_put}
use Rattle.atp.proofs.table.close_at.Goals as goal

pub returns-then-waits_at-clause-after : goal.returns-then-waits_at-clause-after
returns-then-waits_at-clause-after c = λ t e.
    let waits : is_waiting t ≡ true = sym (c.waits_at.ensures t e) ∙ c.if-waits_at.true in
    subst (λ (b : Bool). Put c.args.table.now c.args.table.now t.id (cond b (Some t) None)) (sym waits)
    (same_put c.args.table.now c.args.key t c.requires e)
