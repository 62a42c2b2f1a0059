use Rattle.std.proofs.Common.{◌≡◌, Bool, true, false, cond, Some, sym, subst, ◌∙◌, arith}
use Rattle.atp.specs.InPlace.{packet_value}
use Rattle.atp.specs.Requesting.{is_heard}
use Rattle.atp.specs.Slots.{Put}
use Rattle.atp.proofs.Slots.{same_put}
use Rattle.atp.proofs.Steps.{taken, heard_near}
use Rattle.atp.proofs.table.hear_at.Goals as goal

pub returns-then-not-hears_at-clause-changed : goal.returns-then-not-hears_at-clause-changed
returns-then-not-hears_at-clause-changed c = λ t e.
    let p = packet_value c.args.packet.now in
    let not_heard : is_heard c.args.from p t ≡ false = sym (c.hears_at.ensures t e) ∙ c.if-not-hears_at.true in
    subst (λ (b : Bool). Put c.args.table.now c.args.table.now t.id (Some (cond b (taken p t) t))) (sym not_heard)
    (same_put c.args.table.now c.args.key t c.requires.table e)

pub hear_in-requires-clause-near : goal.hear_in-requires-clause-near
hear_in-requires-clause-near c =
    let p = packet_value c.args.packet.now in
    let t = c.requires.there.0 in
    let e = c.requires.there.1 in
    let is : is_heard c.args.from p t ≡ true = sym (c.hears_at.ensures t e) ∙ c.if-not-hears_at.false in
    omega (arith, heard_near c.args.from p t is, (c.requires.table.sendable c.args.key t e).few)

pub returns-then-hear_in-clause-table : goal.returns-then-hear_in-clause-table
returns-then-hear_in-clause-table c = (c.hear_in.ensures.changed c.requires.there.0 c.requires.there.1).table

pub returns-then-hear_in-clause-others : goal.returns-then-hear_in-clause-others
returns-then-hear_in-clause-others c = λ t e. (c.hear_in.ensures.changed t e).others

pub returns-else-hear_in-clause-table : goal.returns-else-hear_in-clause-table
returns-else-hear_in-clause-table c = (c.hear_in.ensures.changed c.requires.there.0 c.requires.there.1).table

pub returns-else-hear_in-clause-others : goal.returns-else-hear_in-clause-others
returns-else-hear_in-clause-others c = λ t e. (c.hear_in.ensures.changed t e).others
