use Rattle.std.proofs.Common.{◌≡◌, Some, sym, ap, ◌∙◌}
use Rattle.slab.specs.Slab.{get}
use Rattle.atp.proofs.Copies.{fresh, room, taken, vacant}
use Rattle.atp.proofs.table.copy_at.Goals as goal

pub insert-requires-clause-some : goal.insert-requires-clause-some
insert-requires-clause-some c = room c.args.key c.args.table.now c.args.copy.now c.in-Some.transaction.now c.requires.table
    c.requires.before (sym c.in-Some.ensures)

pub insert-requires-clause-fresh : goal.insert-requires-clause-fresh
insert-requires-clause-fresh c =
    let at : get c.args.table.now c.args.key ≡ Some c.in_ok-copy.field-0 = sym c.in-Some.ensures ∙ ap Some (sym c.in_ok-copy.ensures.ok) in
    fresh c.args.key c.args.table.now c.args.copy.now c.in_ok-copy.field-0 c.requires.table c.requires.before at

pub returns-in_ok-copy-clause-copied : goal.returns-in_ok-copy-clause-copied
returns-in_ok-copy-clause-copied c =
    let at : get c.args.table.now c.args.key ≡ Some c.in_ok-copy.field-0 = sym c.in-Some.ensures ∙ ap Some (sym c.in_ok-copy.ensures.ok) in
    taken c.args.key c.args.table.now c.args.copy.now c.insert.new.table c.in_ok-copy.field-0 c.requires.table c.requires.before at
    c.insert.ensures.put c.insert.ensures.len

pub returns-in_default-clause-copied : goal.returns-in_default-clause-copied
returns-in_default-clause-copied c = vacant c.args.key c.args.table.now c.args.copy.now c.requires.before (sym c.in_default.ensures)
