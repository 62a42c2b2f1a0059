use Rattle.std.proofs.Common.{◌∙◌, sym, ap}
use Rattle.audit.specs.NameMarks.{mark_at}
use Rattle.audit.proofs.NameMarks.{not_marked}
use Rattle.audit.proofs.name_marks.NameMarks.add.Goals as goal

pub returns-clause-found : goal.returns-clause-found
returns-clause-found c =
    sym (not_marked c.args.self.now c.args.cable c.args.name.now c.args.others.now c.requires (λ e.
    c.if-self-slot.false (ap (mark_at c.args.self.now) c.slot_of-slot.ensures.value ∙ e)))
