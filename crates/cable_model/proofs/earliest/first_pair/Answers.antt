use Rattle.std.proofs.Common.{sym, ◌∙◌}
use Rattle.cable_model.proofs.Firsts.{first_is, none_pending}
use Rattle.cable_model.proofs.earliest.first_pair.Goals as goal

pub returns-in-Some-clause-some : goal.returns-in-Some-clause-some
returns-in-Some-clause-some c = λ seats book.
    first_is seats c.args.log.now book c.in-Some.due c.first.ensures.rising (sym c.first.ensures.first ∙ c.in-Some.is)

pub returns-in-None-clause-none : goal.returns-in-None-clause-none
returns-in-None-clause-none c = λ seats book.
    none_pending seats c.args.log.now book (sym c.first.ensures.first ∙ c.in-None.is)
