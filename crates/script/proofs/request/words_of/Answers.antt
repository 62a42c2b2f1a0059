use Rattle.script.proofs.Requesting.{name_is_rest}
use Rattle.script.proofs.request.words_of.Goals as goal

pub returns-clause-some : goal.returns-clause-some
returns-clause-some c =
    name_is_rest c.args.words c.in_ok-next.field-0.now c.in_ok-next-2.field-0.now c.in_ok-next-3.field-0.now c.in_ok-text.field-0.now
    (cc (c.in_ok-next.ensures.some, c.in_ok-next-2.ensures.some, c.in_ok-next-3.ensures.some, c.in_ok-text.ensures.some))
