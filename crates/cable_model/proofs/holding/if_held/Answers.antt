use Rattle.std.proofs.Common.{◌∙◌, Some, None, ap, cond, sym}
use Rattle.cable_model.specs.Books.{said}
use Rattle.cable_model.specs.Outgoing.{if_open}
use Rattle.cable_model.proofs.holding.if_held.Goals as goal

pub returns-then-is_held-clause-value : goal.returns-then-is_held-clause-value
returns-then-is_held-clause-value c = λ seats book.
    ap (λ b. cond b (Some c.in-Some.stamp) None) (c.if-is_held.ensures.value seats book)
    ∙ ap (if_open (said c.args.log.now)) (sym c.in-Some.is)

pub returns-then-is_held-clause-earlier : goal.returns-then-is_held-clause-earlier
returns-then-is_held-clause-earlier c = λ seats book. c.is_held.ensures.earlier seats book c.if-is_held.true

pub returns-else-is_held-clause-value : goal.returns-else-is_held-clause-value
returns-else-is_held-clause-value c = λ seats book.
    ap (λ b. cond b (Some c.in-Some.stamp) None) (c.if-is_held.ensures.value seats book)
    ∙ ap (if_open (said c.args.log.now)) (sym c.in-Some.is)
