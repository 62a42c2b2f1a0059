use Rattle.std.proofs.Common.{arith, sym, ◌∙◌}
use Rattle.cable_model.proofs.Stamps.{open_below}
use Rattle.cable_model.specs.Books.{said}
use Rattle.cable_model.proofs.holding.is_held.Goals as goal

pub returns-clause-value : goal.returns-clause-value
returns-clause-value c = λ seats book. c.is_some.ensures ∙ c.find_held.ensures.value seats book

pub returns-clause-earlier : goal.returns-clause-earlier
returns-clause-earlier c = λ seats book is.
    let less = open_below (said c.args.log.now) c.args.stamp
    (sym (c.is_some.ensures ∙ c.find_held.ensures.value seats book) ∙ is) in
    omega (arith, less, book.next)
