use Rattle.std.proofs.Common.{sym, ◌∙◌, arith}
use Rattle.settled.proofs.Offered.{none_there, offer_there}
use Rattle.settled.proofs.offering.nearer_offer.Goals as goal

pub returns-clause-first : goal.returns-clause-first
returns-clause-first c =
    c.offer_at.ensures
    ∙ sym (offer_there c.args.image.now c.args.place c.in-Row.r c.in-Row.k c.in-Row.is (omega (arith, c.if-r-eq0.false)) (omega (arith, c.if-k-eq0.false)))

pub returns-clause-none : goal.returns-clause-none
returns-clause-none c =
    none_there c.args.image.now c.args.place c.in-Row.r c.in-Row.k c.in-Row.is (omega (arith, c.if-r-eq0.false))
    (omega (arith, c.if-k-eq0.false)) c.offer_at.result c.offer_at.ensures
