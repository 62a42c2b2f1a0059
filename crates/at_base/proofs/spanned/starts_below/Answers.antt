use Rattle.std.proofs.Common.{ltb-true, ltb-false}
use Rattle.at_base.proofs.Spans.{before_over, before_under}
use Rattle.at_base.proofs.spanned.starts_below.Goals as goal

pub returns-clause-below : goal.returns-clause-below
returns-clause-below g c = λ yes.
    before_over g.T.Spanned.span c.args.start 0 c.args.items.now c.args.index c.index-items-index.result c.requires.map c.requires.inside
    (rw (c.start.ensures.value, c.range.ensures, c.index-items-index.is) at (ltb-true _ _ yes))

pub returns-clause-past : goal.returns-clause-past
returns-clause-past g c = λ no.
    before_under g.T.Spanned.span c.args.start c.args.items.now c.args.index c.index-items-index.result c.requires.inside
    (rw (c.start.ensures.value, c.range.ensures, c.index-items-index.is) at (ltb-false _ _ no))
