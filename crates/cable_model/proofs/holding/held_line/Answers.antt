use Rattle.std.proofs.Common.{◌≡◌, refl, Option, Some, None, IfSome, IfNone, false, sym, ◌∙◌, subst}
use Rattle.cable_model.proofs.HoldOn.{held_line_is, no_other, some_line}
use Rattle.cable_model.specs.Books.{IsHeldLine, said}
use Rattle.cable_model.specs.Holdings.{is_open}
use Rattle.cable_model.specs.declared.putting.HeldLine.{HeldLine}
use Rattle.cable_model.proofs.holding.held_line.Goals as goal

pub returns-in-Some-line_at-clause-some : goal.returns-in-Some-line_at-clause-some
returns-in-Some-line_at-clause-some c = λ seats book.
    subst (λ r. IfSome r (λ l. IsHeldLine c.args.log.now c.args.stamp l)) (sym c.hold_of.ensures)
    (held_line_is seats c.args.log.now book c.args.stamp c.in-Some.due (c.in-Some.ensures.some seats book) c.in-Some-line_at.line
    (sym c.line_at.ensures ∙ c.in-Some-line_at.is))

pub returns-in-Some-line_at-clause-none : goal.returns-in-Some-line_at-clause-none
returns-in-Some-line_at-clause-none c = λ seats book.
    by c.hold_of.result (λ none. no_other seats c.args.log.now book c.args.stamp c.in-Some.due (c.in-Some.ensures.some seats book)
    c.in-Some-line_at.line (sym c.line_at.ensures ∙ c.in-Some-line_at.is) (sym c.hold_of.ensures ∙ none))
  where
    by : (r : Option HeldLine) → (r ≡ None → is_open (said c.args.log.now) c.args.stamp ≡ false)
        → IfNone r (is_open (said c.args.log.now) c.args.stamp ≡ false)
    by None f = f refl
    by (Some l) f = tt

pub returns-in-None-clause-none : goal.returns-in-None-clause-none
returns-in-None-clause-none c = λ seats book.
    some_line seats c.args.log.now book c.args.stamp c.in-Some.due (c.in-Some.ensures.some seats book)
    (sym c.line_at.ensures ∙ c.in-None.is)
