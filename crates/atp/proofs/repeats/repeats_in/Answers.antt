use Rattle.std.proofs.Common.{List, arith, eqb-true, length, ap, sym, ◌∙◌, ◌++◌}
use Rattle.atp.specs.Repeating.{repeats_from}
use Rattle.atp.specs.declared.repeats.Repeat.{Repeat}
use Rattle.atp.proofs.Renewals.{few_repeats, none_repeats, none_short, whole}
use Rattle.atp.proofs.repeats.repeats_in.Goals as goal

pub returns-then-is_empty-clause-ok : goal.returns-then-is_empty-clause-ok
returns-then-is_empty-clause-ok c =
    c.new-repeats.ensures.items ∙ sym (none_repeats c.args.table.now.slots (eqb-true _ _ (sym c.is_empty.ensures ∙ c.if-is_empty.true)))

pub returns-in_err-put_from-clause-none : goal.returns-in_err-put_from-clause-none
returns-in_err-put_from-clause-none c =
    λ e. absurd (let r = c.in_err-put_from.ensures.none (sym (whole c.args.table.now.slots) ∙ e) in cc)

pub returns-clause-ok : goal.returns-clause-ok
returns-clause-ok c =
    c.in_ok-put_from.ensures.put
    ∙ ap (λ l. l ++ repeats_from 0 65536 c.args.table.now.slots) c.new-repeats.ensures.items ∙ sym (whole c.args.table.now.slots)

pub returns-clause-few : goal.returns-clause-few
returns-clause-few c =
    let is = ap (λ (l : List Repeat). length l) (returns-clause-ok c) in
    omega (arith, is, few_repeats c.args.table.now.slots, c.requires.few)

pub returns-clause-short : goal.returns-clause-short
returns-clause-short c = c.in_ok-put_from.ensures.short (none_short c.new-repeats.result.items c.new-repeats.ensures.items)
