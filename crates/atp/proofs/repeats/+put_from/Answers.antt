use Rattle.std.proofs.Common.{◌≡◌, ◌++◌, ◌+◌, ◌-◌, suc, ap, arith, ◌∙◌}
use Rattle.std.proofs.lemmas.Result.{on_ok_weaker}
use Rattle.atp.specs.Repeating.{repeats_from}
use Rattle.atp.proofs.Renewals.{added, last_added, none_added, not_none}
use Rattle.atp.proofs.repeats.+put_from.Goals as goal

pub returns-in_default-clause-put : goal.returns-in_default-clause-put
returns-in_default-clause-put t c = none_added c.args.first c.args.table.now.slots c.args.repeats.now.items c.in_default.ensures.none

pub returns-in_err-put_one-clause-none : goal.returns-in_err-put_one-clause-none
returns-in_err-put_one-clause-none t c =
    λ e. absurd (not_none c.args.first c.in-Some.id c.args.table.now.slots c.in-Some.ensures.some c.put_one.ensures.near e)

pub returns-in-Some-checked_add-clause-put : goal.returns-in-Some-checked_add-clause-put
returns-in-Some-checked_add-clause-put t c =
    let slots = c.args.table.now.slots in
    let next : c.in-Some.id + 1 ≡ suc c.in-Some.id = omega arith in
    on_ok_weaker c.put_from.result (λ put. put
    ∙ ap (λ n. c.put_one.new.repeats.items ++ repeats_from n (65536 - n) slots) (c.in-Some-checked_add.ensures.1 ∙ next)
    ∙ added c.args.first c.in-Some.id slots c.args.repeats.now.items c.put_one.new.repeats.items c.in-Some.ensures.some
    c.put_one.ensures.near c.in_ok-put_one.ensures.put) c.put_from.ensures.put

pub returns-in-Some-checked_add-clause-short : goal.returns-in-Some-checked_add-clause-short
returns-in-Some-checked_add-clause-short t c =
    on_ok_weaker c.put_from.result (λ short old. short (c.in_ok-put_one.ensures.short old)) c.put_from.ensures.short

pub returns-in-Some-checked_add-clause-none : goal.returns-in-Some-checked_add-clause-none
returns-in-Some-checked_add-clause-none t c =
    λ e. absurd (not_none c.args.first c.in-Some.id c.args.table.now.slots c.in-Some.ensures.some c.put_one.ensures.near e)

pub returns-in-None-clause-put : goal.returns-in-None-clause-put
returns-in-None-clause-put t c =
    last_added c.args.first c.in-Some.id c.args.table.now.slots c.args.repeats.now.items c.put_one.new.repeats.items
    c.in-Some.ensures.some c.put_one.ensures.near c.in-None.ensures c.in_ok-put_one.ensures.put
