use Rattle.std.proofs.Common.{[], ◌∷◌, ◌++◌, arith, ap, ◌∙◌}
use Rattle.std.proofs.lemmas.Result.{on_err_weaker, on_ok_weaker}
use Rattle.text.proofs.InDigits.{cut_back, decimal_more}
use Rattle.text.proofs.digits.+put_decimal.Goals as goal

pub returns-clause-ok : goal.returns-clause-ok
returns-clause-ok t c =
    let front = c.put_decimal.new.text.items in
    let more = c.if-number-lt100000.false in
    on_ok_weaker c.put_next.result
    (λ last. decimal_more c.args.number c.args.text.now.items front c.put_next.new.text.items (omega (arith, more))
    (omega arith) c.in_ok-put_decimal.ensures.ok (last ∙ ap (λ digit. front ++ digit ∷ []) c.digit-ones.ensures))
    c.put_next.ensures.ok

pub returns-clause-kept : goal.returns-clause-kept
returns-clause-kept t c =
    on_err_weaker c.put_next.result
    (cut_back c.args.text.now.items c.put_decimal.new.text.items c.put_next.new.text.items _ c.len-start.result
    (omega (arith, c.args.text.now.ok.0)) c.in_ok-put_decimal.ensures.ok)
    c.put_next.ensures.cut
