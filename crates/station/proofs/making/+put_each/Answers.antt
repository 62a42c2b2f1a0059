use Rattle.std.proofs.Common.{◌++◌, ◌∷◌, ◌∙◌, [], ap, append_assoc}
use Rattle.std.proofs.lemmas.Result.{on_err_weaker}
use Rattle.station.specs.Ways.{replying}
use Rattle.station.proofs.making.+put_each.Goals as goal

pub returns-in_ok-put-in-len1-up-clause-in_part : goal.returns-in_ok-put-in-len1-up-clause-in_part
returns-in_ok-put-in-len1-up-clause-in_part t c =
    let before = c.args.made.now.items in
    let one = replying c.args.way.now (c.as_slice.result.now ∷ []) in
    on_err_weaker c.put_each.result
    (λ part. (
      one ++ part.0,
      part.1 ∙ (ap (λ items. items ++ part.0) c.in_ok-put-in-len1-up.ensures.puts.put ∙ append_assoc before one part.0),
    ))
    c.put_each.ensures.in_part
