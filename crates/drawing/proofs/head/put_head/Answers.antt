use Rattle.std.proofs.Common.{◌∙◌, ◌++◌, ap}
use Rattle.text.proofs.Going.{put_then}
use Rattle.drawing.proofs.head.put_head.Goals as goal

pub returns-clause-put : goal.returns-clause-put
returns-clause-put c =
    let t = c.args.text.now.items in
    let line = c.in_ok-put_letters-2.ensures ∙ ap (λ l. c.put_letters.new.text.items ++ l) (c.as_bytes.ensures.value ∙ c.in_ok-line.ensures.ok) in
    let t1 = put_then t _ _ c.in_ok-put_letters.ensures line in
    let t2 = put_then t _ _ t1 c.in_ok-put_to.ensures in
    put_then t _ _ t2 c.in_ok-put_letters-3.ensures
