use Rattle.std.proofs.Common.{◌++◌, ◌∙◌, ap, sym}
use Rattle.freeze.proofs.Listed.{list_at}
use Rattle.freeze.proofs.routers.put_list.Goals as goal

pub returns-in_ok-push-clause-put : goal.returns-in_ok-push-clause-put
returns-in_ok-push-clause-put c =
    c.in_ok-push.ensures.items
    ∙ ap (λ xs. c.args.lists.now.items ++ xs) (list_at c.args.zones.now c.args.index c.in-Some.range
    c.len-len.ensures.map (sym c.range_at.ensures ∙ c.in-Some.is) c.start-start.result c.end.result c.complete.result
    c.from_vec.result c.start-start.ensures.value c.end.ensures.value c.complete.ensures
    (c.from_vec.ensures ∙ c.in_ok-names.ensures.ok))
