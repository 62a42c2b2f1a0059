use Rattle.std.proofs.Common.{refl}
use Rattle.std.proofs.lemmas.List.{append_assoc}
use Rattle.cabled.specs.Putting.{all_dressed}
use Rattle.cabled.proofs.Dressed.{both_after, both_put}
use Rattle.cabled.proofs.hearing.dress_both.Goals as goal

pub returns-in-Some-clause-put : goal.returns-in-Some-clause-put
returns-in-Some-clause-put c =
    let outputs = c.args.outputs.now.items in
    let answers = c.in-Some.answers.items in
    let ports = c.args.ports.now in
    rw (c.in-Some.is, c.dress_all-in-Some.ensures.put, c.dress_all.ensures.put, c.dress_all.ensures.after, both_put outputs answers ports)
    (append_assoc c.args.puts.now.items (all_dressed outputs ports).0 (all_dressed answers (all_dressed outputs ports).1).0)

pub returns-in-Some-clause-after : goal.returns-in-Some-clause-after
returns-in-Some-clause-after c =
    let outputs = c.args.outputs.now.items in
    rw (c.in-Some.is, c.dress_all-in-Some.ensures.after, c.dress_all.ensures.after, both_after outputs c.in-Some.answers.items c.args.ports.now)
    refl
