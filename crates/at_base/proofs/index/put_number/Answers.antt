use Rattle.std.proofs.Common.{◌≡◌, ◌∙◌, ap}
use Rattle.at_base.specs.Numbers.{below}
use Rattle.at_base.proofs.Numbers.{insert_at}
use Rattle.at_base.proofs.index.put_number.Goals as goal

pub returns-clause-put : goal.returns-clause-put
returns-clause-put c =
    let at : c.place_of-place.result ≡ below c.args.number c.args.numbers.now.items =
    c.place_of-place.ensures.place ∙ ap (below c.args.number) c.as_slice.ensures.value in
    (rw (c.unwrap.ensures, at) at c.insert.ensures.items) ∙ insert_at c.args.number c.args.numbers.now.items
