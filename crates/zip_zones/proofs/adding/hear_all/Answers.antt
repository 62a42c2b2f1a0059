use Rattle.zip_zones.proofs.adding.hear_all.Goals as goal

pub go_on_each-requires-clause-at : goal.go_on_each-requires-clause-at
go_on_each-requires-clause-at c = rw (← c.as_slice.ensures.value) c.in-Some.ensures.some

pub returns-in-None-clause-ok : goal.returns-in-None-clause-ok
returns-in-None-clause-ok c =
    let fresh = rw (c.as_slice.ensures.value) at c.in-None.ensures.none in
    rw fresh c.begin_each.ensures.ok
