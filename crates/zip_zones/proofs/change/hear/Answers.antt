use Rattle.std.proofs.Common.{◌≡◌, OnOk, subst, sym}
use Rattle.zip_zones.specs.Zones.{Known, with_known, with_zone}
use Rattle.zip_zones.specs.Indexing.{index_of}
use Rattle.zip_zones.proofs.change.hear.Goals as goal

pub go_on-requires-clause-at : goal.go_on-requires-clause-at
go_on-requires-clause-at c = rw (← c.as_slice.ensures.value) c.in-Some.ensures.some

pub returns-in-None-clause-ok : goal.returns-in-None-clause-ok
returns-in-None-clause-ok c =
    let lists = c.args.lists.now.items in
    let name = c.args.name.now in
    let fresh = rw (c.as_slice.ensures.value) at c.in-None.ensures.none in
    subst (λ (k : Known). OnOk c.begin.result ((c.begin.new.lists.items ≡ with_known (with_zone name k) lists)
    × (c.begin.new.index.items ≡ index_of (with_known (with_zone name k) lists)))) (sym fresh) c.begin.ensures.ok
