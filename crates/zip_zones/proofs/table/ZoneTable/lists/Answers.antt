use Rattle.std.proofs.Common.{◌≡◌, ℕ, List, Some, refl, ap, sym, ◌∙◌}
use Rattle.std.specs.Option.{option_copied}
use Rattle.at_base.specs.Range.{is_between}
use Rattle.zip_zones.specs.Zones.{Known, has_zone, known_of, lists_at}
use Rattle.zip_zones.proofs.Indexed.{index_rises, indexed_apart}
use Rattle.zip_zones.proofs.Having.{given_has}
use Rattle.zip_zones.proofs.table.ZoneTable.lists.Goals as goal

by_found : (zone : List ℕ) (net : ℕ) (table : List Known) (k : Known) → known_of net table ≡ Some k → has_zone zone k ≡ lists_at net zone table
by_found zone net table k found = rw (lists_at, found) refl

pub list_of-requires : goal.list_of-requires
list_of-requires c =
    rw c.as_slice.ensures.value (indexed_apart c.self.inside.lists.items c.self.inside.index.items c.self.invariant)

pub has-requires-clause-rising : goal.has-requires-clause-rising
has-requires-clause-rising c =
    rw c.as_slice-in-Some.ensures.value (index_rises c.self.inside.lists.items c.self.inside.index.items c.self.invariant)

pub has-requires-clause-indexed : goal.has-requires-clause-indexed
has-requires-clause-indexed c =
    let lists = c.self.inside.lists.items in
    let known = c.in-Some.known.now in
    let found : known_of c.args.net lists ≡ Some known = rw (← c.as_slice.ensures.value) (sym c.list_of.ensures
    ∙ ap option_copied c.in-Some.is) in
    given_has (λ k. is_between k.range.start k.range.end c.args.net) lists c.self.inside.index.items known c.args.zone.now
    known.names known.range.start c.as_slice-in-Some.result.now c.self.invariant found refl refl c.as_slice-in-Some.ensures.value

pub returns-in-Some : goal.returns-in-Some
returns-in-Some c =
    let lists = c.self.inside.lists.items in
    let known = c.in-Some.known.now in
    let found : known_of c.args.net lists ≡ Some known = rw (← c.as_slice.ensures.value) (sym c.list_of.ensures
    ∙ ap option_copied c.in-Some.is) in
    c.has.ensures ∙ by_found c.args.zone.now c.args.net lists known found
    ∙ ap (λ (t : List Known). lists_at c.args.net c.args.zone.now t) c.self.view_is
