use Rattle.std.proofs.Common.{◌≡◌, Some, ap, sym, ◌∙◌}
use Rattle.std.specs.Option.{option_copied}
use Rattle.zip_zones.specs.Zones.{known_of}
use Rattle.zip_zones.proofs.Grouping.{found_few}
use Rattle.zip_zones.proofs.Indexed.{indexed_apart}
use Rattle.zip_zones.proofs.table.ZoneTable.names_in_place.Goals as goal

pub list_of-requires : goal.list_of-requires
list_of-requires c =
    rw c.as_slice.ensures.value (indexed_apart c.self.inside.lists.items c.self.inside.index.items c.self.invariant)

pub returns-in-Some-clause-few : goal.returns-in-Some-clause-few
returns-in-Some-clause-few c =
    let items : c.as_slice.result.now ≡ c.self.inside.lists.items = c.as_slice.ensures.value in
    let found : known_of c.args.net c.self.inside.lists.items ≡ Some c.in-Some.known.now = rw (← items) (sym c.list_of.ensures
    ∙ ap option_copied c.in-Some.is) in
    rw c.names.ensures (found_few c.args.net c.self.inside.lists.items c.in-Some.known.now c.self.invariant.map.each found)
