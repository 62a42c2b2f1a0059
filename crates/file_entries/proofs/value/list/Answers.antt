use Rattle.std.proofs.Common.{ap, map, Some}
use Rattle.toml.specs.View.{view}
use Rattle.file_entries.proofs.Lists.{values_of_items}
use Rattle.file_entries.proofs.value.list.Goals as goal

pub returns-in-Some-clause-ok : goal.returns-in-Some-clause-ok
returns-in-Some-clause-ok c =
    rw (← c.in-Some.ensures, c.as_slice.ensures.value) (ap Some (values_of_items (map view c.in-Some.values.now.items)))
