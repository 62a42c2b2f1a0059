-- The values of a list, in order, however it is stored.
use Rattle.std.specs.Prelude.{List}
use Rattle.std.specs.Arc.{arc_value}
use Rattle.table_image.specs.declared.listed.Kept.{Kept}
use Rattle.table_image.specs.declared.listed.Kept.TheVariants.{One, Many, Shared}

-- the values of a list that has one value in place, or several in its own or in shared memory
abbrev pub values : {T : Type 0} → Kept T → List T
values (One item) = item
values (Many items) = items.items
values (Shared items) = (arc_value items).items
