-- Removing rows of a table.
use Rattle.std.specs.Prelude.{Bool, not, List, filter}
use Rattle.at_base.specs.Range.{overlaps}
use Rattle.rtmp.specs.declared.removal.Removal.{Removal}
use Rattle.rtmp.specs.declared.removal.Removal.TheVariants.{Over, Overlapping}
use Rattle.rtmp.specs.declared.row.Row.{Row}
use Rattle.rtmp.specs.Routes.{is_over}

-- the row is removed
abbrev pub is_removed : Removal → Row → Bool
is_removed Over r = is_over r
is_removed (Overlapping range) r = overlaps r.range range

-- the rows that are left
abbrev pub kept : Removal → List Row → List Row
kept removal rows = filter (λ r. not (is_removed removal r)) rows
