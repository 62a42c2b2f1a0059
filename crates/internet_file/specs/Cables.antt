-- The cables of an internet file.
use Rattle.std.specs.Prelude.{ℕ, List, [], ◌∷◌, Option, Some, codes}
use Rattle.toml.specs.Data.{Data}
use Rattle.text.specs.Words.{given}
use Rattle.file_entries.specs.Entries.{all, at, entry}
use Rattle.file_entries.specs.Values.{list_within, range, zone}
use Rattle.internet_file.specs.declared.cable.Cable.{Cable}
use Rattle.at_base.specs.Limits.{max_zones}

-- A list of 1 to 255 names of zones.
abbrev pub zones : Data → Option (List (List ℕ))
zones d = given (list_within 1 max_zones d) (all zone)

-- The cable in an entry.
abbrev pub cable_of : Data → Option Cable
cable_of d =
    given (entry (codes "range" ∷ codes "zones" ∷ []) d) (λ ms.
    given (at (codes "range") range ms) (λ networks. given (at (codes "zones") zones ms) (λ names.
    Some (record { range = networks; zones = names }))))
