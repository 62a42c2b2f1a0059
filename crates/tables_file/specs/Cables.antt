-- The cables of a tables file.
use Rattle.std.specs.Prelude.{ℕ, List, [], ◌∷◌, Option, Some, codes}
use Rattle.toml.specs.Data.{Data}
use Rattle.file_entries.specs.Entries.{all, at, entry}
use Rattle.file_entries.specs.Values.{list_within}
use Rattle.table_image.specs.Versions.{zone_limit}
use Rattle.table_image.specs.declared.cable.Cable.{Cable}
use Rattle.table_image.specs.declared.version.Version.{Version}
use Rattle.tables_file.specs.Values.{ends, zone}
use Rattle.text.specs.Words.{given}

-- A list of zone names, at most as many as the version allows.
abbrev pub zones : Version → Data → Option (List (List ℕ))
zones v d = given (list_within 0 (zone_limit v) d) (all zone)

-- The cable in an entry.
abbrev pub cable_of : Version → Data → Option Cable
cable_of v d =
    given (entry (codes "range" ∷ codes "zones" ∷ []) d) (λ ms.
    given (at (codes "range") ends ms) (λ range. given (at (codes "zones") (zones v) ms) (λ names.
    Some (record { start = range.0; end = range.1; zones = names }))))
