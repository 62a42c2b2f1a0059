-- What the versions of the image's format differ in.
use Rattle.std.specs.Prelude.{ℕ, ◌==◌, if◌then◌else◌}
use Rattle.at_base.specs.Limits.{max_zones, max_mappings}
use Rattle.table_image.specs.Limits.{max_zones_of_v1}
use Rattle.table_image.specs.declared.version.Version.{Version}
use Rattle.table_image.specs.declared.version.Version.TheVariants.{V1, V2}

-- the number of a version
abbrev pub version_number : Version → ℕ
version_number V1 = 1
version_number V2 = 2

-- the version with a number
abbrev pub version_of : ℕ → Version
version_of n = if n == 2 then V2 else V1

-- the greatest number of zones of a cable or of a zone list
abbrev pub zone_limit : Version → ℕ
zone_limit V1 = max_zones_of_v1
zone_limit V2 = max_zones

-- the greatest number of mappings of a port or a node
abbrev pub mapping_limit : Version → ℕ
mapping_limit V1 = 0
mapping_limit V2 = max_mappings
