-- The image of a world's current tables.
use Rattle.std.specs.Prelude.{Bool, if◌then◌else◌}
use Rattle.freeze.specs.Frozen as freezing
use Rattle.table_image.specs.Internet.{Internet}
use Rattle.table_image.specs.declared.version.Version.{Version}
use Rattle.table_image.specs.declared.version.Version.TheVariants.{V1, V2}
use Rattle.world.specs.Worlds.{Worldly}

-- The image of the tables of all stations, in a version of the format.
abbrev pub frozen_as : Version → Worldly → Internet
frozen_as version w = freezing.frozen_in version w.plan w.stations w.wires.maps

-- A cable or a router's zone list has more names than one in an image of version 1.
abbrev pub needs_version_2 : Worldly → Bool
needs_version_2 w = freezing.needs_version_2 w.plan w.stations

-- The first version whose images can hold the tables.
abbrev pub least_version : Worldly → Version
least_version w = if needs_version_2 w then V2 else V1

-- The image of the tables of all stations, in the first version that can hold them.
abbrev pub frozen : Worldly → Internet
frozen w = frozen_as (least_version w) w
