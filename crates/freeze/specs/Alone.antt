-- The image of one router of a plan, without the other stations.
use Rattle.std.specs.Prelude.{◌||◌, List, [], ◌∷◌, length, map, if◌then◌else◌}
use Rattle.std.specs.List.{list_any}
use Rattle.freeze.specs.Freezing.{frozen_router}
use Rattle.freeze.specs.Frozen.{cables_by, frozen_of, is_long}
use Rattle.internet_file.specs.Files.{Planned}
use Rattle.internet_file.specs.declared.router.Router.{Router}
use Rattle.router.specs.Holding.{Holding}
use Rattle.table_image.specs.Internet.{Internet, internet}
use Rattle.table_image.specs.declared.version.Version.{Version}
use Rattle.table_image.specs.declared.version.Version.TheVariants.{V1, V2}
use Rattle.zip_zones.specs.Zones.{most_names}

-- the version of the image: version 2 where a cable, or a zone list of the router, has more names than version 1 allows
abbrev pub version_for : Planned → Holding → Version
version_for plan h = if list_any (λ c. is_long (length c.zones)) plan.cables || is_long (most_names h.zones) then V2 else V1

-- the image of a plan's cables and of a router of it, with what it holds, and nothing else
abbrev pub alone : Planned → Router → Holding → Internet
alone plan r h =
    internet (version_for plan h) (map frozen_of plan.cables) (frozen_router (version_for plan h) (cables_by r) h [] ∷ []) []
