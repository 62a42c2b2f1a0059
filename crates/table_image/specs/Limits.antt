-- The greatest values of an image's fields, as in src/limits.rt. The greatest numbers of its parts are in at_base's
-- Limits.
use Rattle.std.specs.Prelude.{ℕ}

-- the greatest length, in bytes, of a zone name, an object or a type
abbrev pub max_text : ℕ
max_text = 32

-- the greatest number of zones of a cable or of a zone list in an image of version 1
abbrev pub max_zones_of_v1 : ℕ
max_zones_of_v1 = 64

-- the greatest distance of a row, in routers
abbrev pub max_distance : ℕ
max_distance = 31
