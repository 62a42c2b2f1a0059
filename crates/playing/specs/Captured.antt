-- The capture of a play.
use Rattle.std.specs.Prelude.{ℕ, List, map}
use Rattle.captures.specs.Packets.{play_capture}
use Rattle.captures.specs.declared.head.Extent.{Extent}
use Rattle.internet_file.specs.declared.cable.Cable.{Cable}
use Rattle.live_cables.specs.Living.{happened}
use Rattle.planned_stations.specs.Seating.{plan_seats}
use Rattle.world.specs.Worlds.{Worldly}

-- The range of a cable.
abbrev pub extent_of : Cable → Extent
extent_of c = record { start = c.range.start; end = c.range.end }

-- The capture of a world whose ticks added so many entries.
abbrev pub world_capture : Worldly → List ℕ → List ℕ
world_capture w ns = play_capture (map extent_of w.plan.cables) (plan_seats w.plan) ns (happened w.wires)
