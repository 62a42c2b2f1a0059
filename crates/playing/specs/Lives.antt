-- The history of a world: it starts as its plan says, and its ticks follow one after the other.
use Rattle.std.specs.Prelude.{◌≡◌, ℕ, ◌+◌, ◌-◌, ◌<◌, true, List, [], ◌∷◌, ◌++◌, Option, Some, None, length}
use Rattle.at_base.specs.declared.error.Error.TheVariants.{Full}
use Rattle.internet_file.specs.Files.{Planned}
use Rattle.live_cables.specs.Steps.{HasNoRoom, most_taken}
use Rattle.planned_stations.specs.Beginning.{AreBegun}
use Rattle.table_image.specs.declared.version.Version.{Version}
use Rattle.table_image.specs.declared.version.Version.TheVariants.{V1}
use Rattle.world.specs.Frozen.{needs_version_2}
use Rattle.world.specs.Scheduling.{IsSchedule}
use Rattle.world.specs.Stopping.{IsStopped}
use Rattle.world.specs.Ticking.{IsTick}
use Rattle.world.specs.Worlds.{Ticks, TicksOn, Worldly, max_entries, wires_begun}

-- The world started as its plan says, and each of its ticks finished.
pub data Lives : Worldly → Type 0 where
  -- The stations and cables are those of the plan, its actions are scheduled, and nothing has happened.
  Begun : (w : Worldly) → AreBegun w.plan w.stations → IsSchedule w.plan.actions w.schedule → w.now ≡ 0 → w.refused ≡ []
      → w.wires ≡ wires_begun w.plan → Lives w
  -- A tick finished with the effect of a tick.
  Passed : (old new : Worldly) → Lives old → new.plan ≡ old.plan → new.now ≡ old.now + 1
      → TicksOn old.plan new.now old.wires new.wires → IsTick old new → Lives new

-- How many entries each tick of a world's history added to the transcript.
abbrev pub counts : (w : Worldly) → Lives w → List ℕ
counts w (Begun v begun scheduled early none wires) = []
counts w (Passed old new lived plan now ticks does) =
    counts old lived ++ (length new.wires.cabling.lines - length old.wires.cabling.lines) ∷ []

-- The world has a history, whose ticks added so many entries.
abbrev pub HasLived : Worldly → List ℕ → Type 0
HasLived w ns = (lived : Lives w) × (ns ≡ counts w lived)

-- A plan for whose play the transcript has no room: the ticks before one of its ticks finished, and that tick was stopped
-- by Full, with the steps before the one that has no room done. Fewer than 1,285 of the 4,000,000 entries are free then, as
-- many as one take may need.
pub record Fills (plan : Planned) : Type 0 where
  pub before : Worldly
  pub of : before.plan ≡ plan
  pub lived : Lives before
  pub early : before.now < plan.ticks
  pub after : Worldly
  pub next : after.now ≡ before.now + 1
  pub stops : IsStopped Full before after
  pub ticks : Ticks plan after.now before.wires after.wires
  pub limit : after.wires.cabling.limit ≡ max_entries
  pub full : HasNoRoom most_taken after.wires.cabling

-- A plan whose play ends with tables that an image of version 1 can't hold, though that version was asked for.
pub record Outgrows (version : Option Version) (plan : Planned) : Type 0 where
  pub asked : version ≡ Some V1
  pub world : Worldly
  pub of : world.plan ≡ plan
  pub lived : Lives world
  pub whole : world.now ≡ plan.ticks
  pub going : world.stopped ≡ None
  pub needs : needs_version_2 world ≡ true
