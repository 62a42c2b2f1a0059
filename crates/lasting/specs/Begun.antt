-- Worlds from their beginning on.
use Rattle.std.specs.Prelude.{◌≡◌, ◌+◌, List, [], ◌∷◌}
use Rattle.lasting.specs.Resting.{last_of}
use Rattle.planned_stations.specs.Beginning.{AreBegun}
use Rattle.world.specs.Ticking.{IsTick}
use Rattle.world.specs.Worlds.{Worldly, wires_begun}

-- The world is one before its first tick: its stations and its cables are those of its plan.
pub record IsBegun (w : Worldly) : Type 0 where
  pub now : w.now ≡ 0
  pub stations : AreBegun w.plan w.stations
  pub wires : w.wires ≡ wires_begun w.plan

-- The world is the other one after a tick of its plan.
pub record IsNextTick (old new : Worldly) : Type 0 where
  pub plan : new.plan ≡ old.plan
  pub now : new.now ≡ old.now + 1
  pub tick : IsTick old new

-- each of these worlds is the one before it after a tick
abbrev pub AreNextTicks : Worldly → List Worldly → Type 0
AreNextTicks w [] = Unit {0}
AreNextTicks w (v ∷ vs) = IsNextTick w v × AreNextTicks v vs

-- The world has come from its beginning by ticks.
pub record HasRun (w : Worldly) : Type 0 where
  pub first : Worldly
  pub ticks : List Worldly
  pub begun : IsBegun first
  pub passed : AreNextTicks first ticks
  pub last : w ≡ last_of first ticks
