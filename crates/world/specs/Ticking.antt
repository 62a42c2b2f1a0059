-- The effect of a tick.
use Rattle.std.specs.Prelude.{◌≡◌, ℕ, List, Bool, length}
use Rattle.station.specs.declared.member.Member.{Member}
use Rattle.internet_file.specs.Files.{Planned}
use Rattle.live_cables.specs.Living.{Wires}
use Rattle.live_node.specs.Living.{LivingNode}
use Rattle.live_router.specs.Living.{Living}
use Rattle.live_cables.specs.Steps.{loses_by}
use Rattle.world.specs.Acting.{AreDone}
use Rattle.world.specs.Losing.{loses_at}
use Rattle.world.specs.Passing.{HavePassed}
use Rattle.world.specs.Taking.{AreTaken}
use Rattle.world.specs.Worlds.{Worldly}

-- Each station advanced by a tick, in order, and then the actions of this tick were carried out.
pub record Begins (plan : Planned) (tick : ℕ) (stations now : List (Member Living LivingNode)) (old new : Wires)
    (refused refused_now : List (ℕ × ℕ)) (schedule left : List ℕ) : Type 0 where
  pub seats : ℕ
  pub wires : Wires
  pub passes : HavePassed (length stations) seats stations now old wires
  pub actions : ℕ
  pub does : AreDone plan now tick actions schedule left (wires, refused) (new, refused_now)

-- Each station advanced by a tick, the actions of this tick were carried out, and then frames were taken.
pub record Plays (plan : Planned) (tick : ℕ) (stations now : List (Member Living LivingNode)) (old new : Wires)
    (refused refused_now : List (ℕ × ℕ)) (schedule left : List ℕ) : Type 0 where
  pub passed : List (Member Living LivingNode)
  pub acted : Wires
  pub begins : Begins plan tick stations passed old acted refused refused_now schedule left
  pub takings : ℕ
  pub takes : AreTaken takings passed now acted new

-- A tick changed the world in this way, with the losses that the plan has for it.
pub record IsTick (old new : Worldly) : Type 0 where
  pub losing : List Bool
  pub loses : (cable : ℕ) → loses_by losing cable ≡ loses_at old.plan new.now cable
  pub plays : Plays old.plan new.now old.stations new.stations (record old.wires { losing = losing }) new.wires
      old.refused new.refused old.schedule new.schedule
