-- What a tick that was refused leaves: the steps before the refused one are done, and of the refused one only what is
-- stated here.
use Rattle.std.specs.Prelude.{◌≡◌, ◌≢◌, ◌⊎◌, ◌↔◌, ℕ, IsTrue, zero, suc, ◌+◌, ◌<◌, ◌≤◌, List, [], ◌∷◌, ◌++◌, Bool, Ok, Some, length, slice_get}
use Rattle.std.specs.List.{list_any}
use Rattle.at_base.specs.declared.error.Error.{Error}
use Rattle.at_base.specs.declared.error.Error.TheVariants.{Full, Memory}
use Rattle.cable_model.specs.Logs.{pending_on}
use Rattle.internet_file.specs.Files.{Planned}
use Rattle.internet_file.specs.declared.action.Action.{Action}
use Rattle.internet_file.specs.declared.action.Do.{Do}
use Rattle.live_cables.specs.Living.{GivesInPart, IsLossRefused, PassesInPart, Wires}
use Rattle.live_cables.specs.Steps.{HasNoRoom, loses_by, most_taken}
use Rattle.live_node.specs.Living.{LivingNode}
use Rattle.live_node.specs.Ticking.{LiveTicks as NodeTicks}
use Rattle.live_router.specs.Living.{Living}
use Rattle.live_router.specs.Ticking.{LiveTicks as RouterTicks}
use Rattle.planned_stations.specs.Planning.{ports_of}
use Rattle.station.specs.Members.{EitherTicks}
use Rattle.station.specs.declared.member.Member.{Member}
use Rattle.station.specs.declared.output.Output.{Output}
use Rattle.world.specs.Acting.{tick_of}
use Rattle.world.specs.Doing.{IsDone, acted_by, settled_own, station_for}
use Rattle.world.specs.Losing.{is_on, loses_at}
use Rattle.world.specs.Passing.{AreAged, HasTicked, HavePassed}
use Rattle.world.specs.Taking.{AreTaken, IsOne, IsTaken}
use Rattle.world.specs.Ticking.{Begins}
use Rattle.world.specs.Worlds.{Worldly, max_takes}

-- ---- The stations advance

-- The station with this number and this first seat advanced by a tick, its settled addresses were set, and not all of its
-- outputs were sent, or not all frames were lost that are to be.
pub record HasAdvanced (e : Error) (number seat : ℕ) (m now : Member Living LivingNode) (old new : Wires) : Type 0 where
  pub outputs : List Output
  pub left : List Output
  pub ticks : EitherTicks RouterTicks NodeTicks m outputs now
  pub gives : GivesInPart e number outputs left (record old { own = settled_own now seat (ports_of now) old.own }) new

-- The station with this number and this first seat advanced by a tick, or nothing happened and memory ran out.
abbrev pub MayTick : Error → ℕ → ℕ → Member Living LivingNode → Member Living LivingNode → Wires → Wires → Type 0
MayTick e number seat m now old new =
    ((e ≡ Memory) × (now ≡ m) × (new ≡ old)) ⊎ HasAdvanced e number seat m now old new

-- The mappings of the first of `ports` seats of a station, from index `seat` on, advanced by a tick, and those of the
-- next one were stopped: by Full where there is no room for another entry, and only there.
pub record StopsAt (e : Error) (seat ports : ℕ) (m now : Member Living LivingNode) (old new : Wires) : Type 0 where
  pub aged : ℕ
  pub some : aged < ports
  pub last : Wires
  pub ages : AreAged seat aged m now old last
  pub passes : PassesInPart (seat + aged) last new
  pub full : (e ≡ Full) ↔ HasNoRoom 1 new.cabling

-- The station with this number and this first seat advanced by a tick, and so did the mappings of its first ports, but
-- not those of all.
pub record StopsAging (e : Error) (number seat : ℕ) (m now : Member Living LivingNode) (old new : Wires) : Type 0 where
  pub ticked : Member Living LivingNode
  pub mid : Wires
  pub ticks : HasTicked number seat m ticked old mid
  pub stops : StopsAt e seat (ports_of ticked) ticked now mid new

-- The station with this number and this first seat was stopped in its tick: as it advanced, or after that, as the
-- mappings of its ports did.
abbrev pub StopsPassing : Error → ℕ → ℕ → Member Living LivingNode → Member Living LivingNode → Wires → Wires → Type 0
StopsPassing e number seat m now old new = MayTick e number seat m now old new ⊎ StopsAging e number seat m now old new

-- The first stations advanced by a tick, and the next one was stopped in its tick.
pub record ArePassing (e : Error) (stations now : List (Member Living LivingNode)) (old new : Wires) : Type 0 where
  pub number : ℕ
  pub seat : ℕ
  pub before : List (Member Living LivingNode)
  pub mid : Wires
  pub passes : HavePassed number seat stations before old mid
  pub stops : IsOne number before now (λ m after. StopsPassing e number seat m after mid new)

-- ---- The actions are carried out

-- An operation of a station was stopped: nothing changed and memory ran out, or not all of its outputs were sent, or not all
-- frames were lost that are to be.
abbrev pub StopsDoing : Error → Member Living LivingNode → ℕ → Do → Wires → Wires → Type 0
StopsDoing e m station action old new =
    ((e ≡ Memory) × (new ≡ old))
    ⊎ ((outputs left : List Output) × (acted_by m action ≡ Ok outputs) × GivesInPart e station outputs left old new)

-- The action with this index was stopped.
pub record StopsAction (e : Error) (plan : Planned) (stations : List (Member Living LivingNode)) (index : ℕ) (old new : Wires) : Type 0 where
  pub action : Action
  pub m : Member Living LivingNode
  pub planned : slice_get plan.actions index ≡ Some action
  pub there : slice_get stations (station_for plan action) ≡ Some m
  pub stops : StopsDoing e m (station_for plan action) action.action old new

-- n actions at the end of the schedule, all of this tick, were carried out, the last one first.
abbrev pub AreFirstDone : Planned → List (Member Living LivingNode) → ℕ → ℕ → List ℕ → List ℕ → Wires × List (ℕ × ℕ)
    → Wires × List (ℕ × ℕ) → Type 0
AreFirstDone plan stations now zero schedule left old new = (left ≡ schedule) × (new ≡ old)
AreFirstDone plan stations now (suc n) schedule left old new =
    (rest : List ℕ) × (index : ℕ) × (mid : Wires × List (ℕ × ℕ)) × (schedule ≡ rest ++ index ∷ [])
    × (tick_of plan.actions index ≡ Some now) × IsDone plan stations index old mid
    × AreFirstDone plan stations now n rest left mid new

-- Actions of this tick were carried out, and the next one was stopped: it isn't in the schedule any more, and no error of
-- it is recorded.
pub record AreActing (e : Error) (plan : Planned) (stations : List (Member Living LivingNode)) (now : ℕ) (schedule left : List ℕ)
    (old new : Wires × List (ℕ × ℕ)) : Type 0 where
  pub done : ℕ
  pub between : List ℕ
  pub mid : Wires × List (ℕ × ℕ)
  pub does : AreFirstDone plan stations now done schedule between old mid
  pub index : ℕ
  pub next : between ≡ left ++ index ∷ []
  pub due : tick_of plan.actions index ≡ Some now
  pub stops : StopsAction e plan stations index mid.0 new.0
  pub same : new.1 ≡ mid.1

-- ---- Frames are taken

-- A frame was pending, none was taken and nothing changed, and the error is Full where there is no room to take it, and only
-- there; or the next frame was taken, and not all frames were lost that are to be, and the error is Full where there is no
-- room for another loss, and only there.
abbrev pub MayTake : Error → List (Member Living LivingNode) → List (Member Living LivingNode) → Wires → Wires → Type 0
MayTake e stations now old new =
    ((now ≡ stations) × (new ≡ old) × (pending_on old.cabling ≢ []) × ((e ≡ Full) ↔ HasNoRoom most_taken old.cabling))
    ⊎ (IsTaken stations now old new × IsLossRefused e old new)

-- Frames were taken, fewer than `most`, and the taking of the next one was refused.
pub record AreTaking (e : Error) (most : ℕ) (stations now : List (Member Living LivingNode)) (old new : Wires) : Type 0 where
  pub takings : ℕ
  pub few : takings < most
  pub before : List (Member Living LivingNode)
  pub mid : Wires
  pub takes : AreTaken takings stations before old mid
  pub stops : MayTake e before now mid new

-- ---- The tick

-- All stations advanced by a tick, and the tick was stopped in one of its actions.
pub record HaveAllPassed (e : Error) (plan : Planned) (tick : ℕ) (stations now : List (Member Living LivingNode)) (old new : Wires)
    (refused refused_now : List (ℕ × ℕ)) (schedule left : List ℕ) : Type 0 where
  pub seats : ℕ
  pub wires : Wires
  pub passes : HavePassed (length stations) seats stations now old wires
  pub acting : AreActing e plan now tick schedule left (wires, refused) (new, refused_now)

-- A tick was stopped as the stations advanced, before any of its actions, or as its actions were carried out.
abbrev pub StopsBefore : Error → Planned → ℕ → List (Member Living LivingNode) → List (Member Living LivingNode) → Wires → Wires
    → List (ℕ × ℕ) → List (ℕ × ℕ) → List ℕ → List ℕ → Type 0
StopsBefore e plan tick stations now old new refused refused_now schedule left =
    (ArePassing e stations now old new × (refused_now ≡ refused) × (left ≡ schedule))
    ⊎ HaveAllPassed e plan tick stations now old new refused refused_now schedule left

-- The stations advanced by a tick and its actions were carried out, and it was stopped as frames were taken.
pub record StopsTaking (e : Error) (plan : Planned) (tick : ℕ) (stations now : List (Member Living LivingNode)) (old new : Wires)
    (refused refused_now : List (ℕ × ℕ)) (schedule left : List ℕ) : Type 0 where
  pub passed : List (Member Living LivingNode)
  pub acted : Wires
  pub begins : Begins plan tick stations passed old acted refused refused_now schedule left
  pub taking : AreTaking e max_takes passed now acted new

-- A tick was stopped in one of its three phases.
abbrev pub StopsIn : Error → Planned → ℕ → List (Member Living LivingNode) → List (Member Living LivingNode) → Wires → Wires
    → List (ℕ × ℕ) → List (ℕ × ℕ) → List ℕ → List ℕ → Type 0
StopsIn e plan tick stations now old new refused refused_now schedule left =
    StopsBefore e plan tick stations now old new refused refused_now schedule left
    ⊎ StopsTaking e plan tick stations now old new refused refused_now schedule left

-- A tick of the world was stopped in one of its phases, with the losses that the plan has for it.
pub record IsStopped (e : Error) (old new : Worldly) : Type 0 where
  pub losing : List Bool
  pub loses : (cable : ℕ) → loses_by losing cable ≡ loses_at old.plan new.now cable
  pub stops : StopsIn e old.plan new.now old.stations new.stations (record old.wires { losing = losing }) new.wires
      old.refused new.refused old.schedule new.schedule

-- The stations, the cables, the recorded errors and the schedule stay the same.
abbrev pub IsUntouched : Worldly → Worldly → Type 0
IsUntouched old new =
    (new.stations ≡ old.stations) × (new.wires ≡ old.wires) × (new.refused ≡ old.refused) × (new.schedule ≡ old.schedule)

-- A tick with losses was refused out of memory before the first of its phases, or a tick was stopped in one of them.
abbrev pub StopsTick : Error → Worldly → Worldly → Type 0
StopsTick e old new = ((e ≡ Memory) × IsTrue (list_any (is_on new.now) old.plan.losses) × IsUntouched old new) ⊎ IsStopped e old new

-- There was no tick, as an earlier one was refused by this error or the plan has no more ticks; or it has losses and was
-- refused out of memory before its phases; or it was stopped in one of them.
abbrev pub MayStop : Error → Worldly → Worldly → Type 0
MayStop e old new =
    (((old.stopped ≡ Some e) ⊎ (old.plan.ticks ≤ old.now)) × IsUntouched old new) ⊎ StopsTick e old new
