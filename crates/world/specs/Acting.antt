-- The actions that are carried out in a tick.
use Rattle.std.specs.Prelude.{◌≡◌, ◌≢◌, ℕ, zero, suc, List, [], ◌∷◌, ◌++◌, Option, Some, option_map, slice_get}
use Rattle.station.specs.declared.member.Member.{Member}
use Rattle.internet_file.specs.Files.{Planned}
use Rattle.internet_file.specs.declared.action.Action.{Action}
use Rattle.live_cables.specs.Living.{Wires}
use Rattle.live_node.specs.Living.{LivingNode}
use Rattle.live_router.specs.Living.{Living}
use Rattle.world.specs.Doing.{IsDone}

-- The tick of the action at an index.
abbrev pub tick_of : List Action → ℕ → Option ℕ
tick_of actions index = option_map (λ a. a.at) (slice_get actions index)

-- The new list begins with the old one.
abbrev pub KeepsFirst : {X : Type 0} → List X → List X → Type 0
KeepsFirst {X} old new = (more : List X) × (new ≡ old ++ more)

-- The last action of the schedule, if there is one, isn't in this tick.
abbrev pub IsOver : List Action → ℕ → List ℕ → Type 0
IsOver actions now schedule = (rest : List ℕ) (index : ℕ) → schedule ≡ rest ++ index ∷ [] → tick_of actions index ≢ Some now

-- n actions at the end of the schedule, all of this tick, were carried out, the last one first, and the remaining
-- schedule doesn't end with an action of this tick.
abbrev pub AreDone : Planned → List (Member Living LivingNode) → ℕ → ℕ → List ℕ → List ℕ → Wires × List (ℕ × ℕ)
    → Wires × List (ℕ × ℕ) → Type 0
AreDone plan stations now zero schedule left old new = (left ≡ schedule) × (new ≡ old) × IsOver plan.actions now schedule
AreDone plan stations now (suc n) schedule left old new =
    (rest : List ℕ) × (index : ℕ) × (mid : Wires × List (ℕ × ℕ)) × (schedule ≡ rest ++ index ∷ [])
    × (tick_of plan.actions index ≡ Some now) × IsDone plan stations index old mid × AreDone plan stations now n rest left mid new
