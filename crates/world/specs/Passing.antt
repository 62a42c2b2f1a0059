-- The stations of a world advance by a tick, one after the other.
use Rattle.std.specs.Prelude.{◌≡◌, ℕ, zero, suc, ◌+◌, fold, List, Some, slice_get, slice_set}
use Rattle.station.specs.Members.{EitherTicks}
use Rattle.station.specs.declared.member.Member.{Member}
use Rattle.aarp.specs.Mapping.{given_up as given_up_of}
use Rattle.live_cables.specs.Finding.{held_at}
use Rattle.live_cables.specs.Living.{GivesOut, PassesFor, Wires}
use Rattle.live_node.specs.Living.{LivingNode}
use Rattle.live_node.specs.Ticking.{LiveTicks as NodeTicks}
use Rattle.live_router.specs.Living.{Living}
use Rattle.live_router.specs.Ticking.{LiveTicks as RouterTicks}
use Rattle.planned_stations.specs.Planning.{ports_of}
use Rattle.station.specs.declared.output.Output.{Output}
use Rattle.world.specs.Doing.{given_up, settled_own}

-- The station with this number and this first seat advanced by a tick, its settled addresses were set, and its outputs
-- were sent.
pub record HasTicked (number seat : ℕ) (m now : Member Living LivingNode) (old new : Wires) : Type 0 where
  pub outputs : List Output
  pub ticks : EitherTicks RouterTicks NodeTicks m outputs now
  pub gives : GivesOut number outputs (record old { own = settled_own now seat (ports_of now) old.own }) new

-- The mappings of a station's seat advanced by a tick, and a router poisoned the rows through the addresses that AARP
-- gave up on.
pub record IsAged (seat : ℕ) (m now : Member Living LivingNode) (old new : Wires) : Type 0 where
  pub passes : PassesFor seat old new
  pub told : now ≡ fold given_up m (given_up_of (held_at old.maps seat))

-- The mappings of `ports` seats of a station, from index `seat` on, advanced by a tick, in order.
abbrev pub AreAged : ℕ → ℕ → Member Living LivingNode → Member Living LivingNode → Wires → Wires → Type 0
AreAged seat zero m now old new = (now ≡ m) × (new ≡ old)
AreAged seat (suc ports) m now old new =
    (before : Member Living LivingNode) × (mid : Wires) × AreAged seat ports m before old mid × IsAged (seat + ports) before now mid new

-- A station advanced by a tick, and then the mappings of each of its ports did.
abbrev pub HasPassed : ℕ → ℕ → Member Living LivingNode → Member Living LivingNode → Wires → Wires → Type 0
HasPassed number seat m now old new =
    (ticked : Member Living LivingNode) × (mid : Wires) × HasTicked number seat m ticked old mid
    × AreAged seat (ports_of ticked) ticked now mid new

-- The first stations, `number` of them, advanced by a tick, in order; the first seat of the next station is the one
-- after theirs.
abbrev pub HavePassed : ℕ → ℕ → List (Member Living LivingNode) → List (Member Living LivingNode) → Wires → Wires → Type 0
HavePassed zero seat stations now old new = (seat ≡ 0) × (now ≡ stations) × (new ≡ old)
HavePassed (suc number) next stations now old new =
    (seat : ℕ) × (before : List (Member Living LivingNode)) × (mid : Wires) × HavePassed number seat stations before old mid
    × (m : Member Living LivingNode) × (after : Member Living LivingNode) × (slice_get before number ≡ Some m)
    × HasPassed number seat m after mid new × (now ≡ slice_set before number after) × (next ≡ seat + ports_of after)
