-- The frames that the stations of a world take in a tick.
use Rattle.std.specs.Prelude.{◌≡◌, ℕ, zero, suc, List, Some, slice_get, slice_set}
use Rattle.cable_model.specs.Outcomes.{IsLeast}
use Rattle.station.specs.Members.{EitherHears}
use Rattle.station.specs.declared.member.Member.{Member}
use Rattle.live_cables.specs.Living.{TakesIn, Wires}
use Rattle.live_node.specs.Living.{LivingNode, LiveHears as NodeHears}
use Rattle.live_router.specs.Living.{Living, LiveHears as RouterHears}
use Rattle.planned_stations.specs.Planning.{ports_of}
use Rattle.cable_model.specs.Logs.{pending_on}

-- The station with this number became what `Does` says of it, and the others stayed.
pub record IsOne (station : ℕ) (stations now : List (Member Living LivingNode))
    (Does : Member Living LivingNode → Member Living LivingNode → Type 0) : Type 0 where
  pub m : Member Living LivingNode
  pub after : Member Living LivingNode
  pub there : slice_get stations station ≡ Some m
  pub does : Does m after
  pub set : now ≡ slice_set stations station after

-- A station took the frame with this stamp, heard it, and sent its outputs.
abbrev pub IsTaker : ℕ → ℕ → List (Member Living LivingNode) → List (Member Living LivingNode) → Wires → Wires → Type 0
IsTaker stamp station stations now old new =
    IsOne station stations now
    (λ m after. TakesIn stamp station (ports_of m) (λ heard added. EitherHears RouterHears NodeHears m heard added after) old new)

-- `Does` holds of the lowest pending stamp and of the lowest station for which its frame is pending.
pub record IsOfFirst (wires : Wires) (Does : ℕ → ℕ → Type 0) : Type 0 where
  pub stamp : ℕ
  pub station : ℕ
  pub least : IsLeast (pending_on wires.cabling) stamp station
  pub by : Does stamp station

-- The frame with the lowest pending stamp was taken by the lowest station for which it was pending.
abbrev pub IsTaken : List (Member Living LivingNode) → List (Member Living LivingNode) → Wires → Wires → Type 0
IsTaken stations now old new = IsOfFirst old (λ stamp station. IsTaker stamp station stations now old new)

-- n frames were taken, one after the other.
abbrev pub AreTaken : ℕ → List (Member Living LivingNode) → List (Member Living LivingNode) → Wires → Wires → Type 0
AreTaken zero stations now old new = (now ≡ stations) × (new ≡ old)
AreTaken (suc n) stations now old new =
    (before : List (Member Living LivingNode)) × (mid : Wires) × AreTaken n stations before old mid × IsTaken before now mid new
