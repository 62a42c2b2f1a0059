-- Worlds at rest, whose tables are settled; and what a tick leaves of their images.
use Rattle.std.specs.List.{AllByRecursion as Each}
use Rattle.std.specs.Prelude.{◌≡◌, false, ◌<◌, ◌+◌, ℕ, List, [], ◌∷◌, Some, length, slice_get}
use Rattle.audit.specs.Rules.{Passes}
use Rattle.cable_model.specs.Books.{EndsBelow}
use Rattle.cable_model.specs.Holdings.{still_held}
use Rattle.cable_model.specs.Logs.{pending_on}
use Rattle.cable_model.specs.Transcript.{ArePutOnce, Entry, next_stamp}
use Rattle.internet_file.specs.Files.{Planned}
use Rattle.internet_file.specs.declared.action.Action.{Action}
use Rattle.lasting.specs.Plain.{IsOtherDo}
use Rattle.lasting.specs.Standing.{AreStanding}
use Rattle.live_cables.specs.Finding.{held_at}
use Rattle.live_cables.specs.Living.{happened}
use Rattle.settled.specs.Moved.{IsMovedTo}
use Rattle.settled.specs.Settling.{IsSettled}
use Rattle.table_image.specs.Bounds.{IsBounded}
use Rattle.table_image.specs.Internet.{Internet, internet}
use Rattle.table_image.specs.declared.node.Node.{Node}
use Rattle.table_image.specs.declared.router.Router.{Router}
use Rattle.table_image.specs.declared.row.Row.{Row}
use Rattle.table_image.specs.declared.version.Version.TheVariants.{V1}
use Rattle.world.specs.Frozen.{frozen_as}
use Rattle.world.specs.Losing.{loses_at}
use Rattle.world.specs.Ticking.{IsTick}
use Rattle.world.specs.Worlds.{IsWorld, Worldly}

-- The node has another router, or none, and all else of it stayed.
pub record IsSameNode (a b : Node) : Type 0 where
  pub cable : b.cable ≡ a.cable
  pub address : b.address ≡ a.address
  pub hardware : b.hardware ≡ a.hardware
  pub zone : b.zone ≡ a.zone
  pub names : b.names ≡ a.names
  pub mappings : b.mappings ≡ a.mappings

-- Each row of each router has its range and its distance as before (`IsMovedTo`); and each node has all but its router.
pub record KeepsDistances (before after : Internet) : Type 0 where
  pub routers : IsMovedTo before (internet after.version after.cables after.routers before.nodes)
  pub as_many : length before.nodes ≡ length after.nodes
  pub nodes : (k : ℕ) (a b : Node) → slice_get before.nodes k ≡ Some a → slice_get after.nodes k ≡ Some b → IsSameNode a b

-- No frame is under way, and no datagram waits for a hardware address.
pub record IsStill (w : Worldly) : Type 0 where
  pub pending : pending_on w.wires.cabling ≡ []
  pub held : still_held (happened w.wires) ≡ []
  pub idle : (seat : ℕ) → held_at w.wires.maps seat ≡ []

-- Nothing is under way, the stations have settled, the routers in this phase, and the image (of version 1) passes the audit
-- and is settled.
pub record IsAtRest (phase : ℕ) (w : Worldly) : Type 0 where
  pub world : IsWorld w
  pub still : IsStill w
  pub standing : AreStanding w.plan phase w.stations
  pub passes : Passes (frozen_as V1 w)
  pub settled : IsSettled (frozen_as V1 w)
  pub bounded : IsBounded (frozen_as V1 w)

-- no action of the tick sends a datagram of type 1 or 6
abbrev pub AreOther : Planned → ℕ → Type 0
AreOther plan tick = (index : ℕ) (a : Action) → slice_get plan.actions index ≡ Some a → a.at ≡ tick → IsOtherDo a.action

-- The image passes, is settled and within its limits, and has the ranges and distances of the one before.
pub record StaysSettled (old new : Worldly) : Type 0 where
  pub passes : Passes (frozen_as V1 new)
  pub settled : IsSettled (frozen_as V1 new)
  pub bounded : IsBounded (frozen_as V1 new)
  pub keeps : KeepsDistances (frozen_as V1 old) (frozen_as V1 new)

-- The rows are of the same range, as far away.
pub record IsAsFar (a b : Row) : Type 0 where
  pub start : b.start ≡ a.start
  pub end : b.end ≡ a.end
  pub distance : b.distance ≡ a.distance

-- The routers have the same ports and as many rows, each as far as the one at its place.
pub record HasSameRows (a b : Router) : Type 0 where
  pub ports : b.ports ≡ a.ports
  pub as_many : length b.rows ≡ length a.rows
  pub each : (k : ℕ) (x y : Row) → slice_get a.rows k ≡ Some x → slice_get b.rows k ≡ Some y → IsAsFar x y

-- The internets have the same cables, and their routers the same ranges and distances.
pub record HasSameDistances (before after : Internet) : Type 0 where
  pub cables : after.cables ≡ before.cables
  pub as_many : length after.routers ≡ length before.routers
  pub each : (k : ℕ) (a b : Router) → slice_get before.routers k ≡ Some a → slice_get after.routers k ≡ Some b → HasSameRows a b

-- The world passed a tick of its plan, which left nothing under way.
pub record IsTickOn (old new : Worldly) : Type 0 where
  pub plan : new.plan ≡ old.plan
  pub now : new.now ≡ old.now + 1
  pub tick : IsTick old new
  pub world : IsWorld new
  pub still : IsStill new

-- each of these worlds is the one before it after such a tick
abbrev pub AreTicks : Worldly → List Worldly → Type 0
AreTicks w [] = Unit {0}
AreTicks w (v ∷ vs) = IsTickOn w v × AreTicks v vs

-- the last of these worlds, or the first one if there is none
abbrev pub last_of : Worldly → List Worldly → Worldly
last_of w [] = w
last_of w (v ∷ vs) = last_of v vs

-- no action after this tick sends a datagram of type 1 or 6
abbrev pub AreOtherAfter : Planned → ℕ → Type 0
AreOtherAfter plan now = (index : ℕ) (a : Action) → slice_get plan.actions index ≡ Some a → now < a.at → IsOtherDo a.action

-- nothing was taken or lost with a number that the next frame may have
abbrev pub IsBelow : List Entry → Type 0
IsBelow t = Each (EndsBelow (next_stamp t)) t

-- Frames are numbered: no two have the same number, and nothing was taken or lost with a number that is still to come. Each
-- transcript of cables is so.
pub record IsNumbered (w : Worldly) : Type 0 where
  pub once : ArePutOnce (happened w.wires)
  pub below : IsBelow (happened w.wires)

-- no cable loses frames after this tick
abbrev pub LosesNothingAfter : Planned → ℕ → Type 0
LosesNothingAfter plan now = (tick cable : ℕ) → now < tick → loses_at plan tick cable ≡ false
