-- What can be seen of a world that has settled.
use Rattle.std.specs.Prelude.{◌≡◌, ◌<◌, ◌%◌, ℕ, false, List, [], ◌∷◌, Some, slice_get}
use Rattle.aarp.specs.Mapping.{is_asked_again}
use Rattle.aarp.specs.declared.held.Held.{Held}
use Rattle.at_base.specs.Address.{same_address}
use Rattle.at_base.specs.declared.address.Addr.{Addr}
use Rattle.audit.specs.Rules.{Passes}
use Rattle.cable_model.specs.Holdings.{still_held}
use Rattle.cable_model.specs.Logs.{pending_on}
use Rattle.cable_model.specs.Transcript.{Holding}
use Rattle.internet_file.specs.Files.{Planned}
use Rattle.lasting.specs.Begun.{IsNextTick}
use Rattle.lasting.specs.Plain.{IsPlain}
use Rattle.lasting.specs.Standing.{AreSettled, IsQuietNode}
use Rattle.live_cables.specs.Finding.{held_at}
use Rattle.live_cables.specs.Living.{happened}
use Rattle.live_node.specs.Living.{LivingNode}
use Rattle.live_router.specs.Living.{Living}
use Rattle.cable_model.specs.declared.seat.Seat.{Seat}
use Rattle.planned_stations.specs.Seating.{plan_seats}
use Rattle.rtmp.specs.Routes.{is_direct}
use Rattle.rtmp.specs.declared.row.Row.{Row}
use Rattle.settled.specs.Exchange.{AreGood}
use Rattle.settled.specs.Settling.{IsSettled}
use Rattle.station.specs.declared.member.Member.{Member}
use Rattle.station.specs.declared.member.Member.TheVariants as member
use Rattle.table_image.specs.Bounds.{IsBounded}
use Rattle.table_image.specs.declared.version.Version.{Version}
use Rattle.table_image.specs.declared.version.Version.TheVariants.{V1}
use Rattle.world.specs.Frozen.{frozen_as}
use Rattle.world.specs.Losing.{loses_at}
use Rattle.world.specs.Worlds.{Worldly}

-- A router has settled on the addresses of its ports, and all of its rows that aren't direct are Good; a node has settled on
-- its address, and asks no more about its cable.
abbrev pub HasSettled : Member Living LivingNode → Type 0
HasSettled (member.Router l) = AreSettled l.router.ports × AreGood l.router.routes
HasSettled (member.Node n) = IsQuietNode n

-- no row of the router of this seat, if it is a router's, leads to the address
abbrev pub IsNoNextRouter : List (Member Living LivingNode) → List Seat → ℕ → Addr → Type 0
IsNoNextRouter stations seats seat a =
    (s : Seat) (l : Living) (n : ℕ) (row : Row) → slice_get seats seat ≡ Some s → slice_get stations s.station ≡ Some (member.Router l)
    → slice_get l.router.routes n ≡ Some row → is_direct row ≡ false → same_address row.next a ≡ false

-- The next tick gives up no datagram, since its address was asked for often enough, that a router holds for one to which a row
-- of its own leads: it poisons no row.
abbrev pub PoisonsNoRow : Worldly → Type 0
PoisonsNoRow w =
    (seat k : ℕ) (h : Held) → slice_get (held_at w.wires.maps seat) k ≡ Some h → is_asked_again h ≡ false
    → IsNoNextRouter w.stations (plan_seats w.plan) seat h.next

-- No frame is under way; no datagram of type 1 or 6 is held, and the next tick poisons no row; the stations have settled; and
-- the image, of this version, is within an image's limits, passes the audit and is settled.
pub record IsSettledIn (version : Version) (w : Worldly) : Type 0 where
  pub pending : pending_on w.wires.cabling ≡ []
  pub plain : (k : ℕ) (h : Holding) → slice_get (still_held (happened w.wires)) k ≡ Some h → IsPlain h.bytes
  pub spared : PoisonsNoRow w
  pub stations : (k : ℕ) (m : Member Living LivingNode) → slice_get w.stations k ≡ Some m → HasSettled m
  pub passes : Passes (frozen_as version w)
  pub settled : IsSettled (frozen_as version w)
  pub bounded : IsBounded (frozen_as version w)

-- the world has settled, by its image of version 1
abbrev pub IsSettledWorld : Worldly → Type 0
IsSettledWorld = IsSettledIn V1

-- The world passed a tick, which left no frame under way, and after which the next one poisons no row.
pub record IsCleanTick (old new : Worldly) : Type 0 where
  pub next : IsNextTick old new
  pub pending : pending_on new.wires.cabling ≡ []
  pub spared : PoisonsNoRow new

-- each of these worlds is the one before it after such a tick
abbrev pub AreCleanTicks : Worldly → List Worldly → Type 0
AreCleanTicks w [] = Unit {0}
AreCleanTicks w (v ∷ vs) = IsCleanTick w v × AreCleanTicks v vs

-- The world passed a tick, which left no frame under way.
pub record IsEmptyTick (old new : Worldly) : Type 0 where
  pub next : IsNextTick old new
  pub pending : pending_on new.wires.cabling ≡ []

-- each of these worlds is the one before it after such a tick
abbrev pub AreEmptyTicks : Worldly → List Worldly → Type 0
AreEmptyTicks w [] = Unit {0}
AreEmptyTicks w (v ∷ vs) = IsEmptyTick w v × AreEmptyTicks v vs

-- no cable loses frames in a later tick in which rows age, which is each hundredth one
abbrev pub LosesNothingWhereRowsAge : Planned → ℕ → Type 0
LosesNothingWhereRowsAge plan now = (tick cable : ℕ) → now < tick → tick % 100 ≡ 0 → loses_at plan tick cable ≡ false
