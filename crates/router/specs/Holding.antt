-- The state of a router. (Inside AppleTalk, the chapters on DDP, RTMP and ZIP)
use Rattle.std.specs.Prelude.{ℕ, ◌<◌, ◌≤◌, cond, IsTrue, List, Option, Some, None, length, nat_lt, slice_get, option_and_then}
use Rattle.std.specs.List.{list_all}
use Rattle.aarp.specs.Choosing.{Choice, settled}
use Rattle.at_base.specs.declared.address.Addr.{Addr}
use Rattle.atp.specs.declared.request.Request.{Request}
use Rattle.rtmp.specs.Routes.{is_direct, row_for}
use Rattle.rtmp.specs.declared.row.Row.{Row}
use Rattle.zip_zones.specs.Zones.{Known}
use Rattle.router.specs.declared.hand.Hand.{Hand}
use Rattle.router.specs.declared.hand.Hand.TheVariants.{Here, On, Nowhere}
use Rattle.at_base.specs.Limits.{max_ports}

-- The state of a router: the choice of the address of each port, its routing table, its zone table, and its
-- exactly-once requests for zone lists.
pub record Holding : Type 0 where
  pub ports : List Choice
  pub routes : List Row
  pub zones : List Known
  pub requests : List Request

-- There are at most 16 ports, and each row's port is one of them.
pub record IsHolding (h : Holding) : Type 0 where
  pub few : length h.ports ≤ max_ports
  pub seated : IsTrue (list_all (λ r. nat_lt r.port (length h.ports)) h.routes)

-- the address of a port, if it is settled
abbrev pub own_at : List Choice → ℕ → Option Addr
own_at ports q = option_and_then settled (slice_get ports q)

-- where datagrams are sent by this row
abbrev pub hand_by : Option Row → Hand
hand_by None = Nowhere
hand_by (Some row) = cond (is_direct row) (Here row.port) (On row.port row.next)

-- where the router sends datagrams for a network: by the usable row whose range holds it
abbrev pub hand : List Row → ℕ → Hand
hand rows net = hand_by (row_for net rows)

-- the port on which datagrams are sent, if there is one, is among the first n
abbrev pub IsHandIn : ℕ → Hand → Type 0
IsHandIn n Nowhere = Unit {0}
IsHandIn n (Here q) = q < n
IsHandIn n (On q a) = q < n
