-- Stations of a plan that have settled.
use Rattle.std.specs.Prelude.{◌≡◌, ◌≤◌, ℕ, Bool, false, true, not, ◌&&◌, List, Some, length, map, nat_lt, slice_get, ◌+◌}
use Rattle.std.specs.List.{list_all}
use Rattle.aarp.specs.Choosing.{Choice}
use Rattle.internet_file.specs.Files.{Planned}
use Rattle.internet_file.specs.Stations.{cable_at}
use Rattle.internet_file.specs.declared.cable.Cable.{Cable}
use Rattle.internet_file.specs.declared.router.Router.{Router}
use Rattle.live_node.specs.Living.{LivingNode}
use Rattle.live_router.specs.Living.{Living}
use Rattle.planned_stations.specs.Beginning.{range_of}
use Rattle.rtmp.specs.Routes.{IsRouteMap}
use Rattle.settled.specs.Exchange.{AreGood}
use Rattle.station.specs.declared.member.Member.{Member}
use Rattle.station.specs.declared.member.Member.TheVariants as member

-- each port has settled on its address
abbrev pub AreSettled : List Choice → Type 0
AreSettled ports = list_all (λ c. c.is_settled) ports ≡ true

-- The router is in this phase, its ports have settled on the cables of the planned router, its rows are a routing table,
-- and all that aren't direct are Good.
pub record IsStandingRouter (cables : List Cable) (now : ℕ) (planned : Router) (l : Living) : Type 0 where
  pub phase : l.phase ≡ now
  pub settled : AreSettled l.router.ports
  pub ranges : map (λ c. c.range) l.router.ports ≡ map (λ p. range_of (cable_at cables p.cable)) planned.port
  pub table : IsRouteMap l.router.routes
  pub good : AreGood l.router.routes

-- the node still asks about its cable: no request was answered, and it has sent fewer than three
abbrev pub asks_on : LivingNode → Bool
asks_on l = not l.answered && nat_lt l.asked 3

-- The node has its address, and asks no more about its cable.
pub record IsQuietNode (l : LivingNode) : Type 0 where
  pub settled : l.node.port.is_settled ≡ true
  pub done : asks_on l ≡ false

-- The station is a router, and stands as this one of the plan in this phase.
abbrev pub IsStandingAsRouter : List Cable → ℕ → Router → Member Living LivingNode → Type 0
IsStandingAsRouter cables phase planned (member.Router l) = IsStandingRouter cables phase planned l
IsStandingAsRouter cables phase planned (member.Node n) = ⊥

-- The station is a node, and is quiet.
abbrev pub IsStandingAsNode : Member Living LivingNode → Type 0
IsStandingAsNode (member.Router l) = ⊥
IsStandingAsNode (member.Node n) = IsQuietNode n

-- The stations are first the routers of the plan, which are all in one phase, and then its nodes; all have settled.
pub record AreStanding (plan : Planned) (phase : ℕ) (stations : List (Member Living LivingNode)) : Type 0 where
  pub whole : length plan.routers ≤ length stations
  pub routers : (k : ℕ) (r : Router) (m : Member Living LivingNode) → slice_get plan.routers k ≡ Some r → slice_get stations k ≡ Some m
      → IsStandingAsRouter plan.cables phase r m
  pub nodes : (k : ℕ) (m : Member Living LivingNode) → length plan.routers ≤ k → slice_get stations k ≡ Some m → IsStandingAsNode m
  pub as_many : length stations ≡ length plan.routers + length plan.nodes

-- each node has settled on its address
abbrev pub HaveAddresses : List (Member Living LivingNode) → Type 0
HaveAddresses stations = (k : ℕ) (n : LivingNode) → slice_get stations k ≡ Some (member.Node n) → n.node.port.is_settled ≡ true

-- no node asks about its cable any more
abbrev pub AskNoMore : List (Member Living LivingNode) → Type 0
AskNoMore stations = (k : ℕ) (n : LivingNode) → slice_get stations k ≡ Some (member.Node n) → asks_on n ≡ false
