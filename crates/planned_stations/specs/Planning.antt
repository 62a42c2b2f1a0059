-- The stations of a plan: their ports, and the seats that these need.
use Rattle.std.specs.Prelude.{◌≡◌, ℕ, ◌<◌, Bool, ◌&&◌, List, ◌++◌, Contains, length, map, nat_le, slice_get, Some}
use Rattle.std.specs.List.{list_all}
use Rattle.cable_model.specs.Outcomes.{AreSeatsOf}
use Rattle.cable_model.specs.declared.seat.Seat.{Seat}
use Rattle.station.specs.Members.{either}
use Rattle.station.specs.declared.member.Member.{Member}
use Rattle.internet_file.specs.Files.{Planned}
use Rattle.internet_file.specs.declared.node.Node.{Node}
use Rattle.internet_file.specs.declared.port.Port.{Port}
use Rattle.internet_file.specs.declared.router.Router.{Router}
use Rattle.live_node.specs.Living.{LivingNode}
use Rattle.live_router.specs.Living.{Living}
use Rattle.at_base.specs.Limits.{max_cables, max_ports}

-- The number of the port's cable is at most 200.
abbrev pub is_low_port : Port → Bool
is_low_port p = nat_le p.cable max_cables

-- The router has at most 16 ports, whose cable numbers are at most 200.
abbrev pub is_low_router : Router → Bool
is_low_router r = nat_le (length r.port) max_ports && list_all is_low_port r.port

-- The number of the node's cable is at most 200.
abbrev pub is_low_node : Node → Bool
is_low_node n = nat_le n.cable max_cables

-- The number of ports of each station of a plan: of the routers, then of the nodes.
abbrev pub planned_ports : Planned → List ℕ
planned_ports p = map (λ r. length r.port) p.routers ++ map (λ n. 1) p.nodes

-- The seats are those of stations that have these numbers of ports.
pub record AreSeated (seats : List Seat) (ports : List ℕ) : Type 0 where
  pub each : (k n : ℕ) → slice_get ports k ≡ Some n → AreSeatsOf seats k n
  pub within : (s : Seat) → Contains seats s → s.station < length ports

-- The number of a station's ports.
abbrev pub ports_of : Member Living LivingNode → ℕ
ports_of m = either (λ l. length l.router.ports) (λ n. 1) m
