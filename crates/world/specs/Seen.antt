-- Reads the nodes of a world.
use Rattle.std.specs.Prelude.{ℕ, ◌+◌, ◌-◌, ◌==◌, List, [], Option, Some, None, cond, length, slice_get}
use Rattle.end_node.specs.Holding.{NodeHolding}
use Rattle.end_node.specs.declared.node.Datagram.{Datagram as Received}
use Rattle.station.specs.declared.member.Member.{Member}
use Rattle.station.specs.declared.member.Member.TheVariants.{Router, Node}
use Rattle.live_node.specs.Living.{LivingNode}
use Rattle.live_router.specs.Living.{Living}
use Rattle.world.specs.Worlds.{Worldly}

-- The node, if there is a station and it is a node.
abbrev pub node_of : Option (Member Living LivingNode) → Option NodeHolding
node_of None = None
node_of (Some (Router l)) = None
node_of (Some (Node n)) = Some n.node

-- The station of the node with this number, from 1: nodes come after the routers.
abbrev pub station_of : Worldly → ℕ → ℕ
station_of w number = length w.plan.routers + (number - 1)

-- The node with this number, from 1; none for 0 or past the last node.
abbrev pub node_at : Worldly → ℕ → Option NodeHolding
node_at w number = cond (number == 0) None (node_of (slice_get w.stations (station_of w number)))

-- The last datagrams that a node has received; none if there is no node.
abbrev pub received_by : Option NodeHolding → List Received
received_by None = []
received_by (Some n) = n.received
