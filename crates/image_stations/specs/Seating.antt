-- The seats of an internet's stations on its cables, station by station.
use Rattle.std.specs.Prelude.{ℕ, suc, ◌==◌, List, [], ◌∷◌, ◌++◌, map, length, position, Some, None}
use Rattle.std.specs.Option.{unwrap_or}
use Rattle.cable_model.specs.declared.seat.Seat.{Seat}
use Rattle.at_base.specs.Multicast.{group_of}
use Rattle.table_image.specs.Internet.{Internet}
use Rattle.table_image.specs.declared.node.Node.{Node}
use Rattle.table_image.specs.declared.port.Port.{Port}
use Rattle.table_image.specs.declared.router.Router.{Router}

-- The seat of a port of router r; the port is one of `ports`.
abbrev pub router_seat : ℕ → List Port → Port → Seat
router_seat r ports port = record {
  cable = port.cable;
  station = r;
  port = unwrap_or (position (λ p. p.cable == port.cable) ports) 0;
  hw = port.hardware;
  group = None;
}

-- The seats of routers that are numbered from r on.
abbrev pub seats_from : ℕ → List Router → List Seat
seats_from r [] = []
seats_from r (router ∷ routers) = map (router_seat r router.ports) router.ports ++ seats_from (suc r) routers

-- The seat of a node whose station is number s.
abbrev pub node_seat : ℕ → Node → Seat
node_seat s node =
    record { cable = node.cable; station = s; port = 0; hw = node.hardware; group = Some (group_of node.zone) }

-- The seats of nodes whose stations are numbered from s on.
abbrev pub node_seats_from : ℕ → List Node → List Seat
node_seats_from s [] = []
node_seats_from s (node ∷ nodes) = node_seat s node ∷ node_seats_from (suc s) nodes

-- The seats of an internet: of its routers, then of its nodes.
abbrev pub seats_on : Internet → List Seat
seats_on i = seats_from 0 i.routers ++ node_seats_from (length i.routers) i.nodes
