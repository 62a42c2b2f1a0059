-- The seats of a plan's stations on its cables.
use Rattle.std.specs.Prelude.{ℕ, ◌+◌, ◌-◌, List, [], ◌∷◌, ◌++◌, Some, None, length}
use Rattle.cable_model.specs.declared.seat.Seat.{Seat}
use Rattle.internet_file.specs.Files.{Planned}
use Rattle.internet_file.specs.declared.node.Node.{Node}
use Rattle.internet_file.specs.declared.port.Port.{Port}
use Rattle.internet_file.specs.declared.router.Router.{Router}
use Rattle.at_base.specs.Multicast.{group_of}

-- The seats of a router's ports, which are numbered from q on.
abbrev pub port_seats : ℕ → ℕ → List Port → List Seat
port_seats station q [] = []
port_seats station q (p ∷ ps) =
    record { cable = p.cable - 1; station = station; port = q; hw = p.hardware; group = None } ∷ port_seats station (q + 1) ps

-- The seats of routers that are numbered from `station` on.
abbrev pub router_seats : ℕ → List Router → List Seat
router_seats station [] = []
router_seats station (r ∷ rs) = port_seats station 0 r.port ++ router_seats (station + 1) rs

-- The seats of nodes whose stations are numbered from `station` on; a node listens to the group of its zone in the
-- file.
abbrev pub node_seats : ℕ → List Node → List Seat
node_seats station [] = []
node_seats station (n ∷ ns) =
    record { cable = n.cable - 1; station = station; port = 0; hw = n.hardware; group = Some (group_of n.zone) }
    ∷ node_seats (station + 1) ns

-- The seats of a plan's stations: of the routers, then of the nodes.
abbrev pub plan_seats : Planned → List Seat
plan_seats p = router_seats 0 p.routers ++ node_seats (length p.routers) p.nodes
