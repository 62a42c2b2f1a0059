-- The seats of an internet: the stations on each cable, with their addresses.
use Rattle.std.specs.Prelude.{ℕ, suc, ◌&&◌, List, [], ◌∷◌, ◌++◌, Option, length, map, find, ◌==◌}
use Rattle.at_base.specs.Address.{same_address}
use Rattle.at_base.specs.declared.address.Addr.{Addr}
use Rattle.at_base.specs.declared.address.Hw.{Hw}
use Rattle.table_image.specs.Internet.{Internet}
use Rattle.table_image.specs.declared.port.Port.{Port}
use Rattle.table_image.specs.declared.router.Router.{Router}
use Rattle.table_image.specs.declared.node.Node.{Node}

-- A station on a cable, with its addresses there; stations are the routers and then the nodes, numbered from 0, as
-- cables are.
pub record Seat : Type 0 where
  pub station : ℕ
  pub cable : ℕ
  pub address : Addr
  pub hardware : Hw

-- the seat of router r at a port
abbrev pub port_seat : ℕ → Port → Seat
port_seat r port = record { station = r; cable = port.cable; address = port.address; hardware = port.hardware }

-- the seats of routers numbered from r on
abbrev pub router_seats : ℕ → List Router → List Seat
router_seats r [] = []
router_seats r (router ∷ routers) = map (port_seat r) router.ports ++ router_seats (suc r) routers

-- the seats of nodes whose stations are numbered from s on
abbrev pub node_seats : ℕ → List Node → List Seat
node_seats s [] = []
node_seats s (node ∷ nodes) =
    record { station = s; cable = node.cable; address = node.address; hardware = node.hardware } ∷ node_seats (suc s) nodes

-- the seats of an internet, in the order of the stations
abbrev pub seats : Internet → List Seat
seats i = router_seats 0 i.routers ++ node_seats (length i.routers) i.nodes

-- the first seat on the cable with the address, if any
abbrev pub seat_at : Internet → ℕ → Addr → Option Seat
seat_at i cable a = find (λ s. s.cable == cable && same_address s.address a) (seats i)
