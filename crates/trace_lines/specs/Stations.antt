-- The addresses with which lines name stations. Stations are the routers, then the nodes, and have indexes from 0; so
-- have cables.
use Rattle.std.specs.Prelude.{ℕ, ◌-◌, ◌==◌, List, Option, Some, None, find, length, map, nat_lt, slice_get}
use Rattle.std.specs.Prelude.{if◌then◌else◌}
use Rattle.at_base.specs.declared.address.Addr.{Addr}
use Rattle.at_base.specs.declared.address.Hw.{Hw}
use Rattle.table_image.specs.Directory.{directory, has_hardware, on_cable as places_of_cable}
use Rattle.table_image.specs.Internet.{Internet}
use Rattle.table_image.specs.declared.directory.Place.{Place}
use Rattle.table_image.specs.declared.node.Node.{Node}
use Rattle.table_image.specs.declared.port.Port.{Port}
use Rattle.table_image.specs.declared.router.Router.{Router}
use Rattle.trace_lines.specs.declared.stations.PortAddress.{PortAddress}

-- The addresses for lines: those of each router's ports, those of the nodes, and the directory: the places on each cable.
pub record Addresses : Type 0 where
  pub routers : List (List PortAddress)
  pub nodes : List Addr
  pub directory : List (List Place)

-- The cable and the address of a port.
abbrev pub port_address : Port → PortAddress
port_address p = record { cable = p.cable; address = p.address }

-- The addresses of an internet.
abbrev pub addresses_of : Internet → Addresses
addresses_of i = record {
  routers = map (λ (r : Router). map port_address r.ports) i.routers;
  nodes = map (λ (n : Node). n.address) i.nodes;
  directory = directory i;
}

-- The address of a port, and 0.0 if there is none.
abbrev pub of_port : Option PortAddress → Addr
of_port None = record { net = 0; node = 0 }
of_port (Some p) = p.address

-- The address of a node, and 0.0 if there is none.
abbrev pub of_node : Option Addr → Addr
of_node None = record { net = 0; node = 0 }
of_node (Some a) = a

-- The address of a place, and 0.0 if there is none.
abbrev pub of_place : Option Place → Addr
of_place None = record { net = 0; node = 0 }
of_place (Some p) = p.address

-- The address of a router's first port on a cable, and 0.0 if there is none.
abbrev pub on_cable : Option (List PortAddress) → ℕ → Addr
on_cable None cable = record { net = 0; node = 0 }
on_cable (Some ports) cable = of_port (find (λ p. p.cable == cable) ports)

-- The address of a router's first port, and 0.0 if there is none.
abbrev pub at_first : Option (List PortAddress) → Addr
at_first None = record { net = 0; node = 0 }
at_first (Some ports) = of_port (slice_get ports 0)

-- The address of a station on a cable: that of the router's port there, or of the node.
abbrev pub address_on : Addresses → ℕ → ℕ → Addr
address_on a station cable =
    if nat_lt station (length a.routers) then on_cable (slice_get a.routers station) cable
    else of_node (slice_get a.nodes (station - length a.routers))

-- The address of a station if no cable is named: that of the router's first port, or of the node.
abbrev pub address_of : Addresses → ℕ → Addr
address_of a station =
    if nat_lt station (length a.routers) then at_first (slice_get a.routers station)
    else of_node (slice_get a.nodes (station - length a.routers))

-- The address of the station that has a hardware address on a cable, and 0.0 if none has it.
abbrev pub holder : Addresses → ℕ → Hw → Addr
holder a cable hw = of_place (find (has_hardware hw) (places_of_cable a.directory cable))
