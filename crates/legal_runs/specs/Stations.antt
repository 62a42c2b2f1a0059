-- The stations of an internet on its cables, numbered from 0: the routers, then the nodes.
use Rattle.std.specs.Prelude.{ℕ, ◌-◌, Bool, ◌&&◌, ◌==◌, List, Option, Some, None, length, map, option_map, slice_get, nat_lt}
use Rattle.std.specs.Prelude.{if◌then◌else◌}
use Rattle.std.specs.Option.{unwrap_or}
use Rattle.std.specs.List.{list_any}
use Rattle.at_base.specs.Address.{same_address}
use Rattle.at_base.specs.Multicast.{group_of}
use Rattle.at_base.specs.Range.{is_between}
use Rattle.at_base.specs.declared.address.Addr.{Addr}
use Rattle.table_image.specs.Internet.{Internet}
use Rattle.table_image.specs.declared.node.Node.{Node}
use Rattle.table_image.specs.declared.router.Router.{Router}
use Rattle.audit.specs.Places.{index_of, on}
use Rattle.table_image.specs.Seats.{seats, Seat as PlaceOf}
use Rattle.cable_model.specs.declared.seat.Seat.{Seat}

-- The node with this station number, if the station is a node.
abbrev pub node_of : Internet → ℕ → Option Node
node_of i station = if nat_lt station (length i.routers) then None else slice_get i.nodes (station - length i.routers)

-- The index of the router's port on the cable; a node has only port 0.
abbrev pub port_on : Option Router → ℕ → ℕ
port_on None cable = 0
port_on (Some router) cable = unwrap_or (index_of (λ p. p.cable == cable) router.ports) 0

-- The seat of a station on a cable, with the group of its zone if the station is a node.
abbrev pub cable_seat : Internet → PlaceOf → Seat
cable_seat i s = record {
  cable = s.cable;
  station = s.station;
  port = port_on (slice_get i.routers s.station) s.cable;
  hw = s.hardware;
  group = option_map (λ node. group_of node.zone) (node_of i s.station);
}

-- The seats of all stations, in order.
abbrev pub cable_seats : Internet → List Seat
cable_seats i = map (cable_seat i) (seats i)

-- The station is a router.
abbrev pub is_router : Internet → ℕ → Bool
is_router i station = nat_lt station (length i.routers)

-- The station has this address on the cable.
abbrev pub has_address : Internet → ℕ → ℕ → Addr → Bool
has_address i station cable a = list_any (λ s. s.station == station && s.cable == cable && same_address a s.address) (seats i)

-- The station is on the cable.
abbrev pub is_on : Internet → ℕ → ℕ → Bool
is_on i station cable = list_any (λ s. s.station == station && s.cable == cable) (seats i)

-- The network is in the cable's range.
abbrev pub cable_holds : Internet → ℕ → ℕ → Bool
cable_holds i cable net = on (slice_get i.cables cable) (λ c. is_between c.start c.end net)
