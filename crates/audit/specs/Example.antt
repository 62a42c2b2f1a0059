-- Two small internets: one that passes, and one whose routers send a datagram in a loop.
use Rattle.std.specs.Prelude.{ℕ, true, List, [], ◌∷◌, Some, None, codes}
use Rattle.at_base.specs.declared.address.Addr.{Addr}
use Rattle.at_base.specs.declared.address.Hw.{Hw}
use Rattle.rtmp.specs.declared.state.State.TheVariants.{Good}
use Rattle.table_image.specs.Internet.{Internet}
use Rattle.table_image.specs.declared.cable.Cable.{Cable}
use Rattle.table_image.specs.declared.mapping.Mapping.{Mapping}
use Rattle.table_image.specs.declared.node.Node.{Node}
use Rattle.table_image.specs.declared.port.Port.{Port}
use Rattle.table_image.specs.declared.row.Row.{Row}
use Rattle.table_image.specs.declared.zone_list.ZoneList.{ZoneList}
use Rattle.table_image.specs.declared.router.Router.{Router}
use Rattle.table_image.specs.declared.version.Version.TheVariants.{V1, V2}

-- the address with this network and node number
abbrev pub addr : ℕ → ℕ → Addr
addr net node = record { net = net; node = node }

-- the hardware address 02:00:00:00:00 followed by this byte
abbrev pub hardware : ℕ → Hw
hardware byte = record { 0 = 2 ∷ 0 ∷ 0 ∷ 0 ∷ 0 ∷ byte ∷ [] }

-- a port on the cable with this address, and with the hardware address that ends in this byte
abbrev pub port : ℕ → Addr → ℕ → Port
port cable address byte = record { cable = cable; address = address; hardware = hardware byte; mappings = [] }

-- the direct row for the networks from start to end, on this port
abbrev pub direct : ℕ → ℕ → ℕ → Row
direct start end port = record { start = start; end = end; distance = 0; port = port; next = addr 0 0; state = Good }

-- the row for the networks from start to end, at distance 1, through this next router, on this port
abbrev pub by_way_of : Addr → ℕ → ℕ → ℕ → Row
by_way_of next start end port = record { start = start; end = end; distance = 1; port = port; next = next; state = Good }

-- the networks 10 to 19 with zone Red, 20 to 29 with zones Red and Blue, and 30 to 39 with zone Blue
abbrev pub example_cables : List Cable
example_cables =
    record { start = 10; end = 19; zones = codes "Red" ∷ [] }
    ∷ record { start = 20; end = 29; zones = codes "Red" ∷ codes "Blue" ∷ [] }
    ∷ record { start = 30; end = 39; zones = codes "Blue" ∷ [] } ∷ []

-- the complete zone lists of the example's cables
abbrev pub example_lists : List ZoneList
example_lists =
    record { start = 10; end = 19; complete = true; zones = codes "Red" ∷ [] }
    ∷ record { start = 20; end = 29; complete = true; zones = codes "Red" ∷ codes "Blue" ∷ [] }
    ∷ record { start = 30; end = 39; complete = true; zones = codes "Blue" ∷ [] } ∷ []

-- a router on cables 0 and 1, which reaches cable 2 through 20.2
abbrev pub first_router : Router
first_router = record {
  ports = port 0 (addr 10 1) 1 ∷ port 1 (addr 20 1) 2 ∷ [];
  rows = direct 10 19 0 ∷ direct 20 29 1 ∷ by_way_of (addr 20 2) 30 39 1 ∷ [];
  lists = example_lists;
}

-- a router on cables 1 and 2, which reaches cable 0 through 20.1
abbrev pub second_router : Router
second_router = record {
  ports = port 1 (addr 20 2) 3 ∷ port 2 (addr 30 1) 4 ∷ [];
  rows = by_way_of (addr 20 1) 10 19 0 ∷ direct 20 29 0 ∷ direct 30 39 1 ∷ [];
  lists = example_lists;
}

-- Three cables in a line: two routers join them, with a node on the first cable, and a printer on the last.
abbrev pub three_cables : Internet
three_cables = record {
  version = V1;
  cables = example_cables;
  routers = first_router ∷ second_router ∷ [];
  nodes =
      record { cable = 0; address = addr 10 7; hardware = hardware 5; zone = codes "Red"; router = Some (addr 10 1); names = []; mappings = [] }
      ∷ record {
        cable = 2;
        address = addr 30 5;
        hardware = hardware 6;
        zone = codes "Blue";
        router = Some (addr 30 1);
        names = record { socket = 129; enumerator = 1; object = codes "lab"; kind = codes "LaserWriter" } ∷ [];
        mappings = [];
      } ∷ [];
}

-- a router only on cable 1, which sends datagrams for the first and the last cable through 20.1
abbrev pub turned_router : Router
turned_router = record {
  ports = port 1 (addr 20 2) 3 ∷ [];
  rows = by_way_of (addr 20 1) 10 19 0 ∷ direct 20 29 0 ∷ by_way_of (addr 20 1) 30 39 0 ∷ [];
  lists = example_lists;
}

-- An internet with the example's cables, where neither router is on the last cable, and each has the other as its next
-- router for it.
abbrev pub pointing_at_each_other : Internet
pointing_at_each_other = record { version = V1; cables = example_cables; routers = first_router ∷ turned_router ∷ []; nodes = [] }

-- an internet with the first router of the example, and a router with only this port
abbrev pub beside : Port → Internet
beside p = record { version = V1; cables = example_cables; routers = first_router ∷ record turned_router { ports = p ∷ [] } ∷ []; nodes = [] }

-- an internet with two routers that have the same address
abbrev pub same_addresses : Internet
same_addresses = beside (port 1 (addr 20 1) 3)

-- an internet with two routers that have the same hardware address on a cable
abbrev pub same_hardware_addresses : Internet
same_hardware_addresses = beside (port 1 (addr 20 2) 2)

-- a node on the cable in zone Red, without a router, with these mappings
abbrev pub red_node : ℕ → Addr → ℕ → List Mapping → Node
red_node cable address byte mappings =
    record { cable = cable; address = address; hardware = hardware byte; zone = codes "Red"; router = None; names = []; mappings = mappings }

-- an internet with the example's cables and two nodes, 10.7 on the first and 20.7 on the second; the first one has this
-- mapping
abbrev pub knowing : Mapping → Internet
knowing m = record {
  version = V2;
  cables = example_cables;
  routers = [];
  nodes = red_node 0 (addr 10 7) 5 (m ∷ []) ∷ red_node 1 (addr 20 7) 6 [] ∷ [];
}

-- the first node's own mapping
abbrev pub knows_itself : Mapping
knows_itself = record { address = addr 10 7; hardware = hardware 5 }

-- the first node's address with the other's hardware address
abbrev pub wrong_hardware : Mapping
wrong_hardware = record { address = addr 10 7; hardware = hardware 6 }

-- both addresses of the node on the other cable
abbrev pub other_cable : Mapping
other_cable = record { address = addr 20 7; hardware = hardware 6 }
