-- The greatest size, in bytes, of each part of an image of any version, as a sum over its fields.
use Rattle.std.specs.Prelude.{ℕ, ◌+◌, ◌*◌}
use Rattle.at_base.specs.Grammar.{Size, one, two}
use Rattle.at_base.specs.Limits.{max_ports, max_rows, max_lists, max_zones, max_names, max_cables, max_routers, max_nodes, max_mappings}
use Rattle.table_image.specs.Counts.{count_len}
use Rattle.table_image.specs.Limits.{max_text}

-- the size of a byte: a count, an index, a flag or another small number
abbrev pub byte_size : ℕ
byte_size = 1

-- the greatest size of a count and of parts of a given size
abbrev pub counted_size : Size → ℕ → ℕ → ℕ
counted_size count limit size = count_len count + limit * size

-- the greatest size of a length-prefixed text
abbrev pub text_size : ℕ
text_size = byte_size + max_text

-- the greatest size of the zones of a cable or of a zone list
abbrev pub zones_size : ℕ
zones_size = counted_size one max_zones text_size

-- the size of a network
abbrev pub network_size : ℕ
network_size = 2

-- the size of a range: its first and last network
abbrev pub range_size : ℕ
range_size = network_size + network_size

-- the size of an address: network and node
abbrev pub address_size : ℕ
address_size = network_size + byte_size

-- the size of a hardware address
abbrev pub hardware_size : ℕ
hardware_size = 6

-- the greatest size of a cable: range, zones
abbrev pub cable_size : ℕ
cable_size = range_size + zones_size

-- the size of a mapping: an address and its hardware address
abbrev pub mapping_size : ℕ
mapping_size = address_size + hardware_size

-- the greatest size of the mappings of a port or a node
abbrev pub mappings_size : ℕ
mappings_size = counted_size two max_mappings mapping_size

-- the size of the index of a cable, an address and a hardware address, which ports and nodes have
abbrev pub seat_size : ℕ
seat_size = byte_size + address_size + hardware_size

-- the greatest size of a port: cable and addresses, mappings
abbrev pub port_size : ℕ
port_size = seat_size + mappings_size

-- the size of a row: range, distance, port, next router, state
abbrev pub row_size : ℕ
row_size = range_size + byte_size + byte_size + address_size + byte_size

-- the greatest size of a zone list: range, whether it is complete, zones
abbrev pub zone_list_size : ℕ
zone_list_size = range_size + byte_size + zones_size

-- the greatest size of a router: ports, rows, zone lists
abbrev pub router_size : ℕ
router_size = counted_size one max_ports port_size + counted_size one max_rows row_size + counted_size one max_lists zone_list_size

-- the greatest size of a node's router: flag and address
abbrev pub own_router_size : ℕ
own_router_size = byte_size + address_size

-- the greatest size of a name: socket, enumerator, object, type
abbrev pub name_size : ℕ
name_size = byte_size + byte_size + text_size + text_size

-- the greatest size of a node: cable and addresses, zone, router, names, mappings
abbrev pub node_size : ℕ
node_size = seat_size + text_size + own_router_size + counted_size one max_names name_size + mappings_size

-- the size of the head: the four bytes of the magic number, and the version
abbrev pub head_size : ℕ
head_size = 4 + byte_size

-- the greatest size of an image: head and cables, routers, nodes
abbrev pub image_size : ℕ
image_size = head_size + counted_size one max_cables cable_size + counted_size one max_routers router_size + counted_size one max_nodes node_size
