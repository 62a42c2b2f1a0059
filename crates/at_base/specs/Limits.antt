-- The greatest numbers that several crates keep to, as in src/limits.rt.
use Rattle.std.specs.Prelude.{ℕ}

-- the greatest number of cables of an internet
abbrev pub max_cables : ℕ
max_cables = 200

-- the greatest number of routers of an internet
abbrev pub max_routers : ℕ
max_routers = 200

-- the greatest number of nodes of an internet
abbrev pub max_nodes : ℕ
max_nodes = 200

-- the greatest number of zones of a range
abbrev pub max_zones : ℕ
max_zones = 255

-- the greatest number of rows of a routing table
abbrev pub max_rows : ℕ
max_rows = 200

-- the greatest number of lists of a zone table
abbrev pub max_lists : ℕ
max_lists = 200

-- the greatest number of ports of a router
abbrev pub max_ports : ℕ
max_ports = 16

-- the greatest number of names that a node registers
abbrev pub max_names : ℕ
max_names = 32

-- the greatest length, in bytes, of the data of a datagram
abbrev pub max_data : ℕ
max_data = 586

-- the greatest number of mappings that a port keeps
abbrev pub max_mappings : ℕ
max_mappings = 512

-- the greatest number of datagrams that a port holds until a hardware address is known
abbrev pub max_held : ℕ
max_held = 16
