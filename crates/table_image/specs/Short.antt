-- Limits on the lengths of lists, in a version of the format.
use Rattle.std.specs.Prelude.{Bool, ◌&&◌, length, nat_le}
use Rattle.std.specs.List.{list_all}
use Rattle.table_image.specs.Internet.{Internet}
use Rattle.at_base.specs.Limits.{max_ports, max_rows, max_lists, max_names, max_cables, max_routers, max_nodes}
use Rattle.table_image.specs.Versions.{mapping_limit, zone_limit}
use Rattle.table_image.specs.declared.cable.Cable.{Cable}
use Rattle.table_image.specs.declared.port.Port.{Port}
use Rattle.table_image.specs.declared.zone_list.ZoneList.{ZoneList}
use Rattle.table_image.specs.declared.router.Router.{Router}
use Rattle.table_image.specs.declared.node.Node.{Node}
use Rattle.table_image.specs.declared.version.Version.{Version}

-- the zones of a cable are within their limit
abbrev pub short_cable : Version → Cable → Bool
short_cable v c = nat_le (length c.zones) (zone_limit v)

-- the zones of a zone list are within their limit
abbrev pub short_list : Version → ZoneList → Bool
short_list v l = nat_le (length l.zones) (zone_limit v)

-- the mappings of a port are within their limit
abbrev pub short_port : Version → Port → Bool
short_port v p = nat_le (length p.mappings) (mapping_limit v)

-- the lists of a router are within their limits
abbrev pub short_router : Version → Router → Bool
short_router v r =
    nat_le (length r.ports) max_ports && nat_le (length r.rows) max_rows && nat_le (length r.lists) max_lists
    && list_all (short_port v) r.ports && list_all (short_list v) r.lists

-- the lists of a node are within their limits
abbrev pub short_node : Version → Node → Bool
short_node v n = nat_le (length n.names) max_names && nat_le (length n.mappings) (mapping_limit v)

-- all lists of an internet are within the limits of its version
abbrev pub is_short : Internet → Bool
is_short i =
    nat_le (length i.cables) max_cables && nat_le (length i.routers) max_routers && nat_le (length i.nodes) max_nodes
    && list_all (short_cable i.version) i.cables && list_all (short_router i.version) i.routers && list_all (short_node i.version) i.nodes
