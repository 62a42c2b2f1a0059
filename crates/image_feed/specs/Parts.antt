-- Cables, routers and nodes of which a part was read.
use Rattle.std.specs.Prelude.{◌≡◌, ℕ, ◌+◌, true, List, [], Option, Some, None, Result, Ok, length}
use Rattle.at_base.specs.Address.{address_number}
use Rattle.at_base.specs.Limits.{max_mappings, max_names, max_ports, max_rows}
use Rattle.at_base.specs.Grammar.{Grammar, done, field, part, number, run, one, two}
use Rattle.at_base.specs.Reading.{◌>>=◌}
use Rattle.table_image.specs.Flaws.{Wrong}
use Rattle.table_image.specs.Tests.{any, below}
use Rattle.table_image.specs.Sizes.{hardware_size}
use Rattle.table_image.specs.Spelling.{address_spelling, mapping_spelling, name_spelling, own_router_spelling, port_spelling, row_spelling}
use Rattle.table_image.specs.Spelling.{zone_spelling}
use Rattle.table_image.specs.declared.cable.Cable.{Cable}
use Rattle.table_image.specs.declared.flaw.Fault.{Fault}
use Rattle.table_image.specs.declared.mapping.Mapping.{Mapping}
use Rattle.table_image.specs.declared.node.Node.{Node}
use Rattle.table_image.specs.declared.node.NodeName.{NodeName}
use Rattle.table_image.specs.declared.port.Port.{Port}
use Rattle.table_image.specs.declared.router.Router.{Router}
use Rattle.table_image.specs.declared.row.Row.{Row}
use Rattle.table_image.specs.declared.version.Version.{Version}
use Rattle.table_image.specs.declared.version.Version.TheVariants.{V1, V2}
use Rattle.table_image.specs.declared.zone_list.ZoneList.{ZoneList}
use Rattle.image_feed.specs.declared.cable.CableHead.{CableHead}
use Rattle.image_feed.specs.declared.cable.GrowingCable.{GrowingCable}
use Rattle.image_feed.specs.declared.lists.Lists.{Lists}
use Rattle.image_feed.specs.declared.node.NodeHead.{NodeHead}
use Rattle.image_feed.specs.declared.node.GrowingNode.{GrowingNode}
use Rattle.image_feed.specs.declared.port.GrowingPort.{GrowingPort}
use Rattle.image_feed.specs.declared.port.PortHead.{PortHead}
use Rattle.image_feed.specs.declared.router.GrowingRouter.{GrowingRouter}
use Rattle.image_feed.specs.declared.several.Several.{Several}
use Rattle.image_feed.specs.Growing.{counted_on, growth_on, head_on}
use Rattle.image_feed.specs.Zones.{IsFresh, lists_on, names_on}

-- a cable without its zones
unfoldable pub cable_head : Grammar Wrong true CableHead
cable_head =
    field (number two any) (λ h. h.start) (λ start.
    field (number two any) (λ h. h.end) (λ end.
    done (record { start = start; end = end })))

-- a port, of a router of an internet with this many cables, without its mappings
unfoldable pub port_head : ℕ → Grammar Wrong true PortHead
port_head cables =
    field (number one (below cables)) (λ h. h.cable) (λ cable.
    part address_spelling (λ h. h.address) (λ address.
    field (run hardware_size any) (λ h. h.hardware.0) (λ hardware.
    done (record { cable = cable; address = address; hardware = record { 0 = hardware } }))))

-- a node, of an internet with this many cables, without its names and mappings
unfoldable pub node_head : ℕ → Grammar Wrong true NodeHead
node_head cables =
    field (number one (below cables)) (λ h. h.cable) (λ cable.
    part address_spelling (λ h. h.address) (λ address.
    field (run hardware_size any) (λ h. h.hardware.0) (λ hardware.
    part zone_spelling (λ h. h.zone) (λ zone.
    part own_router_spelling (λ h. h.router) (λ router.
    done (record { cable = cable; address = address; hardware = record { 0 = hardware }; zone = zone; router = router }))))))

-- the zones of another cable, if there is one
abbrev pub zones_of : Option Cable → List (List ℕ)
zones_of None = []
zones_of (Some cable) = cable.zones

-- the zone lists of another router, if there is one
abbrev pub lists_of : Option Router → List ZoneList
lists_of None = []
lists_of (Some router) = router.lists

-- the mappings of a port or a node of a version's image, and the bytes after them: none in version 1
abbrev pub mappings_on : Version → Several Mapping → List ℕ → Result (List Mapping × List ℕ) Fault
mappings_on V1 m bytes = Ok (m.items.items, bytes)
mappings_on V2 m bytes = counted_on two max_mappings mapping_spelling (λ a. address_number a.address + 1) m.left m.items.items m.low bytes

-- a port of a router of an internet with this many cables, and the bytes after it
abbrev pub port_on : Version → ℕ → GrowingPort → List ℕ → Result (Port × List ℕ) Fault
port_on version cables port bytes =
    head_on (port_head cables) port.head bytes >>= λ h. mappings_on version port.mappings h.1 >>= λ m.
    Ok (record { cable = h.0.cable; address = h.0.address; hardware = h.0.hardware; mappings = m.0 }, m.1)

-- a cable, and the bytes after it, where the other cable is like
abbrev pub cable_on : Version → Option Cable → GrowingCable → List ℕ → Result (Cable × List ℕ) Fault
cable_on version like cable bytes =
    head_on cable_head cable.head bytes >>= λ h. names_on version (zones_of like) cable.names h.1 >>= λ z.
    Ok (record { start = h.0.start; end = h.0.end; zones = z.0 }, z.1)

-- a router with these ports and rows, and the bytes after it, where the other router is like
abbrev pub lists_part : Version → Option Router → Lists → List Port → List Row → List ℕ → Result (Router × List ℕ) Fault
lists_part version like lists ports rows bytes =
    lists_on version (lists_of like) lists bytes >>= λ l. Ok (record { ports = ports; rows = rows; lists = l.0 }, l.1)

-- a router with these ports, and the bytes after it, where the other router is like
abbrev pub rows_on : Version → Option Router → GrowingRouter → List Port → List ℕ → Result (Router × List ℕ) Fault
rows_on version like router ports bytes =
    counted_on one max_rows (row_spelling (length ports)) (λ r. r.start + 1) router.rows.left router.rows.items.items router.rows.low bytes
    >>= λ r. lists_part version like router.lists ports r.0 r.1

-- the ports of a router of an internet with this many cables
abbrev pub ports_on : Version → ℕ → GrowingRouter → List ℕ → Result (List Port × List ℕ) Fault
ports_on version cables router bytes =
    growth_on max_ports (port_spelling version cables) (λ like p. port_on version cables p) router.ports.left router.ports.items.items
    router.ports.hint router.ports.next bytes

-- a router of an internet with this many cables, and the bytes after it, where the other router is like
abbrev pub router_on : Version → ℕ → Option Router → GrowingRouter → List ℕ → Result (Router × List ℕ) Fault
router_on version cables like router bytes = ports_on version cables router bytes >>= λ p. rows_on version like router p.0 p.1

-- a node with this head and these names, and the bytes after it
abbrev pub known_part : Version → GrowingNode → NodeHead → List NodeName → List ℕ → Result (Node × List ℕ) Fault
known_part version node h names bytes =
    mappings_on version node.mappings bytes >>= λ m.
    Ok (
      record {
        cable = h.cable;
        address = h.address;
        hardware = h.hardware;
        zone = h.zone;
        router = h.router;
        names = names;
        mappings = m.0;
      },
      m.1,
    )

-- a node with this head, and the bytes after it
abbrev pub names_part : Version → GrowingNode → NodeHead → List ℕ → Result (Node × List ℕ) Fault
names_part version node h bytes =
    counted_on one max_names name_spelling (λ n. n.enumerator + 1) node.names.left node.names.items.items node.names.low bytes >>= λ n.
    known_part version node h n.0 n.1

-- a node of an internet with this many cables, and the bytes after it
abbrev pub node_on : Version → ℕ → GrowingNode → List ℕ → Result (Node × List ℕ) Fault
node_on version cables node bytes = head_on (node_head cables) node.head bytes >>= λ h. names_part version node h.0 h.1

-- nothing was read of the parts
pub record AreUnread {B : Type 0} (s : Several B) : Type 0 where
  pub left : s.left ≡ None
  pub items : s.items.items ≡ []
  pub low : s.low ≡ 0

-- nothing was read of the port
pub record IsNewPort (p : GrowingPort) : Type 0 where
  pub head : p.head ≡ None
  pub mappings : AreUnread p.mappings

-- nothing was read of the router
pub record IsNewRouter (r : GrowingRouter) : Type 0 where
  pub ports_left : r.ports.left ≡ None
  pub ports : r.ports.items.items ≡ []
  pub port : IsNewPort r.ports.next
  pub rows : AreUnread r.rows
  pub lists : IsFresh r.lists

-- nothing was read of the node
pub record IsNewNode (n : GrowingNode) : Type 0 where
  pub head : n.head ≡ None
  pub names : AreUnread n.names
  pub mappings : AreUnread n.mappings
