-- The format of an image of an internet's tables, in both versions: its parts, their order and their tests.
-- docs/FORMATS.md has it as a table.
use Rattle.std.specs.Prelude.{ℕ, zero, suc, ◌+◌, Bool, true, false, ◌==◌, List, [], length, Option, Some, None, if◌then◌else◌, unwrap_or}
use Rattle.at_base.specs.declared.address.Addr.{Addr}
use Rattle.at_base.specs.declared.error.Cause.TheVariants as causes
use Rattle.at_base.specs.declared.error.Cause.TheVariants.{Count, Name, Value}
use Rattle.at_base.specs.Text.{is_name, is_entity}
use Rattle.at_base.specs.Grammar.{Grammar, Size, done, field, part, list, number, run, one, two}
use Rattle.rtmp.specs.declared.state.State.{State}
use Rattle.rtmp.specs.declared.state.State.TheVariants.{Good, Suspect, Bad, Last}
use Rattle.table_image.specs.Internet.{Internet}
use Rattle.at_base.specs.Address.{address_number}
use Rattle.at_base.specs.Limits.{max_ports, max_rows, max_lists, max_names, max_cables, max_routers, max_nodes, max_mappings}
use Rattle.table_image.specs.Limits.{max_text, max_distance}
use Rattle.table_image.specs.Sizes.{hardware_size}
use Rattle.table_image.specs.Flaws.{Wrong, Before}
use Rattle.table_image.specs.Tests.{any, within, below, rising, address_rising, enumerator, magic, is_magic}
use Rattle.table_image.specs.Versions.{version_number, version_of, zone_limit}
use Rattle.table_image.specs.declared.cable.Cable.{Cable}
use Rattle.table_image.specs.declared.mapping.Mapping.{Mapping}
use Rattle.table_image.specs.declared.port.Port.{Port}
use Rattle.table_image.specs.declared.row.Row.{Row}
use Rattle.table_image.specs.declared.zone_list.ZoneList.{ZoneList}
use Rattle.table_image.specs.declared.router.Router.{Router}
use Rattle.table_image.specs.declared.node.NodeName.{NodeName}
use Rattle.table_image.specs.declared.node.Node.{Node}
use Rattle.table_image.specs.declared.version.Version.{Version}
use Rattle.table_image.specs.declared.version.Version.TheVariants.{V1, V2}

-- a count of one or two bytes, up to a limit, and as many parts
unfoldable pub counted : {B : Type 0} → Size → ℕ → (ℕ → Grammar Wrong true B) → (B → ℕ) → Grammar Wrong true (List B)
counted size limit item next =
    field (number size (within 0 limit Count)) (λ xs. length xs) (λ count.
    list item next count (λ xs. xs) (λ xs. done xs))

-- a length from 1 up to its limit, and a text of as many bytes; if the text fails its test, that is reported at the
-- length
unfoldable pub text_spelling : (List ℕ → Bool) → Grammar Wrong true (List ℕ)
text_spelling good =
    field (number one (within 1 max_text Name)) (λ s. length s) (λ len.
    field (run len (λ s. if good s then None else Some (Before 1 Name))) (λ s. s) (λ s.
    done s))

-- a zone name
abbrev pub zone_spelling : Grammar Wrong true (List ℕ)
zone_spelling = text_spelling is_name

-- a count and as many zones, at most as many as a version allows
unfoldable pub zones_spelling : Version → Grammar Wrong true (List (List ℕ))
zones_spelling version = counted one (zone_limit version) (λ low. zone_spelling) (λ name. 0)

-- a network and a node
unfoldable pub address_spelling : Grammar Wrong true Addr
address_spelling =
    field (number two any) (λ a. a.net) (λ net.
    field (number one any) (λ a. a.node) (λ node.
    done (record { net = net; node = node })))

-- a cable: start, end, zones
unfoldable pub cable_spelling : Version → Grammar Wrong true Cable
cable_spelling version =
    field (number two any) (λ c. c.start) (λ start.
    field (number two any) (λ c. c.end) (λ end.
    part (zones_spelling version) (λ c. c.zones) (λ names.
    done (record { start = start; end = end; zones = names }))))

-- a mapping, above the one before it: network, node, hardware address
unfoldable pub mapping_spelling : ℕ → Grammar Wrong true Mapping
mapping_spelling low =
    field (number two any) (λ m. m.address.net) (λ net.
    field (number one (address_rising low net)) (λ m. m.address.node) (λ node.
    field (run hardware_size any) (λ m. m.hardware.0) (λ hardware.
    done (record { address = record { net = net; node = node }; hardware = record { 0 = hardware } }))))

-- the mappings of a port or a node: nothing in version 1; in version 2 a count of two bytes and as many mappings
unfoldable pub mappings_spelling : Version → Grammar Wrong true (List Mapping)
mappings_spelling V1 = done []
mappings_spelling V2 = counted two max_mappings mapping_spelling (λ m. address_number m.address + 1)

-- a port, of a router of an internet with this many cables: cable, address, hardware address, mappings
unfoldable pub port_spelling : Version → ℕ → Grammar Wrong true Port
port_spelling version cables =
    field (number one (below cables)) (λ p. p.cable) (λ cable.
    part address_spelling (λ p. p.address) (λ address.
    field (run hardware_size any) (λ p. p.hardware.0) (λ hardware.
    part (mappings_spelling version) (λ p. p.mappings) (λ mappings.
    done (record { cable = cable; address = address; hardware = record { 0 = hardware }; mappings = mappings })))))

-- the number of a state
abbrev pub state_number : State → ℕ
state_number Good = 0
state_number Suspect = 1
state_number Bad = 2
state_number Last = 3

-- the state with a number
abbrev pub state_of : ℕ → State
state_of zero = Good
state_of (suc zero) = Suspect
state_of (suc (suc zero)) = Bad
state_of (suc (suc (suc n))) = Last

-- a row, of a router with this many ports, above the row before it: start, end, distance, port, next address, state
unfoldable pub row_spelling : ℕ → ℕ → Grammar Wrong true Row
row_spelling ports low =
    field (number two (rising low)) (λ r. r.start) (λ start.
    field (number two any) (λ r. r.end) (λ end.
    field (number one (within 0 max_distance Value)) (λ r. r.distance) (λ distance.
    field (number one (below ports)) (λ r. r.port) (λ port.
    part address_spelling (λ r. r.next) (λ next.
    field (number one (within 0 3 Value)) (λ r. state_number r.state) (λ state.
    done (record { start = start; end = end; distance = distance; port = port; next = next; state = state_of state })))))))

-- the number of a flag
abbrev pub flag_number : Bool → ℕ
flag_number false = 0
flag_number true = 1

-- the flag with a number
abbrev pub flag_of : ℕ → Bool
flag_of n = n == 1

-- a zone list, above the one before it: start, end, whether it is complete, zones
unfoldable pub zone_list_spelling : Version → ℕ → Grammar Wrong true ZoneList
zone_list_spelling version low =
    field (number two (rising low)) (λ l. l.start) (λ start.
    field (number two any) (λ l. l.end) (λ end.
    field (number one (within 0 1 Value)) (λ l. flag_number l.complete) (λ complete.
    part (zones_spelling version) (λ l. l.zones) (λ names.
    done (record { start = start; end = end; complete = flag_of complete; zones = names })))))

-- a router of an internet with this many cables: ports, rows, zone lists
unfoldable pub router_spelling : Version → ℕ → Grammar Wrong true Router
router_spelling version cables =
    part (counted one max_ports (λ low. port_spelling version cables) (λ p. 0)) (λ r. r.ports) (λ ports.
    part (counted one max_rows (row_spelling (length ports)) (λ r. r.start + 1)) (λ r. r.rows) (λ rows.
    part (counted one max_lists (zone_list_spelling version) (λ l. l.start + 1)) (λ r. r.lists) (λ lists.
    done (record { ports = ports; rows = rows; lists = lists }))))

-- the address 0.0
abbrev pub nowhere : Addr
nowhere = record { net = 0; node = 0 }

-- the flag before a node's router: 1 if the node has one, else 0
abbrev pub own_router_number : Option Addr → ℕ
own_router_number None = 0
own_router_number (Some a) = 1

-- the format of a node's router after its flag
abbrev pub after_flag : ℕ → Grammar Wrong true (Option Addr)
after_flag zero = done None
after_flag (suc n) = part address_spelling (λ o. unwrap_or o nowhere) (λ a. done (Some a))

-- a node's router: a flag, and an address if the flag is 1
unfoldable pub own_router_spelling : Grammar Wrong true (Option Addr)
own_router_spelling = field (number one (within 0 1 Value)) own_router_number after_flag

-- a node's name, above the one before it: socket, enumerator, object, type
unfoldable pub name_spelling : ℕ → Grammar Wrong true NodeName
name_spelling low =
    field (number one (within 1 254 Value)) (λ n. n.socket) (λ socket.
    field (number one (enumerator low)) (λ n. n.enumerator) (λ number.
    part (text_spelling is_entity) (λ n. n.object) (λ object.
    part (text_spelling is_entity) (λ n. n.kind) (λ kind.
    done (record { socket = socket; enumerator = number; object = object; kind = kind })))))

-- a node of an internet with this many cables: cable, address, hardware address, zone, router, names, mappings
unfoldable pub node_spelling : Version → ℕ → Grammar Wrong true Node
node_spelling version cables =
    field (number one (below cables)) (λ n. n.cable) (λ cable.
    part address_spelling (λ n. n.address) (λ address.
    field (run hardware_size any) (λ n. n.hardware.0) (λ hardware.
    part zone_spelling (λ n. n.zone) (λ zone.
    part own_router_spelling (λ n. n.router) (λ router.
    part (counted one max_names name_spelling (λ n. n.enumerator + 1)) (λ n. n.names) (λ names.
    part (mappings_spelling version) (λ n. n.mappings) (λ mappings.
    done (record {
      cable = cable;
      address = address;
      hardware = record { 0 = hardware };
      zone = zone;
      router = router;
      names = names;
      mappings = mappings;
    }))))))))

-- the head of an image, which has its version, and the cables
unfoldable pub front_spelling : Grammar Wrong true (Version × List Cable)
front_spelling =
    field (run 4 is_magic) (λ f. magic) (λ s.
    field (number one (within 1 2 causes.Version)) (λ f. version_number f.0) (λ version.
    part (counted one max_cables (λ low. cable_spelling (version_of version)) (λ c. 0)) (λ f. f.1) (λ cables.
    done (version_of version, cables))))

-- an image: the head and the cables, the routers, the nodes
unfoldable pub image_spelling : Grammar Wrong true Internet
image_spelling =
    part front_spelling (λ i. (i.version, i.cables)) (λ front.
    part (counted one max_routers (λ low. router_spelling front.0 (length front.1)) (λ r. 0)) (λ i. i.routers) (λ routers.
    part (counted one max_nodes (λ low. node_spelling front.0 (length front.1)) (λ n. 0)) (λ i. i.nodes) (λ nodes.
    done (record { version = front.0; cables = front.1; routers = routers; nodes = nodes }))))
