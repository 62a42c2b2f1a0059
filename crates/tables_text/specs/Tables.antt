-- The text of a tables file that has the tables of an internet: every key of every entry, in one order and layout.
use Rattle.std.specs.Prelude.{◌≡◌, ℕ, ◌+◌, Bool, true, false, ◌||◌, ◌==◌, List, [], ◌∷◌, ◌++◌, Option, Some, None, codes, length}
use Rattle.std.specs.Prelude.{if◌then◌else◌}
use Rattle.std.specs.Fmt.{decimal}
use Rattle.std.specs.List.{flat_map, list_all}
use Rattle.at_base.specs.Text.{is_printable}
use Rattle.at_base.specs.Texts.{address_text}
use Rattle.at_base.specs.declared.address.Addr.{Addr}
use Rattle.at_base.specs.declared.address.Hw.{Hw}
use Rattle.rtmp.specs.declared.state.State.{State}
use Rattle.rtmp.specs.declared.state.State.TheVariants as state
use Rattle.table_image.specs.Internet.{Internet}
use Rattle.table_image.specs.declared.cable.Cable.{Cable}
use Rattle.table_image.specs.declared.mapping.Mapping.{Mapping}
use Rattle.table_image.specs.declared.node.Node.{Node}
use Rattle.table_image.specs.declared.node.NodeName.{NodeName}
use Rattle.table_image.specs.declared.port.Port.{Port}
use Rattle.table_image.specs.declared.router.Router.{Router}
use Rattle.table_image.specs.declared.row.Row.{Row}
use Rattle.table_image.specs.declared.version.Version.{Version}
use Rattle.table_image.specs.declared.version.Version.TheVariants as version
use Rattle.table_image.specs.declared.zone_list.ZoneList.{ZoneList}
use Rattle.text.specs.Digits.{hex_text}

-- ---- Values

-- A character of a quoted text: a quotation mark and a backslash stand after a backslash.
abbrev pub quoted : ℕ → List ℕ
quoted b = if b == 34 || b == 92 then 92 ∷ b ∷ [] else b ∷ []

-- Text in quotation marks.
abbrev pub in_quotes : List ℕ → List ℕ
in_quotes t = 34 ∷ t ++ 34 ∷ []

-- The value of bytes: a text, or the bytes in hexadecimal digits where not all of them are printable.
abbrev pub bytes_value : List ℕ → List ℕ
bytes_value bytes =
    if list_all is_printable bytes then in_quotes (flat_map quoted bytes) else codes "{hex = " ++ in_quotes (hex_text bytes) ++ codes "}"

-- The same, not computed.
unfoldable pub bytes_text : List ℕ → List ℕ
bytes_text bytes = bytes_value bytes

-- The values of names, in brackets.
abbrev pub names_value : List (List ℕ) → List ℕ
names_value [] = codes "[]"
names_value (n ∷ ns) = codes "[" ++ bytes_text n ++ flat_map (λ m. codes ", " ++ bytes_text m) ns ++ codes "]"

-- The value of a range.
abbrev pub range_value : ℕ → ℕ → List ℕ
range_value start end = codes "[" ++ decimal start ++ codes ", " ++ decimal end ++ codes "]"

-- The value of an address.
abbrev pub address_value : Addr → List ℕ
address_value a = in_quotes (address_text a)

-- The value of a hardware address.
abbrev pub hardware_value : Hw → List ℕ
hardware_value h = in_quotes (hex_text h.0)

-- The name of a row's state.
abbrev pub state_name : State → List ℕ
state_name state.Good = codes "Good"
state_name state.Suspect = codes "Suspect"
state_name state.Bad = codes "Bad"
state_name state.Last = codes "Last"

-- Whether something holds.
abbrev pub yes_or_no : Bool → List ℕ
yes_or_no true = codes "true"
yes_or_no false = codes "false"

-- ---- Parts of entries, each a line

-- A mapping: an address and the hardware address of its station.
abbrev pub mapping_value : Mapping → List ℕ
mapping_value m = codes "{address = " ++ address_value m.address ++ codes ", hardware = " ++ hardware_value m.hardware ++ codes "}"

-- Mappings, as one more key of a port; nothing where there are none.
abbrev pub port_mappings : List Mapping → List ℕ
port_mappings [] = []
port_mappings (m ∷ ms) =
    codes ", mapping = [" ++ mapping_value m ++ flat_map (λ n. codes ", " ++ mapping_value n) ms ++ codes "]"

-- A port; its cable is counted from 1.
abbrev pub port_line : Port → List ℕ
port_line p =
    codes "    {cable = " ++ decimal (p.cable + 1) ++ codes ", address = " ++ address_value p.address
    ++ codes ", hardware = " ++ hardware_value p.hardware ++ port_mappings p.mappings ++ codes "},\n"

-- The range of a row, and its distance.
abbrev pub row_reach : Row → List ℕ
row_reach r = codes "    {range = " ++ range_value r.start r.end ++ codes ", distance = " ++ decimal r.distance

-- Where a row leads to; its port is counted from 1.
abbrev pub row_way : Row → List ℕ
row_way r = codes ", port = " ++ decimal (r.port + 1) ++ codes ", next = " ++ address_value r.next

-- A row.
abbrev pub row_line : Row → List ℕ
row_line r = row_reach r ++ row_way r ++ codes ", state = \"" ++ state_name r.state ++ codes "\"},\n"

-- A zone list.
abbrev pub list_line : ZoneList → List ℕ
list_line l =
    codes "    {range = " ++ range_value l.start l.end ++ codes ", complete = " ++ yes_or_no l.complete
    ++ codes ", zones = " ++ names_value l.zones ++ codes "},\n"

-- The words of a node's name.
abbrev pub name_words : NodeName → List ℕ
name_words n = codes "    {object = " ++ bytes_text n.object ++ codes ", type = " ++ bytes_text n.kind

-- The numbers of a node's name.
abbrev pub name_numbers : NodeName → List ℕ
name_numbers n = codes ", socket = " ++ decimal n.socket ++ codes ", enumerator = " ++ decimal n.enumerator

-- A name of a node.
abbrev pub name_line : NodeName → List ℕ
name_line n = name_words n ++ name_numbers n ++ codes "},\n"

-- A mapping of a node.
abbrev pub mapping_line : Mapping → List ℕ
mapping_line m = codes "    " ++ mapping_value m ++ codes ",\n"

-- The value of an array, with an element in each line.
abbrev pub elements : {X : Type 0} → (X → List ℕ) → List X → List ℕ
elements line xs = codes " = [\n" ++ flat_map line xs ++ codes "]\n"

-- The value of an array that may be empty.
abbrev pub array_text : {X : Type 0} → (X → List ℕ) → List X → List ℕ
array_text line xs = if length xs == 0 then codes " = []\n" else elements line xs

-- A key whose value is an array.
abbrev pub lines_of : {X : Type 0} → List ℕ → (X → List ℕ) → List X → List ℕ
lines_of key line xs = key ++ array_text line xs

-- ---- Entries

-- The first line: the version of the image.
abbrev pub version_line : Version → List ℕ
version_line version.V1 = codes "version = 1\n"
version_line version.V2 = codes "version = 2\n"

-- A cable.
abbrev pub cable_entry : Cable → List ℕ
cable_entry c =
    codes "\n[[cable]]\nrange = " ++ range_value c.start c.end ++ codes "\nzones = " ++ names_value c.zones ++ codes "\n"

-- A router.
abbrev pub router_entry : Router → List ℕ
router_entry r =
    codes "\n[[router]]\n" ++ lines_of (codes "port") port_line r.ports ++ lines_of (codes "row") row_line r.rows
    ++ lines_of (codes "list") list_line r.lists

-- The router of a node that has one.
abbrev pub router_key : Option Addr → List ℕ
router_key None = []
router_key (Some a) = codes "router = " ++ address_value a ++ codes "\n"

-- The cable of a node, counted from 1, and its address.
abbrev pub node_place : Node → List ℕ
node_place n = codes "\n[[node]]\ncable = " ++ decimal (n.cable + 1) ++ codes "\naddress = " ++ address_value n.address

-- The hardware address of a node, and its zone.
abbrev pub node_zone : Node → List ℕ
node_zone n = codes "\nhardware = " ++ hardware_value n.hardware ++ codes "\nzone = " ++ bytes_text n.zone ++ codes "\n"

-- What a node has once.
abbrev pub node_head : Node → List ℕ
node_head n = node_place n ++ node_zone n ++ router_key n.router

-- The mappings of a node; nothing where there are none.
abbrev pub node_mappings : List Mapping → List ℕ
node_mappings ms = if length ms == 0 then [] else lines_of (codes "mapping") mapping_line ms

-- A node.
abbrev pub node_entry : Node → List ℕ
node_entry n = node_head n ++ lines_of (codes "name") name_line n.names ++ node_mappings n.mappings

-- The tables file of an internet.
abbrev pub tables_text : Internet → List ℕ
tables_text i =
    version_line i.version ++ flat_map cable_entry i.cables ++ flat_map router_entry i.routers ++ flat_map node_entry i.nodes
