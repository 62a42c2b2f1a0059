-- The lines of a drawing for cables, routers, ports and nodes; each part has an index, from 0.
use Rattle.std.specs.Prelude.{ℕ, ◌+◌, List, [], ◌∷◌, ◌++◌, Option, codes}
use Rattle.std.specs.Fmt.{decimal}
use Rattle.std.specs.List.{flat_map}
use Rattle.at_base.specs.Texts.{address_text}
use Rattle.drawing.specs.declared.marks.Mark.{Mark}
use Rattle.table_image.specs.Internet.{Internet}
use Rattle.table_image.specs.declared.cable.Cable.{Cable}
use Rattle.table_image.specs.declared.node.Node.{Node}
use Rattle.table_image.specs.declared.node.NodeName.{NodeName}
use Rattle.table_image.specs.declared.port.Port.{Port}
use Rattle.table_image.specs.declared.router.Router.{Router}
use Rattle.drawing.specs.Marks.{mark_at, is_cable, is_node, is_port, is_router}
use Rattle.drawing.specs.Hands.{router_route}
use Rattle.drawing.specs.Labels.{label_end, number, shown, text_line}

-- The text of each element with its index, one after the other; the first has index k.
abbrev pub each_from : {X : Type 0} → (ℕ → X → List ℕ) → ℕ → List X → List ℕ
each_from text k [] = []
each_from text k (x ∷ xs) = text k x ++ each_from text (k + 1) xs

-- ---- Cables

-- The beginning of a cable's line, to its number in the label.
abbrev pub cable_start : ℕ → List ℕ
cable_start k =
    codes "  c" ++ number k ++ codes " [shape=box, style=filled, fillcolor=lightyellow, label=\"cable " ++ number k

-- The range of a cable, as a further line of its label.
abbrev pub range_line : ℕ → ℕ → List ℕ
range_line start end = codes "\\n" ++ decimal start ++ codes "-" ++ decimal end

-- A cable: its number, its range and its zones.
abbrev pub cable_line : Option Mark → ℕ → Cable → List ℕ
cable_line mark k c =
    cable_start k ++ range_line c.start c.end ++ flat_map text_line c.zones ++ label_end (mark_at (is_cable k) mark)

-- ---- Routers

-- The beginning of a router's line, to its number in the label.
abbrev pub router_start : ℕ → List ℕ
router_start r = codes "  r" ++ number r ++ codes " [shape=ellipse, label=\"router " ++ number r

-- A router: its number, and whether it has no route to the network that is asked for.
abbrev pub router_line : Internet → Option Mark → Option ℕ → ℕ → List ℕ
router_line i mark to r = router_start r ++ router_route i to r ++ label_end (mark_at (is_router r) mark)

-- The beginning of a port's line: its router, and its cable.
abbrev pub port_start : ℕ → Port → List ℕ
port_start r port = codes "  r" ++ number r ++ codes " -> c" ++ number port.cable ++ codes " [label=\""

-- A port: an edge from its router to its cable, with its address.
abbrev pub port_line : Option Mark → ℕ → ℕ → Port → List ℕ
port_line mark r p port = port_start r port ++ address_text port.address ++ label_end (mark_at (is_port r p) mark)

-- A router and its ports.
abbrev pub router_lines : Internet → Option Mark → Option ℕ → ℕ → Router → List ℕ
router_lines i mark to r router = router_line i mark to r ++ each_from (port_line mark r) 0 router.ports

-- ---- Nodes

-- The beginning of a node's line, to its number in the label.
abbrev pub node_start : ℕ → List ℕ
node_start k = codes "  n" ++ number k ++ codes " [shape=plaintext, label=\"node " ++ number k

-- The address and the zone of a node, as further lines of its label.
abbrev pub node_place : Node → List ℕ
node_place n = codes "\\n" ++ address_text n.address ++ text_line n.zone

-- A name of a node, as a further line of the node's label.
abbrev pub name_line : NodeName → List ℕ
name_line n = text_line n.object ++ codes ":" ++ flat_map shown n.kind

-- The edge from a node to its cable.
abbrev pub node_edge : ℕ → Node → List ℕ
node_edge k n = codes "  n" ++ number k ++ codes " -> c" ++ number n.cable ++ codes ";\n"

-- A node: its number, its address, its zone and its names; and the edge to its cable.
abbrev pub node_lines : Option Mark → ℕ → Node → List ℕ
node_lines mark k n =
    node_start k ++ node_place n ++ flat_map name_line n.names ++ label_end (mark_at (is_node k) mark) ++ node_edge k n
