-- The drawing of an internet in Graphviz' language, with the verdict of its audit.
use Rattle.std.specs.Prelude.{ℕ, List, [], ◌++◌, Option, Some, None, codes}
use Rattle.std.specs.Fmt.{decimal}
use Rattle.drawing.specs.declared.marks.Mark.{Mark}
use Rattle.audit.specs.Verdicts.{verdict_line}
use Rattle.audit.specs.declared.verdict.Verdict.{Verdict}
use Rattle.table_image.specs.Internet.{Internet}
use Rattle.drawing.specs.Marks.{mark_of}
use Rattle.settled.specs.declared.settling.Settling.{Settling}
use Rattle.drawing.specs.Hands.{arrow_line}
use Rattle.drawing.specs.Shapes.{cable_line, each_from, node_lines, router_lines}

-- The second line of the drawing's label: the network that is asked for.
abbrev pub to_line : Option ℕ → List ℕ
to_line None = []
to_line (Some net) = codes "\\nto " ++ decimal net

-- The first lines: the drawing's label, which has the verdict, and what all parts have in common.
abbrev pub head_text : Verdict → Option ℕ → List ℕ
head_text v to =
    codes "digraph internet {\n  graph [label=\"" ++ verdict_line v ++ to_line to
    ++ codes "\", labelloc=t, fontname=\"Helvetica\"];\n  node [fontname=\"Helvetica\"];\n  edge [fontname=\"Helvetica\", dir=none];\n"

-- The parts of an internet: the cables, the routers with their ports, and the nodes.
abbrev pub parts_text : Internet → Option Mark → Option ℕ → List ℕ
parts_text i mark to =
    each_from (cable_line mark) 0 i.cables ++ each_from (router_lines i mark to) 0 i.routers
    ++ each_from (node_lines mark) 0 i.nodes

-- The arrows: what each router does with a datagram to the network that is asked for.
abbrev pub arrows_text : Internet → Option ℕ → List ℕ
arrows_text i None = []
arrows_text i (Some net) = each_from (arrow_line i net) 0 i.routers

-- The drawing of an internet with a verdict, whose tables are settled or not; and, if a network is asked for, with the way
-- of datagrams to it.
abbrev pub drawing_text : Internet → Verdict → Settling → Option ℕ → List ℕ
drawing_text i v s to = head_text v to ++ parts_text i (mark_of v s) to ++ arrows_text i to ++ codes "}\n"
