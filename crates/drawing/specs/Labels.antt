-- Labels of a drawing: their texts, and how they end.
use Rattle.std.specs.Prelude.{ℕ, ◌+◌, ◌||◌, ◌==◌, List, [], ◌∷◌, ◌++◌, Option, Some, None, codes}
use Rattle.std.specs.Prelude.{if◌then◌else◌}
use Rattle.std.specs.Fmt.{decimal}
use Rattle.std.specs.List.{flat_map}
use Rattle.at_base.specs.Text.{is_printable}
use Rattle.at_base.specs.declared.error.Fault.{Fault}
use Rattle.drawing.specs.declared.marks.Mark.{Mark}
use Rattle.drawing.specs.declared.marks.Mark.TheVariants.{Broken, MayChange}
use Rattle.at_base.specs.declared.error.Place.{Place}
use Rattle.at_base.specs.declared.error.Place.TheVariants as place

-- A byte of a text: a quotation mark and a backslash stand after a backslash, an ampersand is written as the entity that
-- stands for it, and what isn't printable is a question mark.
abbrev pub shown : ℕ → List ℕ
shown b =
    if b == 34 || b == 92 then 92 ∷ b ∷ [] else if b == 38 then codes "&amp;" else if is_printable b then b ∷ [] else 63 ∷ []

-- A further line of a label, which has a text.
abbrev pub text_line : List ℕ → List ℕ
text_line t = codes "\\n" ++ flat_map shown t

-- The number of the part with an index.
abbrev pub number : ℕ → List ℕ
number k = decimal (k + 1)

-- The part of a router where a rule is broken, after the number of the rule.
abbrev pub part_text : Place → List ℕ
part_text (place.Row r k) = codes " row " ++ decimal k
part_text (place.Missing r k) = codes " cable " ++ decimal k
part_text (place.List r k) = codes " list " ++ decimal k
part_text _ = []

-- The last line of a red label: the broken rule, as `C2`, `C7 row 3`, `C3 cable 3` or `C8 list 2`.
abbrev pub fault_line : Fault → List ℕ
fault_line f = codes "\\nC" ++ decimal f.rule ++ part_text f.place

-- The last line of an orange label: the row that may change, as `may change: row 3`.
abbrev pub change_line : Place → List ℕ
change_line p = codes "\\nmay change:" ++ part_text p

-- The last line of the label of a mark: the broken rule, or the row that may change.
abbrev pub mark_line : Mark → List ℕ
mark_line (Broken f) = fault_line f
mark_line (MayChange p) = change_line p

-- The end of the label of a mark, and of its line in the drawing: red where a rule is broken, orange where a row may
-- change.
abbrev pub ending : Mark → List ℕ
ending (Broken f) = codes "\", color=red, fontcolor=red];\n"
ending (MayChange p) = codes "\", color=darkorange, fontcolor=darkorange];\n"

-- What ends the label of a mark.
abbrev pub marked_end : Mark → List ℕ
marked_end m = mark_line m ++ ending m

-- The end of a label, and of its line.
abbrev pub label_end : Option Mark → List ℕ
label_end None = codes "\"];\n"
label_end (Some m) = marked_end m
