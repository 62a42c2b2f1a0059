-- The lines of a play before its verdict.
use Rattle.std.specs.Prelude.{ℕ, ◌==◌, List, [], ◌∷◌, ◌++◌, codes, length, if◌then◌else◌}
use Rattle.std.specs.Fmt.{decimal}
use Rattle.at_base.specs.Texts.{address_text}
use Rattle.end_node.specs.declared.node.Datagram.{Datagram}
use Rattle.text.specs.Digits.{hex_text}

-- The line of an action that had an error: its number, from 1, and the number of the error.
abbrev pub refused_line : ℕ × ℕ → List ℕ
refused_line r = codes "action " ++ decimal r.0 ++ codes " refused " ++ decimal r.1 ++ 10 ∷ []

-- Data in hexadecimal digits, or a dash if there is none.
abbrev pub data_text : List ℕ → List ℕ
data_text payload = if length payload == 0 then codes "-" else hex_text payload

-- The line of a datagram that a node received: its source, its target socket, its type and its data.
abbrev pub received_line : ℕ → Datagram → List ℕ
received_line node d =
    codes "node " ++ decimal node ++ codes " received " ++ address_text d.source ++ codes " " ++ decimal d.target_socket
    ++ codes " " ++ decimal d.kind ++ codes " " ++ data_text d.payload ++ 10 ∷ []

-- The lines of the actions that had an error.
abbrev pub refused_lines : List (ℕ × ℕ) → List ℕ
refused_lines [] = []
refused_lines (r ∷ rs) = refused_line r ++ refused_lines rs

-- The lines of the datagrams that a node received.
abbrev pub received_lines : ℕ → List Datagram → List ℕ
received_lines node [] = []
received_lines node (d ∷ ds) = received_line node d ++ received_lines node ds
