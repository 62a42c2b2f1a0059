-- The values of a tables file: ranges as they stand, names, indexes, states.
use Rattle.std.specs.Prelude.{ℕ, ◌-◌, ◌&&◌, Bool, cond, List, [], ◌∷◌, Option, Some, None, codes, length, nat_le}
use Rattle.std.specs.List.{list_all}
use Rattle.toml.specs.Data.{Data, as_bool, as_str}
use Rattle.at_base.specs.Text.{is_entity, is_name, is_printable, same_bytes}
use Rattle.file_entries.specs.Entries.{at, entry}
use Rattle.file_entries.specs.Values.{hex, list, number}
use Rattle.rtmp.specs.declared.state.State.{State}
use Rattle.rtmp.specs.declared.state.State.TheVariants.{Bad, Good, Last, Suspect}
use Rattle.text.specs.Words.{given}

-- The first and the last network in a list of two.
abbrev pub ends_of : List Data → Option (ℕ × ℕ)
ends_of (first ∷ last ∷ []) =
    given (number 0 65535 first) (λ start. given (number 0 65535 last) (λ end. Some (start, end)))
ends_of _ = None

-- The first and the last network of a range, whatever they are.
abbrev pub ends : Data → Option (ℕ × ℕ)
ends d = given (list d) ends_of

-- The index, from 0, of one of `count` things, at most 200, that the file counts from 1.
abbrev pub place : ℕ → Data → Option ℕ
place count d = given (number 1 200 d) (λ k. cond (nat_le k count) (Some (k - 1)) None)

-- The bytes of a text, if all of them are printable.
abbrev pub shown : List ℕ → Option (List ℕ)
shown s = cond (list_all is_printable s) (Some s) None

-- The bytes in hexadecimal digits in a table whose one key is hex.
abbrev pub in_digits : Data → Option (List ℕ)
in_digits d = given (entry (codes "hex" ∷ []) d) (at (codes "hex") hex)

-- The bytes of a text, if there is one, or else those in digits.
abbrev pub shown_or : Option (List ℕ) → Data → Option (List ℕ)
shown_or (Some s) d = shown s
shown_or None d = in_digits d

-- The bytes that a value says, as a text or in digits.
abbrev pub bytes : Data → Option (List ℕ)
bytes d = shown_or (as_str d) d

-- The name that bytes are, if they are one.
abbrev pub name_of : List ℕ → Option (List ℕ)
name_of s = cond (is_name s) (Some s) None

-- The name of a zone.
abbrev pub zone : Data → Option (List ℕ)
zone d = given (bytes d) name_of

-- The bytes are 1 to 32, and may be an object or a type.
abbrev pub is_object : List ℕ → Bool
is_object s = nat_le 1 (length s) && nat_le (length s) 32 && is_entity s

-- The object or the type that bytes are, if they are one.
abbrev pub object_of : List ℕ → Option (List ℕ)
object_of s = cond (is_object s) (Some s) None

-- The object or the type of a service's name.
abbrev pub object : Data → Option (List ℕ)
object d = given (bytes d) object_of

-- The state with this name.
abbrev pub state_named : List ℕ → Option State
state_named w =
    cond (same_bytes w (codes "Good")) (Some Good) (cond (same_bytes w (codes "Suspect")) (Some Suspect)
    (cond (same_bytes w (codes "Bad")) (Some Bad) (cond (same_bytes w (codes "Last")) (Some Last) None)))

-- The state of a row.
abbrev pub state : Data → Option State
state d = given (as_str d) state_named

-- Whether something holds.
abbrev pub flag : Data → Option Bool
flag d = as_bool d
