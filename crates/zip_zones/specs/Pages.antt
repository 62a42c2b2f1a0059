-- Pages of zone lists: as many names as fit into a packet. (Inside AppleTalk, the chapter on ZIP)
use Rattle.std.specs.Prelude.{ℕ, ◌+◌, ◌-◌, ◌==◌, List, [], ◌∷◌, ◌++◌, length, drop, nat_le, if◌then◌else◌}
use Rattle.zip_zones.specs.declared.page.Page.{Page}

-- a length-prefixed name
abbrev pub name_bytes : List ℕ → List ℕ
name_bytes name = length name ∷ name

-- names, each length-prefixed
abbrev pub names_bytes : List (List ℕ) → List ℕ
names_bytes [] = []
names_bytes (name ∷ names) = name_bytes name ++ names_bytes names

-- the names at the front that fit into room bytes
abbrev pub fitting : ℕ → List (List ℕ) → List (List ℕ)
fitting room [] = []
fitting room (name ∷ names) = if nat_le (length name + 1) room then name ∷ fitting (room - (length name + 1)) names else []

-- the names from an index on, where both 0 and 1 mean the first name
abbrev pub from_index : ℕ → List (List ℕ) → List (List ℕ)
from_index start names = drop (start - 1) names

-- the page with the names shown, which are a front of names
abbrev pub page_of : List (List ℕ) → List (List ℕ) → Page
page_of shown names = record { last = length shown == length names; count = length shown; bytes = names_bytes shown }

-- the page that begins with the name at an index: as many names as fit into the 578 bytes of a response
abbrev pub page : ℕ → List (List ℕ) → Page
page start names = page_of (fitting 578 (from_index start names)) (from_index start names)
