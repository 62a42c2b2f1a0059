-- Which interfaces of a capture are the cables of a router's ports.
use Rattle.std.specs.Prelude.{ℕ, ◌+◌, Bool, false, ◌==◌, ◌||◌, List, [], ◌∷◌, ◌++◌, Option, Some, None, codes, length, nat_lt, slice_get}
use Rattle.std.specs.Prelude.{if◌then◌else◌}
use Rattle.std.specs.Fmt.{decimal}
use Rattle.std.specs.List.{starts_with}
use Rattle.at_base.specs.Text.{same_bytes}
use Rattle.pcapng.specs.Options.{Described}
use Rattle.pcapng.specs.Sections.{max_interfaces}
use Rattle.routing.specs.declared.called.Called.{Called}

-- a name goes on after these bytes, if it may
abbrev pub goes_on : Option (List ℕ) → List ℕ → Bool
goes_on None name = false
goes_on (Some front) name = starts_with (λ a b. a == b) name front

-- an interface with this name is the cable that is called so
abbrev pub is_called : Called → List ℕ → Bool
is_called c name = same_bytes name c.alone || goes_on c.front name

-- the cable with a number, as the captures of plays name it: `cable 3`, alone or before a comma
abbrev pub cable_called : ℕ → Called
cable_called k = record { alone = codes "cable " ++ decimal k; front = Some (codes "cable " ++ decimal k ++ codes ", ") }

-- a cable with a name of its own
abbrev pub called_only : List ℕ → Called
called_only name = record { alone = name; front = None }

-- the first of these cables with this name, which are numbered from k, if there is one
abbrev pub first_called : ℕ → List Called → List ℕ → Option ℕ
first_called k [] name = None
first_called k (c ∷ cs) name = if is_called c name then Some k else first_called (k + 1) cs name

-- the port of the first cable that is called like an interface, if it has a name
abbrev pub port_called : List Called → Option (List ℕ) → Option ℕ
port_called calls None = None
port_called calls (Some name) = first_called 0 calls name

-- the port whose cable an interface is, if it is an Ethernet and the cable of one
abbrev pub port_of : List Called → Described → Option ℕ
port_of calls d = if d.interface.ethernet then port_called calls d.name else None

-- the ports of a section's interfaces with one interface more; there are at most 256
abbrev pub with_port : List (Option ℕ) → Option ℕ → List (Option ℕ)
with_port ports p = if nat_lt (length ports) max_interfaces then ports ++ p ∷ [] else ports

-- the port of an interface that may be described
abbrev pub joined : Option (Option ℕ) → Option ℕ
joined None = None
joined (Some p) = p

-- the port whose cable the interface with this number is, if it is one
abbrev pub port_at : List (Option ℕ) → ℕ → Option ℕ
port_at ports index = joined (slice_get ports index)
