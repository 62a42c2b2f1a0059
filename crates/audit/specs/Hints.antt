-- Hints for the search of a router that has a port with a node number on a cable.
use Rattle.std.specs.Prelude.{◌≡◌, ℕ, ◌+◌, ◌*◌, ◌<◌, ◌==◌, ◌⊎◌, Bool, true, List, Some, slice_get, slice_index_or}
use Rattle.std.specs.List.{list_any}
use Rattle.audit.specs.Places.{on}
use Rattle.table_image.specs.declared.port.Port.{Port}
use Rattle.table_image.specs.declared.router.Router.{Router}
use Rattle.audit.specs.declared.next.Hints.{Hints}

-- the index of the hint for a node number on a cable
abbrev pub hint_slot : ℕ → ℕ → ℕ
hint_slot cable node = cable * 256 + node

-- the index of the hint for a port
abbrev pub port_slot : Port → ℕ
port_slot port = hint_slot port.cable port.address.node

-- the router that the hint at an index names
abbrev pub hint_at : Hints → ℕ → ℕ
hint_at hints slot = slice_index_or hints.routers slot 0

-- the hint for each of the ports names router s
abbrev pub Names : Hints → ℕ → List Port → Type 0
Names hints s ports = (p : ℕ) (port : Port) → slice_get ports p ≡ Some port → hint_at hints (port_slot port) ≡ s

-- a hint is unchanged, or it names router s and is that of one of the ports
abbrev pub FirstOr : Hints → Hints → ℕ → List Port → ℕ → Type 0
FirstOr hints first s ports slot =
    (hint_at hints slot ≡ hint_at first slot) ⊎ ((hint_at hints slot ≡ s) × (list_any (λ p. port_slot p == slot) ports ≡ true))

-- the router has a port whose hint has this index
abbrev pub has_slot : ℕ → Router → Bool
has_slot slot router = list_any (λ p. port_slot p == slot) router.ports

-- the hint names a router that has a port with this hint
abbrev pub IsHint : Hints → List Router → ℕ → Type 0
IsHint hints routers slot = on (slice_get routers (hint_at hints slot)) (has_slot slot) ≡ true

-- the hint for each port of the routers below n names a router that has a port with this hint
abbrev pub HasHintsBelow : Hints → List Router → ℕ → Type 0
HasHintsBelow hints routers n =
    (s : ℕ) → s < n → (router : Router) → slice_get routers s ≡ Some router → (p : ℕ) (port : Port) → slice_get router.ports p ≡ Some port
    → IsHint hints routers (port_slot port)
