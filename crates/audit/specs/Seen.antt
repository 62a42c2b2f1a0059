-- The addresses that a filter has seen.
use Rattle.std.specs.Prelude.{◌≡◌, ℕ, ◌+◌, ◌*◌, ◌%◌, ◌<◌, ◌||◌, Bool, true, false, List, Some, slice_get, slice_index, slice_index_or}
use Rattle.at_base.specs.declared.address.Addr.{Addr}
use Rattle.at_base.specs.declared.address.Hw.{Hw}
use Rattle.table_image.specs.declared.port.Port.{Port}
use Rattle.table_image.specs.declared.router.Router.{Router}
use Rattle.audit.specs.declared.seen.Seen.{Seen}

-- the index of the mark of an address
abbrev pub address_slot : Addr → ℕ
address_slot a = (a.net + 256 * a.node) % 65536

-- the index of the mark of a hardware address
abbrev pub hardware_slot : Hw → ℕ
hardware_slot h = slice_index h.0 5 + 256 * slice_index h.0 4

-- the address or the hardware address has a mark
abbrev pub may_have : Seen → Addr → Hw → Bool
may_have seen a h = slice_index_or seen.addresses (address_slot a) false || slice_index_or seen.hardware (hardware_slot h) false

-- the filter has seen no address and no hardware address
abbrev pub HasSeenNothing : Seen → Type 0
HasSeenNothing seen = (a : Addr) (h : Hw) → may_have seen a h ≡ false

-- the filter has seen both addresses
pub record HasSeen (seen : Seen) (a : Addr) (h : Hw) : Type 0 where
  pub address : slice_index_or seen.addresses (address_slot a) false ≡ true
  pub hardware : slice_index_or seen.hardware (hardware_slot h) false ≡ true

-- the filter has seen both addresses of each port
abbrev pub HasSeenPorts : Seen → List Port → Type 0
HasSeenPorts seen ports = (p : ℕ) (port : Port) → slice_get ports p ≡ Some port → HasSeen seen port.address port.hardware

-- the filter has seen both addresses of each port of the routers below n
abbrev pub HasSeenBelow : Seen → List Router → ℕ → Type 0
HasSeenBelow seen routers n = (s : ℕ) → s < n → (router : Router) → slice_get routers s ≡ Some router → HasSeenPorts seen router.ports

-- the new filter has seen all that the old one has seen
abbrev pub SeesMore : Seen → Seen → Type 0
SeesMore old new = (a : Addr) (h : Hw) → HasSeen old a h → HasSeen new a h
