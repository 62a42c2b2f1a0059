-- A port on a cable: what it is called there, and what it knows of the other stations. (Inside AppleTalk, the chapter on AARP)
use Rattle.std.specs.Prelude.{ℕ, Bool, false, not, List, [], map, filter, Option, Some, None, if◌then◌else◌}
use Rattle.std.specs.Option.{unwrap_or}
use Rattle.std.specs.List.{list_any}
use Rattle.aarp.specs.Choosing.{nobody}
use Rattle.aarp.specs.Mapping.{Mappings, is_for, mapping_of}
use Rattle.aarp.specs.declared.held.Held.{Held}
use Rattle.aarp.specs.declared.packet.Function.TheVariants.{Request}
use Rattle.aarp.specs.declared.packet.Packet.{Packet}
use Rattle.at_base.specs.Address.{same_address}
use Rattle.at_base.specs.declared.address.Addr.{Addr}
use Rattle.at_base.specs.declared.address.Hw.{Hw}

-- A port: its hardware address, its settled address, if it has one, and its mappings with the datagrams that it holds.
pub record Ported : Type 0 where
  pub hw : Hw
  pub own : Option Addr
  pub maps : Mappings

-- the address is the port's settled one
abbrev pub is_own : Option Addr → Addr → Bool
is_own None a = false
is_own (Some own) a = same_address own a

-- the hardware address of an address, as far as the port knows it: its own for its settled address, and otherwise by its
-- mappings
abbrev pub found : Ported → Addr → Option Hw
found p a = if is_own p.own a then Some p.hw else mapping_of a p.maps.known

-- a port without a settled address asks from address 0.0
abbrev pub asking : Option Addr → Addr
asking own = unwrap_or own (record { net = 0; node = 0 })

-- the AARP request of a port for the hardware address of an address
abbrev pub request : Ported → Addr → Packet
request p a = record { function = Request; source_hw = p.hw; source = asking p.own; target_hw = nobody; target = a }

-- a datagram for a station on the cable, which nobody was asked for yet
abbrev pub waiting : Addr → List ℕ → Held
waiting next bytes = record { next = next; asked = 1; stamp = None; bytes = bytes }

-- no datagram is held for the address
abbrev pub is_first : Ported → Addr → Bool
is_first p a = not (list_any (is_for a) p.maps.held)
