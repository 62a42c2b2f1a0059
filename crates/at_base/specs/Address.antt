-- Network addresses. (Inside AppleTalk, the chapter on DDP)
use Rattle.std.specs.Prelude.{ℕ, ◌+◌, ◌*◌, Bool, ◌==◌, ◌&&◌}
use Rattle.at_base.specs.declared.address.Addr.{Addr}

-- the addresses are equal
abbrev pub same_address : Addr → Addr → Bool
same_address a b = a.net == b.net && a.node == b.node

-- the place of an address in the order of addresses: by the network, then by the node
abbrev pub address_number : Addr → ℕ
address_number a = a.net * 256 + a.node

-- the address is 0.0, which no station has
abbrev pub is_none : Addr → Bool
is_none a = a.net == 0 && a.node == 0
