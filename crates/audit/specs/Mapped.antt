-- The meaning of the rule about mappings. (Inside AppleTalk, the chapter on AARP)
use Rattle.std.specs.Prelude.{◌≡◌, ℕ, Bool, ◌&&◌, ◌==◌, Some, slice_get}
use Rattle.at_base.specs.Address.{same_address}
use Rattle.audit.specs.Rules.{same_hardware}
use Rattle.table_image.specs.Internet.{Internet}
use Rattle.table_image.specs.Seats.{Seat, seats}
use Rattle.table_image.specs.declared.mapping.Mapping.{Mapping}
use Rattle.table_image.specs.declared.node.Node.{Node}
use Rattle.table_image.specs.declared.port.Port.{Port}
use Rattle.table_image.specs.declared.router.Router.{Router}

-- The mapping is that of one seat on the cable, which has its address and its hardware address. No other seat has that
-- address, on whatever cable, and no other one on the cable has that hardware address.
pub record IsMapped (i : Internet) (cable : ℕ) (m : Mapping) : Type 0 where
  pub index : ℕ
  pub seat : Seat
  pub at : slice_get (seats i) index ≡ Some seat
  pub here : seat.cable ≡ cable
  pub address : seat.address ≡ m.address
  pub hardware : seat.hardware ≡ m.hardware
  pub only_address : (k : ℕ) (s : Seat) → slice_get (seats i) k ≡ Some s → s.address ≡ m.address → k ≡ index
  pub only_hardware : (k : ℕ) (s : Seat) → slice_get (seats i) k ≡ Some s → s.cable ≡ cable → s.hardware ≡ m.hardware → k ≡ index

-- Each mapping of each port and of each node is that of one seat on its owner's cable.
pub record MappingsAreTrue (i : Internet) : Type 0 where
  pub ports : (r p k : ℕ) (router : Router) (port : Port) (m : Mapping) → slice_get i.routers r ≡ Some router
      → slice_get router.ports p ≡ Some port → slice_get port.mappings k ≡ Some m → IsMapped i port.cable m
  pub nodes : (n k : ℕ) (node : Node) (m : Mapping) → slice_get i.nodes n ≡ Some node → slice_get node.mappings k ≡ Some m
      → IsMapped i node.cable m

-- the port is on the cable, and has the address and the hardware address of the mapping
abbrev pub is_port : ℕ → Mapping → Port → Bool
is_port cable m p = p.cable == cable && same_address m.address p.address && same_hardware m.hardware p.hardware

-- the node is on the cable, and has the address and the hardware address of the mapping
abbrev pub is_node : ℕ → Mapping → Node → Bool
is_node cable m n = n.cable == cable && same_address m.address n.address && same_hardware m.hardware n.hardware
