-- The meaning of the rule about nodes. (Inside AppleTalk, the chapters on RTMP and ZIP)
use Rattle.std.specs.Prelude.{◌≡◌, ℕ, true, Some, slice_get}
use Rattle.std.specs.List.{list_any}
use Rattle.at_base.specs.Text.{same_name}
use Rattle.at_base.specs.declared.address.Addr.{Addr}
use Rattle.audit.specs.Routing.{owner}
use Rattle.table_image.specs.Internet.{Internet}
use Rattle.table_image.specs.declared.cable.Cable.{Cable}
use Rattle.table_image.specs.declared.node.Node.{Node}

-- The node is served: its router, if it has one, is a router's port on its cable; and its cable has its zone, ignoring
-- case.
pub record IsServed (i : Internet) (node : Node) : Type 0 where
  pub router : (a : Addr) → node.router ≡ Some a → (r : ℕ) × (owner i node.cable a ≡ Some r)
  pub zone : (c : Cable) × (slice_get i.cables node.cable ≡ Some c) × (list_any (same_name node.zone) c.zones ≡ true)

-- Each node is served.
abbrev pub NodesAreServed : Internet → Type 0
NodesAreServed i = (k : ℕ) (node : Node) → slice_get i.nodes k ≡ Some node → IsServed i node
