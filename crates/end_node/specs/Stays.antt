-- Nodes with equal tables and addresses.
use Rattle.std.specs.Prelude.{◌≡◌}
use Rattle.aarp.specs.Choosing.{settled}
use Rattle.end_node.specs.Holding.{NodeHolding}

-- Two nodes have the same address, the same zone, the same router and the same names.
pub record NodeStays (old new : NodeHolding) : Type 0 where
  pub address : settled new.port ≡ settled old.port
  pub zone : new.zone ≡ old.zone
  pub router : new.router ≡ old.router
  pub names : new.names ≡ old.names
