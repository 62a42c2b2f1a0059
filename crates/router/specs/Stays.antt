-- Routers with equal tables and addresses.
use Rattle.std.specs.Prelude.{◌≡◌, ℕ}
use Rattle.router.specs.Holding.{Holding, own_at}

-- Two routers have the same routing table, the same zone table, and the same address on each port.
pub record TablesStay (old new : Holding) : Type 0 where
  pub routes : new.routes ≡ old.routes
  pub zones : new.zones ≡ old.zones
  pub addresses : (q : ℕ) → own_at new.ports q ≡ own_at old.ports q
