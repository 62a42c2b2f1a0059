-- Ports, and their addresses. (Inside AppleTalk, the chapters on AARP and DDP)
use Rattle.std.specs.Prelude.{Bool, false, List, Option, Some, None}
use Rattle.std.specs.List.{list_all, list_any}
use Rattle.at_base.specs.Address.{same_address}
use Rattle.at_base.specs.declared.address.Addr.{Addr}
use Rattle.aarp.specs.Choosing.{Choice, begun, decided, is_on, settled}
use Rattle.station.specs.declared.port_plan.PortPlan.{PortPlan}

-- the choice of address that a planned port starts with
abbrev pub planned : PortPlan → Choice
planned p = by p.own
  where
    by : Option Addr → Choice
    by None = begun p.range p.tries.now p.hw
    by (Some own) = decided p.range own p.hw

-- the addresses of the plan are valid on its cable: those to try, or the one that the port has
abbrev pub is_planned : PortPlan → Bool
is_planned p = by p.own
  where
    by : Option Addr → Bool
    by None = list_all (is_on p.range) p.tries.now
    by (Some own) = is_on p.range own

-- the port has this address
abbrev pub has : Addr → Option Addr → Bool
has a None = false
has a (Some own) = same_address a own

-- one of the ports has this address
abbrev pub have : Addr → List Choice → Bool
have a ports = list_any (λ p. has a (settled p)) ports
