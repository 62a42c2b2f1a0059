-- The effect of one step of a tick on a station, and of an action on its node.
use Rattle.std.specs.Prelude.{◌≡◌, ℕ, zero, suc, ◌+◌, ◌-◌, ◌%◌, false, List, [], ◌∷◌, ◌++◌, Option, Some, None, Result}
use Rattle.std.specs.Prelude.{Ok, Err, length, min, slice_get, slice_set}
use Rattle.at_base.specs.ErrorNumber.{number_of}
use Rattle.at_base.specs.declared.address.Addr.{Addr}
use Rattle.at_base.specs.declared.error.Error.{Error}
use Rattle.end_node.specs.Asking.{asked_by, asking, request_bytes, zone_asked}
use Rattle.end_node.specs.Sending.{header_to, sending}
use Rattle.station.specs.declared.member.Member.{Member}
use Rattle.station.specs.declared.member.Member.TheVariants.{Router, Node}
use Rattle.internet_file.specs.Files.{Planned}
use Rattle.internet_file.specs.declared.action.Action.{Action}
use Rattle.internet_file.specs.declared.action.Do.{Do}
use Rattle.internet_file.specs.declared.action.Do.TheVariants.{Send, Lookup}
use Rattle.live_cables.specs.Living.{GivesOut, Wires}
use Rattle.live_node.specs.Living.{LivingNode}
use Rattle.live_router.specs.Living.{Living}
use Rattle.router.specs.Holding.{own_at as address_at}
use Rattle.rtmp.specs.Routes.{poisoned}
use Rattle.aarp.specs.Choosing.{settled}
use Rattle.station.specs.Making.{made}
use Rattle.station.specs.declared.way.Way.{Way}
use Rattle.station.specs.declared.output.Output.{Output}

-- The settled address of a station's port.
abbrev pub own_in : Member Living LivingNode → ℕ → Option Addr
own_in (Router l) port = address_at l.router.ports port
own_in (Node n) port = settled n.node.port

-- The addresses of seats after those of a station's first n ports, whose seats start at index `seat`, were set to the
-- station's settled addresses.
abbrev pub settled_own : Member Living LivingNode → ℕ → ℕ → List (Option Addr) → List (Option Addr)
settled_own m seat zero own = own
settled_own m seat (suc port) own = slice_set (settled_own m seat port own) (seat + port) (own_in m port)

-- The station after AARP gave up on an address: a router poisons the rows through it, and a node stays the same.
abbrev pub given_up : Member Living LivingNode → Addr → Member Living LivingNode
given_up (Router l) a = Router (record l { router = record l.router { routes = poisoned a l.router.routes } })
given_up (Node n) a = Node n

-- The only output, sent by this way, or the error if there is no way.
abbrev pub put_by : (Way → List ℕ) → Result Way Error → Result (List Output) Error
put_by data_by (Ok way) = Ok (made way (data_by way) ∷ [])
put_by data_by (Err e) = Err e

-- The outputs of a node that carries out an operation, or the error of the operation.
abbrev pub acted : LivingNode → Do → Result (List Output) Error
acted n (Send to socket source kind hex) = put_by (λ way. hex) (sending n.node (header_to to socket source kind false) (length hex))
acted n (Lookup id object kind zone) =
    put_by (λ way. request_bytes (id % 256) (asked_by way.header.source object kind (zone_asked n.node zone))) (asking n.node)

-- The outputs of a station that carries out an operation, or the error of the operation; a router does nothing.
abbrev pub acted_by : Member Living LivingNode → Do → Result (List Output) Error
acted_by (Node n) action = acted n action
acted_by (Router l) action = Ok []

-- The station of an action's node.
abbrev pub station_for : Planned → Action → ℕ
station_for plan action = length plan.routers + (action.node - 1)

-- The number of an action, from 1, by its index from 0; at most 4294967295.
abbrev pub number_from : ℕ → ℕ
number_from index = min (index + 1) 4294967295

-- A station carried out an operation and its outputs were sent; or the operation has an error, which is recorded with
-- the action's number.
abbrev pub IsDoneBy : Member Living LivingNode → ℕ → Do → ℕ → Wires × List (ℕ × ℕ) → Wires × List (ℕ × ℕ) → Type 0
IsDoneBy m station action index old new = by (acted_by m action)
  where
    by : Result (List Output) Error → Type 0
    by (Ok outputs) = GivesOut station outputs old.0 new.0 × (new.1 ≡ old.1)
    by (Err e) = (new.0 ≡ old.0) × (new.1 ≡ old.1 ++ (number_from index, number_of e) ∷ [])

-- The action with this index was carried out by its node; nothing changed if there is no such action or node.
abbrev pub IsDone : Planned → List (Member Living LivingNode) → ℕ → Wires × List (ℕ × ℕ) → Wires × List (ℕ × ℕ) → Type 0
IsDone plan stations index old new = of (slice_get plan.actions index)
  where
    by : Action → Option (Member Living LivingNode) → Type 0
    by action None = (new.0 ≡ old.0) × (new.1 ≡ old.1)
    by action (Some m) = IsDoneBy m (station_for plan action) action.action index old new

    of : Option Action → Type 0
    of None = (new.0 ≡ old.0) × (new.1 ≡ old.1)
    of (Some action) = by action (slice_get stations (station_for plan action))
