-- A router before its first tick.
use Rattle.std.proofs.Common.{◌≡◌, ◌∙◌, List, [], ◌∷◌, None, Result, Ok, Err, IfOk, ap, map, refl, sym}
use Rattle.aarp.specs.Choosing.{Choice}
use Rattle.at_base.specs.declared.address.Hw.{Hw}
use Rattle.at_base.specs.declared.error.Error.{Error}
use Rattle.cabled.specs.Steps.{Running, all_minded, begun, first_port}
use Rattle.cabled.specs.declared.peers.Peers.{Peers}
use Rattle.file_router.specs.Beginning.{port_first, router_first}
use Rattle.internet_file.specs.declared.cable.Cable.{Cable}
use Rattle.internet_file.specs.declared.port.Port.{Port}
use Rattle.internet_file.specs.declared.router.Router.{Router}
use Rattle.planned_stations.specs.Beginning.{port_begun, with_cables}
use Rattle.port.specs.Ports.{Ported}
use Rattle.station.specs.Ports.{planned}
use Rattle.station.specs.declared.port_plan.PortPlan.{PortPlan}
use Rattle.zip_zones.specs.Zones.{Known}

-- a port with a hardware address before it heard anything
abbrev unheard : Hw → Ported
unheard hw = record { hw = hw; own = None; maps = record { known = []; held = [] } }

by_plans : (plans : List PortPlan) → map first_port plans ≡ map unheard (map (λ p. p.hw) plans)
by_plans [] = refl
by_plans (p ∷ ps) = ap (λ (l : List Ported). first_port p ∷ l) (by_plans ps)

by_ports : (ports : List Port) → map unheard (map (λ p. p.hardware) ports) ≡ map port_first ports
by_ports [] = refl
by_ports (p ∷ ps) = ap (λ (l : List Ported). port_first p ∷ l) (by_ports ps)

-- ports with the hardware addresses of the file's
firsts : (plans : List PortPlan) (ports : List Port) → map (λ p. p.hw) plans ≡ map (λ p. p.hardware) ports
    → map first_port plans ≡ map port_first ports
firsts plans ports same = by_plans plans ∙ ap (map unheard) same ∙ by_ports ports

-- a router with these choices, ports and zones
abbrev made : Peers → List Choice → List Ported → List Known → Running
made peers choices ports zones = record {
  living = record { router = record { ports = choices; routes = []; zones = zones; requests = [] }; phase = 0 };
  ports = ports;
  peers = peers;
}

-- the plans of a file's router make that router
pub begun_is : (peers : Peers) (cables : List Cable) (r : Router) (plans : List PortPlan) (zones : List Known)
    → map planned plans ≡ map (port_begun cables) r.port → map (λ p. p.hw) plans ≡ map (λ p. p.hardware) r.port → zones ≡ with_cables cables [] r.port
    → begun peers plans zones ≡ router_first peers cables r
begun_is peers cables r plans zones choices hardware known =
    ap (λ (cs : List Choice). made peers cs (map first_port plans) zones) (ap (all_minded peers) choices)
    ∙ ap (λ (ps : List Ported). made peers (all_minded peers (map (port_begun cables) r.port)) ps zones) (firsts plans r.port hardware)
    ∙ ap (λ (z : List Known). made peers (all_minded peers (map (port_begun cables) r.port)) (map port_first r.port) z) known

-- the same of cables and ports as they were read
pub begun_from : (peers : Peers) (cables read : List Cable) (r : Router) (ports : List Port) (plans : List PortPlan) (zones : List Known)
    → read ≡ cables → ports ≡ r.port → map planned plans ≡ map (port_begun read) ports → map (λ p. p.hw) plans ≡ map (λ p. p.hardware) ports
    → zones ≡ with_cables read [] r.port → begun peers plans zones ≡ router_first peers cables r
begun_from peers cables read r ports plans zones same there choices hardware known =
    begun_is peers cables r plans zones
    (choices ∙ ap (λ (ps : List Port). map (port_begun read) ps) there ∙ ap (λ (cs : List Cable). map (port_begun cs) r.port) same)
    (hardware ∙ ap (λ (ps : List Port). map (λ p. p.hardware) ps) there) (known ∙ ap (λ (cs : List Cable). with_cables cs [] r.port) same)

-- what was made is this, if it was
pub made_as : (r : Result Running Error) (x y : Running) → x ≡ y → IfOk r (λ a. a ≡ x) → IfOk r (λ a. a ≡ y)
made_as (Ok a) x y same is = is ∙ same
made_as (Err e) x y same is = tt
