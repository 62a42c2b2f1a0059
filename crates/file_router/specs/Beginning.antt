-- One router of an internet file, before its first tick, over a capture.
use Rattle.std.specs.Prelude.{ℕ, ◌-◌, Bool, not, ◌==◌, List, [], ◌∷◌, None, map, if◌then◌else◌}
use Rattle.std.specs.List.{list_any}
use Rattle.cabled.specs.Steps.{Running, all_minded}
use Rattle.cabled.specs.declared.peers.Peers.{Peers}
use Rattle.file_router.specs.declared.given.Given.{Given}
use Rattle.internet_file.specs.Stations.{cable_at}
use Rattle.internet_file.specs.declared.cable.Cable.{Cable}
use Rattle.internet_file.specs.declared.port.Port.{Port}
use Rattle.internet_file.specs.declared.router.Router.{Router}
use Rattle.planned_stations.specs.Beginning.{port_begun, range_of, router_begun}
use Rattle.port.specs.Ports.{Ported}
use Rattle.routing.specs.Called.{cable_called, called_only}
use Rattle.routing.specs.Run.{Routed, at_first}
use Rattle.routing.specs.declared.cable.Cable.{Cable as PortCable}
use Rattle.routing.specs.declared.called.Called.{Called}

-- ---- Names of interfaces

-- what the cable of a port is called: by the first name that was given to it, and `cable K` without one
abbrev pub called_as : List Given → Port → Called
called_as [] p = cable_called p.cable
called_as (g ∷ gs) p = if p.cable == g.cable then called_only g.name else called_as gs p

-- the name is given to the cable of a port of the router
abbrev pub is_there : Router → Given → Bool
is_there r g = list_any (λ p. p.cable == g.cable) r.port

-- a name is given to a cable on which the router has no port
abbrev pub has_stray : Router → List Given → Bool
has_stray r names = list_any (λ g. not (is_there r g)) names

-- ---- The router

-- the cable of a port
abbrev pub cable_of : List Cable → Port → PortCable
cable_of cables p = record {
  index = p.cable - 1;
  start = (range_of (cable_at cables p.cable)).start;
  end = (range_of (cable_at cables p.cable)).end;
}

-- a port before it heard anything
abbrev pub port_first : Port → Ported
port_first p = record { hw = p.hardware; own = None; maps = record { known = []; held = [] } }

-- A router of a file before its first tick, by these rules towards the other stations: it has the addresses of the file to
-- choose from, no routes, and the zones of its cables.
abbrev pub router_first : Peers → List Cable → Router → Running
router_first peers cables r = record {
  living = record (router_begun cables r) {
    router = record (router_begun cables r).router { ports = all_minded peers (map (port_begun cables) r.port) };
  };
  ports = map port_first r.port;
  peers = peers;
}

-- the same, over a capture of which nothing was read
abbrev pub routing_first : Peers → List Cable → Router → List Given → Routed Running
routing_first peers cables r names = at_first (map (called_as names) r.port) (router_first peers cables r)
