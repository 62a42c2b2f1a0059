-- The stations of a plan before its first tick.
use Rattle.std.specs.Prelude.{◌≡◌, ℕ, Bool, true, false, not, List, [], ◌∷◌, ◌++◌, Option, Some, None, fold, map}
use Rattle.std.specs.List.{list_all, list_any}
use Rattle.aarp.specs.Choosing.{Choice, begun}
use Rattle.at_base.specs.Range.{Span, overlaps}
use Rattle.atp.specs.Requesting.{known}
use Rattle.station.specs.declared.member.Member.{Member}
use Rattle.station.specs.declared.member.Member.TheVariants as member
use Rattle.internet_file.specs.Files.{Planned}
use Rattle.internet_file.specs.Stations.{cable_at}
use Rattle.internet_file.specs.declared.cable.Cable.{Cable}
use Rattle.internet_file.specs.declared.node.Node.{Node}
use Rattle.internet_file.specs.declared.port.Port.{Port}
use Rattle.internet_file.specs.declared.router.Router.{Router}
use Rattle.live_node.specs.Living.{LivingNode}
use Rattle.live_router.specs.Living.{Living}
use Rattle.zip_zones.specs.Zones.{Known, set_list, with_known}

-- ---- Routers

-- The range of a cable, and 0 to 0 if there is no cable.
abbrev pub range_of : Option Cable → Span
range_of None = record { start = 0; end = 0 }
range_of (Some c) = c.range

-- A port that hasn't chosen its address yet.
abbrev pub port_begun : List Cable → Port → Choice
port_begun cables p = begun (range_of (cable_at cables p.cable)) p.tries p.hardware

-- A zone table with the complete list of a cable, if the cable exists.
abbrev pub with_cable : List Known → Option Cable → List Known
with_cable table None = table
with_cable table (Some c) = with_known (set_list c.range c.zones) table

-- A zone table with the complete lists of the cables of ports.
abbrev pub with_cables : List Cable → List Known → List Port → List Known
with_cables cables table ports = fold (λ t p. with_cable t (cable_at cables p.cable)) table ports

-- A router before the first tick: it has no routes, and the complete zone lists of its ports' cables.
abbrev pub router_begun : List Cable → Router → Living
router_begun cables r = record {
  router = record {
    ports = map (port_begun cables) r.port;
    routes = [];
    zones = with_cables cables [] r.port;
    requests = [];
  };
  phase = 0;
}

-- ---- Nodes

-- A node before the first tick: it has its zone and its names, and no router; it has received nothing and sent no
-- requests.
pub record IsNodeBegun (cables : List Cable) (n : Node) (l : LivingNode) : Type 0 where
  pub is : l ≡ record {
    node = record {
      port = begun (range_of (cable_at cables n.cable)) n.tries n.hardware;
      zone = n.zone;
      router = None;
      names = n.name;
      received = [];
      asks = l.node.asks;
    };
    silence = 0;
    asked = 0;
    wait = 0;
    answered = false;
  }
  pub none : (id : ℕ) → known id l.node.asks.slots ≡ None
  pub first : l.node.asks.next ≡ 1

-- The nodes of the plan before the first tick, in order.
abbrev pub AreNodesBegun : List Cable → List Node → List LivingNode → Type 0
AreNodesBegun cables [] [] = Unit {0}
AreNodesBegun cables (n ∷ ns) (l ∷ ls) = IsNodeBegun cables n l × AreNodesBegun cables ns ls
AreNodesBegun cables [] (l ∷ ls) = ⊥
AreNodesBegun cables (n ∷ ns) [] = ⊥

-- ---- All stations

-- The stations of a plan before the first tick: its routers, then its nodes, in order.
pub record AreBegun (p : Planned) (stations : List (Member Living LivingNode)) : Type 0 where
  pub nodes : List LivingNode
  pub are : stations ≡ map (λ r. member.Router (router_begun p.cables r)) p.routers ++ map member.Node nodes
  pub each : AreNodesBegun p.cables p.nodes nodes

-- ---- Lists that a table accepts

-- No list of the table is for a network of the cable.
abbrev pub is_free : List Known → Option Cable → Bool
is_free table None = true
is_free table (Some c) = not (list_any (λ k. overlaps k.range c.range) table)

-- No list of the table is for a network of the cables of these ports.
abbrev pub are_free : List Cable → List Known → List Port → Bool
are_free cables table ports = list_all (λ p. is_free table (cable_at cables p.cable)) ports
