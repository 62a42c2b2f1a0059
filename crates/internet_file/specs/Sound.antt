-- Properties of each plan.
use Rattle.std.specs.Prelude.{ℕ, ◌≤◌, Bool, false, ◌&&◌, IsTrue, List, Option, Some, None, length}
use Rattle.std.specs.List.{list_all}
use Rattle.at_base.specs.Range.{Span, is_between, is_range}
use Rattle.at_base.specs.declared.address.Addr.{Addr}
use Rattle.internet_file.specs.Files.{Planned}
use Rattle.internet_file.specs.Stations.{are_apart, cable_at}
use Rattle.internet_file.specs.declared.action.Action.{Action}
use Rattle.internet_file.specs.declared.cable.Cable.{Cable}
use Rattle.internet_file.specs.declared.loss.Loss.{Loss}
use Rattle.internet_file.specs.declared.node.Node.{Node}
use Rattle.internet_file.specs.declared.port.Port.{Port}
use Rattle.internet_file.specs.declared.router.Router.{Router}
use Rattle.at_base.specs.Limits.{max_cables, max_nodes, max_ports, max_routers, max_zones}

-- The range is valid, and there are 1 to 255 zones.
abbrev pub is_cable : Cable → Bool
is_cable c = is_range c.range.start c.range.end && is_between 1 max_zones (length c.zones)

-- A station on a cable with this range may try the address.
abbrev pub may_try : Span → Addr → Bool
may_try range a = is_between range.start range.end a.net && is_between 1 253 a.node

-- The cable exists, and its stations may try each of the addresses.
abbrev pub may_try_on : Option Cable → List Addr → Bool
may_try_on None tries = false
may_try_on (Some c) tries = list_all (may_try c.range) tries

-- The cable with this number exists, and its stations may try each of these addresses.
abbrev pub is_seated : List Cable → ℕ → List Addr → Bool
is_seated cables k tries = is_between 1 (length cables) k && may_try_on (cable_at cables k) tries

-- The router's port is on a cable that exists, and may try its addresses.
abbrev pub is_port : List Cable → Port → Bool
is_port cables p = is_seated cables p.cable p.tries

-- The router has 1 to 16 valid ports, no two of them on cables that have a network in common.
abbrev pub is_router : List Cable → Router → Bool
is_router cables r =
    is_between 1 max_ports (length r.port) && list_all (is_port cables) r.port && are_apart cables r.port

-- The node is on a cable that exists, and may try its addresses.
abbrev pub is_node : List Cable → Node → Bool
is_node cables n = is_seated cables n.cable n.tries

-- The cable of the loss exists.
abbrev pub is_loss : List Cable → Loss → Bool
is_loss cables l = is_between 1 (length cables) l.cable

-- The node of the action exists.
abbrev pub is_action : List Node → Action → Bool
is_action nodes a = is_between 1 (length nodes) a.node

-- The invariant of a plan: its limits, and that its parts are consistent.
pub record IsSound (p : Planned) : Type 0 where
  pub few_cables : length p.cables ≤ max_cables
  pub few_routers : length p.routers ≤ max_routers
  pub few_nodes : length p.nodes ≤ max_nodes
  pub cables : IsTrue (list_all is_cable p.cables)
  pub routers : IsTrue (list_all (is_router p.cables) p.routers)
  pub nodes : IsTrue (list_all (is_node p.cables) p.nodes)
  pub losses : IsTrue (list_all (is_loss p.cables) p.losses)
  pub actions : IsTrue (list_all (is_action p.nodes) p.actions)
