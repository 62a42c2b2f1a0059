-- Stations before the first tick have received nothing.
use Rattle.std.proofs.Common.{◌≡◌, ℕ, zero, suc, List, [], ◌∷◌, ◌++◌, Some, sym, ap, ◌∙◌}
use Rattle.std.proofs.Common.{subst, map, slice_get}
use Rattle.std.specs.List.{All}
use Rattle.std.proofs.lemmas.List.Elements.{All-nil}
use Rattle.end_node.specs.declared.node.Datagram.{Datagram as Received}
use Rattle.station.specs.declared.member.Member.{Member}
use Rattle.station.specs.declared.member.Member.TheVariants.{Router, Node}
use Rattle.internet_file.specs.Files.{Planned}
use Rattle.internet_file.specs.declared.cable.Cable.{Cable}
use Rattle.internet_file.specs.declared.node.Node.{Node as PlannedNode}
use Rattle.internet_file.specs.declared.router.Router.{Router as PlannedRouter}
use Rattle.live_node.specs.Living.{LivingNode}
use Rattle.live_router.specs.Living.{Living}
use Rattle.planned_stations.specs.Beginning.{AreBegun, AreNodesBegun, router_begun}
use Rattle.world.specs.Received.{AreReceived, got}
use Rattle.world.specs.Worlds.{IsReceived}

nodes_empty : (cables : List Cable) (ns : List PlannedNode) (ls : List LivingNode) → AreNodesBegun cables ns ls
    → (k : ℕ) (ds : List Received)
    → slice_get (map got (map Node ls)) k ≡ Some ds → ds ≡ []
nodes_empty cables [] [] h k ds at = cc
nodes_empty cables [] (l ∷ ls) h k ds at = elim h [ ]
nodes_empty cables (n ∷ ns) [] h k ds at = elim h [ ]
nodes_empty cables (n ∷ ns) (l ∷ ls) h zero ds at =
    let is : l.node.received ≡ ds = cc in sym is ∙ ap (λ (x : LivingNode). x.node.received) h.0.is
nodes_empty cables (n ∷ ns) (l ∷ ls) h (suc k) ds at = nodes_empty cables ns ls h.1 k ds at

all_empty : (cables : List Cable) (rs : List PlannedRouter) (ns : List PlannedNode) (ls : List LivingNode) → AreNodesBegun cables ns ls
    → (k : ℕ) (ds : List Received)
    → slice_get (map got (map (λ r. Router (router_begun cables r)) rs ++ map Node ls)) k ≡ Some ds → ds ≡ []
all_empty cables [] ns ls h k ds at = nodes_empty cables ns ls h k ds at
all_empty cables (r ∷ rs) ns ls h zero ds at = cc
all_empty cables (r ∷ rs) ns ls h (suc k) ds at = all_empty cables rs ns ls h k ds at

-- Stations before the first tick have received nothing.
pub begun_received : (p : Planned) (ms : List (Member Living LivingNode)) → AreBegun p ms → AreReceived [] (map got ms)
begun_received p ms h k ds at =
    let none =
    all_empty p.cables p.routers p.nodes h.nodes h.each k ds (sym (ap (λ l. slice_get (map got l) k) h.are) ∙ at) in
    subst (All (IsReceived [] k)) (sym none) (All-nil (IsReceived [] k))
