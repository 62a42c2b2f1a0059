-- An internet is within the limits of an image without its mappings where it is with them, and with them where they are, too.
use Rattle.std.proofs.Common.{ℕ, ◌≤◌, ◌<◌, List, [], length, sym, ap, subst, arith}
use Rattle.std.proofs.lemmas.List.{length-map}
use Rattle.at_base.specs.Limits.{max_nodes, max_ports, max_routers}
use Rattle.audit.proofs.WalkLists.{At, at_map}
use Rattle.lasting.proofs.Images.{mapped}
use Rattle.lasting.proofs.Mapless.{mapless, node_alone, port_alone, router_alone}
use Rattle.table_image.specs.Bounds.{AreMappings, Every, IsBounded, IsNodeWithinLimits, IsRow, IsWithinLimits}
use Rattle.table_image.specs.Internet.{Internet}
use Rattle.table_image.specs.declared.mapping.Mapping.{Mapping}
use Rattle.table_image.specs.declared.node.Node.{Node}
use Rattle.table_image.specs.declared.port.Port.{Port}
use Rattle.table_image.specs.declared.router.Router.{Router}

-- no mappings are within the limits
none_known : AreMappings []
none_known = record { few = omega arith; rising = λ j k a b ea eb lt. absurd (let f = ea in cc) }

-- a router is within the limits without its mappings
router_less : (cables : ℕ) (r : Router) → IsWithinLimits cables r → IsWithinLimits cables (router_alone r)
router_less cables r w = record {
  ports = subst (λ n. n ≤ max_ports) (sym (length-map r.ports port_alone)) w.ports;
  rows = w.rows;
  lists = w.lists;
  rising = w.rising;
  lists_rising = w.lists_rising;
  each_port = λ k p e.
      let h = at_map port_alone r.ports k p e in
      subst (λ n. n < cables) (sym (ap (λ (q : Port). q.cable) h.2)) (w.each_port k h.0 h.1);
  each_known = λ k p e.
      let h = at_map port_alone r.ports k p e in
      subst (λ (l : List Mapping). AreMappings l) (sym (ap (λ (q : Port). q.mappings) h.2)) none_known;
  each_row = λ k row e. subst (λ n. IsRow n row) (sym (length-map r.ports port_alone)) (w.each_row k row e);
  each_list = w.each_list;
}

-- and with them
router_more : (cables : ℕ) (r : Router) → Every (λ (p : Port). AreMappings p.mappings) r.ports → IsWithinLimits cables (router_alone r)
    → IsWithinLimits cables r
router_more cables r known w = record {
  ports = subst (λ n. n ≤ max_ports) (length-map r.ports port_alone) w.ports;
  rows = w.rows;
  lists = w.lists;
  rising = w.rising;
  lists_rising = w.lists_rising;
  each_port = λ k p e. w.each_port k (port_alone p) (mapped port_alone r.ports k p e);
  each_known = known;
  each_row = λ k row e. subst (λ n. IsRow n row) (length-map r.ports port_alone) (w.each_row k row e);
  each_list = w.each_list;
}

-- so is a node
node_less : (cables : ℕ) (n : Node) → IsNodeWithinLimits cables n → IsNodeWithinLimits cables (node_alone n)
node_less cables n w = record {
  cable = w.cable;
  zone = w.zone;
  names = w.names;
  rising = w.rising;
  each_name = w.each_name;
  known = none_known;
}

-- and a node with them
node_more : (cables : ℕ) (n : Node) → AreMappings n.mappings → IsNodeWithinLimits cables (node_alone n) → IsNodeWithinLimits cables n
node_more cables n known w = record {
  cable = w.cable;
  zone = w.zone;
  names = w.names;
  rising = w.rising;
  each_name = w.each_name;
  known = known;
}

-- the internet is within the limits without its mappings
pub bounded_alone : (i : Internet) → IsBounded i → IsBounded (mapless i)
bounded_alone i b = record {
  cables = b.cables;
  routers = subst (λ n. n ≤ max_routers) (sym (length-map i.routers router_alone)) b.routers;
  nodes = subst (λ n. n ≤ max_nodes) (sym (length-map i.nodes node_alone)) b.nodes;
  each = λ r router e.
      let h = at_map router_alone i.routers r router e in
      subst (λ (x : Router). IsWithinLimits (length i.cables) x) (sym h.2) (router_less (length i.cables) h.0 (b.each r h.0 h.1));
  each_cable = b.each_cable;
  each_node = λ k node e.
      let h = at_map node_alone i.nodes k node e in
      subst (λ (x : Node). IsNodeWithinLimits (length i.cables) x) (sym h.2) (node_less (length i.cables) h.0 (b.each_node k h.0 h.1));
}

-- and with them, if these are
pub bounded_with : (i : Internet) → IsBounded (mapless i)
    → ((r p : ℕ) (router : Router) (port : Port) → At i.routers r router → At router.ports p port → AreMappings port.mappings)
    → ((k : ℕ) (node : Node) → At i.nodes k node → AreMappings node.mappings) → IsBounded i
bounded_with i b ports nodes = record {
  cables = b.cables;
  routers = subst (λ n. n ≤ max_routers) (length-map i.routers router_alone) b.routers;
  nodes = subst (λ n. n ≤ max_nodes) (length-map i.nodes node_alone) b.nodes;
  each = λ r router e.
      router_more (length i.cables) router (λ p port ep. ports r p router port e ep)
      (b.each r (router_alone router) (mapped router_alone i.routers r router e));
  each_cable = b.each_cable;
  each_node = λ k node e.
      node_more (length i.cables) node (nodes k node e) (b.each_node k (node_alone node) (mapped node_alone i.nodes k node e));
}
