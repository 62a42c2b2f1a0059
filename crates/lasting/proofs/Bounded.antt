-- An internet whose rows have moved, and whose nodes have other routers, is within the limits of an image as before.
use Rattle.std.proofs.Common.{◌≡◌, ℕ, ◌<◌, ◌≤◌, Bool, true, false, List, length}
use Rattle.std.proofs.Common.{refl, sym, ◌∙◌, subst, arith}
use Rattle.at_base.specs.Limits.{max_cables, max_lists, max_names, max_ports}
use Rattle.at_base.specs.Text.{IsName}
use Rattle.audit.proofs.WalkLists.{At, at_below, at_within}
use Rattle.lasting.specs.Resting.{IsSameNode}
use Rattle.settled.specs.Moved.{IsMoved, IsMovedRouter, IsMovedTo}
use Rattle.table_image.specs.Bounds.{AreMappings, AreRising, AreZones, Every, IsBounded, IsNodeName, IsNodeWithinLimits, IsRow, IsWithinLimits, Rises}
use Rattle.table_image.specs.Internet.{Internet}
use Rattle.table_image.specs.Rows.{is_direct}
use Rattle.table_image.specs.declared.cable.Cable.{Cable}
use Rattle.table_image.specs.declared.mapping.Mapping.{Mapping}
use Rattle.table_image.specs.declared.node.Node.{Node}
use Rattle.table_image.specs.declared.node.NodeName.{NodeName}
use Rattle.table_image.specs.declared.port.Port.{Port}
use Rattle.table_image.specs.declared.router.Router.{Router}
use Rattle.table_image.specs.declared.row.Row.{Row}
use Rattle.table_image.specs.declared.zone_list.ZoneList.{ZoneList}

module _ (i : Internet) (r cables : ℕ) (a b : Router) (m : IsMovedRouter i r a b) (w : IsWithinLimits cables a) where
  was : (k : ℕ) (row : Row) → At b.rows k row → (old : Row) × At a.rows k old × IsMoved i r a old row
  was k row e =
      let low = at_within b.rows k row e in
      let same = m.count in
      let old = at_below a.rows k (omega (arith, low, same)) in
      (old.0, old.1, m.rows k old.0 row old.1 e)

  rising : AreRising b.rows
  rising j k x y ex ey lt =
      let p = was j x ex in
      let q = was k y ey in
      let less = w.rising j k p.0 q.0 p.1 q.1 lt in
      let s = p.2.start in
      let t = q.2.start in
      omega (arith, less, s, t)

  row_within : (k : ℕ) (row : Row) → At b.rows k row → IsRow (length b.ports) row
  row_within k row e =
      let p = was k row e in
      let old = w.each_row k p.0 p.1 in
      let far = p.2.distance in
      let low = old.distance in
      record {
        distance = omega (arith, far, low);
        port = subst (λ (ps : List Port). row.port < length ps) m.ports (by (is_direct row) refl p.2 old.port);
      }
    where
      by : {before : Row} → (d : Bool) → is_direct row ≡ d → IsMoved i r a before row → before.port < length a.ports → row.port < length a.ports
      by true e v lt = subst (λ n. n < length a.ports) (v.stays (v.direct ∙ e)) lt
      by false e v lt = let g = v.leads e in at_within a.ports row.port g.port g.port_at

  router_within : IsWithinLimits cables b
  router_within = record {
    ports = subst (λ (ps : List Port). length ps ≤ max_ports) m.ports w.ports;
    rows = let same = m.count in let few = w.rows in omega (arith, same, few);
    lists = subst (λ (ls : List ZoneList). length ls ≤ max_lists) m.lists w.lists;
    rising = rising;
    lists_rising = subst (λ (ls : List ZoneList). Rises (λ (l : ZoneList). l.start) ls) m.lists w.lists_rising;
    each_port = subst (λ (ps : List Port). Every (λ (p : Port). p.cable < cables) ps) m.ports w.each_port;
    each_known =
        subst (λ (ps : List Port). Every (λ (p : Port). AreMappings p.mappings) ps) m.ports w.each_known;
    each_row = row_within;
    each_list =
        subst (λ (ls : List ZoneList). Every (λ (l : ZoneList). AreZones l.zones) ls) m.lists w.each_list;
  }

node_within : (cables : ℕ) (a b : Node) → IsSameNode a b → IsNodeWithinLimits cables a → IsNodeWithinLimits cables b
node_within cables a b s w = record {
  cable = subst (λ n. n < cables) (sym s.cable) w.cable;
  zone = subst (λ z. IsName z) (sym s.zone) w.zone;
  names = subst (λ (l : List NodeName). length l ≤ max_names) (sym s.names) w.names;
  rising = subst (λ l. Rises (λ name. name.enumerator) l) (sym s.names) w.rising;
  each_name = subst (λ l. Every IsNodeName l) (sym s.names) w.each_name;
  known = subst (λ (l : List Mapping). AreMappings l) (sym s.mappings) w.known;
}

-- it is within the limits
pub still_bounded : (i j : Internet) (nodes : List Node) → IsBounded i → IsMovedTo i j → length i.nodes ≡ length nodes
    → ((k : ℕ) (a b : Node) → At i.nodes k a → At nodes k b → IsSameNode a b)
    → IsBounded (record { version = j.version; cables = j.cables; routers = j.routers; nodes = nodes })
still_bounded i j nodes w m count same = record {
  cables = let few = w.cables in subst (λ (cs : List Cable). length cs ≤ max_cables) m.cables few;
  routers = let few = w.routers in let as_many = m.count in omega (arith, few, as_many);
  nodes = let few = w.nodes in omega (arith, few, count);
  each = λ r b eb.
      let low = at_within j.routers r b eb in
      let as_many = m.count in
      let a = at_below i.routers r (omega (arith, low, as_many)) in
      subst (λ (cs : List Cable). IsWithinLimits (length cs) b) m.cables
      (router_within i r (length i.cables) a.0 b (m.each r a.0 b a.1 eb) (w.each r a.0 a.1));
  each_cable = subst (λ cs. Every (λ cable. AreZones cable.zones) cs) m.cables w.each_cable;
  each_node = λ k b eb.
      let low = at_within nodes k b eb in
      let a = at_below i.nodes k (omega (arith, low, count)) in
      subst (λ (cs : List Cable). IsNodeWithinLimits (length cs) b) m.cables
      (node_within (length i.cables) a.0 b (same k a.0 b a.1 eb) (w.each_node k a.0 a.1));
}
