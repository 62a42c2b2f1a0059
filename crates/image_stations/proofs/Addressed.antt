-- Each station of an internet that passes the audit may have its address on its cable.
use Rattle.std.proofs.Common.{◌≡◌, ℕ, suc, ◌<◌, ◌≤◌, ◌==◌, true, false, not, ◌||◌, take, Option, Some, None, refl, sym, ap, ◌∙◌, arith}
use Rattle.std.proofs.Common.{slice_get, slice_index, nat_lt}
use Rattle.std.specs.Prelude.{◌%◌}
use Rattle.std.specs.List.{list_all, list_any}
use Rattle.std.proofs.lemmas.Bool.{or_parts}
use Rattle.std.proofs.lemmas.Bool.Decides.{nat_tests}
use Rattle.at_base.specs.Range.{is_between, is_range}
use Rattle.at_base.specs.declared.address.Addr.{Addr}
use Rattle.at_base.specs.declared.address.Hw.{Hw}
use Rattle.at_base.specs.declared.error.Place.TheVariants as place
use Rattle.audit.specs.Places.{on}
use Rattle.audit.specs.Rules.{Passes, bad_address, bad_node, bad_port, node_has, router_has}
use Rattle.audit.proofs.WalkLists.{At}
use Rattle.audit.proofs.WalkSteps.{cable_good}
use Rattle.image_stations.specs.Plans.{holds, is_port_seated, is_seated}
use Rattle.image_stations.proofs.Each.{all_when}
use Rattle.table_image.specs.Internet.{Internet}
use Rattle.table_image.specs.declared.cable.Cable.{Cable}
use Rattle.table_image.specs.declared.node.Node.{Node}
use Rattle.table_image.specs.declared.port.Port.{Port}
use Rattle.table_image.specs.declared.router.Router.{Router}

pub is_range_when : (start end : ℕ) → 0 < start → start ≤ end → end ≤ 0xFEFF → is_range start end ≡ true
is_range_when start end low up high = grind (arith, nat_tests)

-- The range of a cable is valid.
valid : (i : Internet) (k : ℕ) (c : Cable) → Passes i → At i.cables k c → is_range c.start c.end ≡ true
valid i k c ok at = let g = cable_good i ok k c at in is_range_when c.start c.end g.low g.up g.high

-- An address that the audit accepts may be used on its cable.
seated : (i : Internet) (cable : ℕ) (a : Addr) (h : Hw) → Passes i → bad_address i cable a h ≡ false → is_seated i.cables cable a ≡ true
seated i cable a h ok e = by (slice_get i.cables cable) refl (or_parts _ (slice_index h.0 0 % 2 == 1) e).0
  where
    by : (o : Option Cable) → slice_get i.cables cable ≡ o
        → (not (on o (λ c. is_between c.start c.end a.net)) || a.node == 0 || nat_lt 253 a.node) ≡ false → on o (holds a) ≡ true
    by None at e = cc
    by (Some c) at e = let v = valid i cable c ok at in grind (arith, nat_tests)

-- The ports of a router may have their addresses.
pub ports_seated : (i : Internet) (r : ℕ) (router : Router) → Passes i → At i.routers r router
    → list_all (is_port_seated i.cables) router.ports ≡ true
ports_seated i r router ok known = all_when (is_port_seated i.cables) router.ports one
  where
    bad : (p : ℕ) (port : Port) → At router.ports p port → bad_port i r p router port ≡ false
    bad p port at =
        sym (ap (λ o. on o (λ router. on (slice_get router.ports p) (bad_port i r p router))) known
        ∙ ap (λ o. on o (bad_port i r p router)) at)
        ∙ ok 2 (place.Port (suc r) (suc p))

    one : (p : ℕ) (port : Port) → At router.ports p port → is_port_seated i.cables port ≡ true
    one p port at =
        let first = or_parts _ (list_any (λ q. q.cable == port.cable) (take p router.ports)) (bad p port at) in
        let address = or_parts (bad_address i port.cable port.address port.hardware) (list_any (router_has port.address port.hardware)
        (take r i.routers)) first.0 in
        seated i port.cable port.address port.hardware ok address.0

-- A node may have its address.
pub node_seated : (i : Internet) (k : ℕ) (node : Node) → Passes i → At i.nodes k node → is_seated i.cables node.cable node.address ≡ true
node_seated i k node ok known =
    let bad : bad_node i k node ≡ false = sym (ap (λ o. on o (bad_node i k)) known) ∙ ok 2 (place.Node (suc k)) in
    let first = or_parts _ (list_any (node_has node.address node.hardware) (take k i.nodes)) bad in
    let address = or_parts (bad_address i node.cable node.address node.hardware) (list_any (router_has node.address node.hardware)
    i.routers) first.0 in
    seated i node.cable node.address node.hardware ok address.0
