-- The numbers of a sound plan fit into seats and images.
use Rattle.std.proofs.Common.{◌≡◌, ℕ, zero, suc, ◌≤◌, Bool, true, ◌&&◌, IsTrue, List, [], ◌∷◌, Option, Some, None, option_map, length, nat_le, refl, sym, arith, leb-true, le-leb, slice_get}
use Rattle.std.specs.Borrow.{Bor}
use Rattle.std.specs.Prelude.{IfSome}
use Rattle.std.specs.List.{list_all}
use Rattle.std.proofs.lemmas.Bool.{and_parts, and_from}
use Rattle.internet_file.specs.Files.{Planned}
use Rattle.internet_file.specs.Sound.{IsSound, is_node, is_port, is_router, is_seated, may_try_on}
use Rattle.internet_file.specs.Stations.{are_apart, cable_at}
use Rattle.internet_file.specs.declared.cable.Cable.{Cable}
use Rattle.internet_file.specs.declared.node.Node.{Node}
use Rattle.internet_file.specs.declared.port.Port.{Port}
use Rattle.internet_file.specs.declared.router.Router.{Router}
use Rattle.at_base.specs.Range.{is_between}
use Rattle.at_base.specs.declared.address.Addr.{Addr}
use Rattle.planned_stations.specs.Planning.{is_low_node, is_low_port, is_low_router}

module _ (cables : List Cable) (few : length cables ≤ 200) where
  low_number : (k : ℕ) (tries : List Addr) → IsTrue (is_seated cables k tries) → nat_le k 200 ≡ true
  low_number k tries h =
      let parts = and_parts (nat_le 1 k && nat_le k (length cables)) (may_try_on (cable_at cables k) tries) h in
      let high = leb-true k (length cables) (and_parts (nat_le 1 k) (nat_le k (length cables)) parts.0).1 in
      le-leb k 200 (omega (arith, high, few))

  low_ports : (ps : List Port) → IsTrue (list_all (is_port cables) ps) → IsTrue (list_all is_low_port ps)
  low_ports [] h = refl
  low_ports (p ∷ ps) h =
      let parts = and_parts (is_port cables p) (list_all (is_port cables) ps) h in
      and_from (is_low_port p) (list_all is_low_port ps) (low_number p.cable p.tries parts.0) (low_ports ps parts.1)

  low_router : (r : Router) → IsTrue (is_router cables r) → IsTrue (is_low_router r)
  low_router r h =
      let parts = and_parts (is_between 1 16 (length r.port) && list_all (is_port cables) r.port) (are_apart cables r.port) h in
      let ports = and_parts (is_between 1 16 (length r.port)) (list_all (is_port cables) r.port) parts.0 in
      and_from (nat_le (length r.port) 16) (list_all is_low_port r.port)
      (and_parts (nat_le 1 (length r.port)) (nat_le (length r.port) 16) ports.0).1 (low_ports r.port ports.1)

  routers_low : (rs : List Router) → IsTrue (list_all (is_router cables) rs) → IsTrue (list_all is_low_router rs)
  routers_low [] h = refl
  routers_low (r ∷ rs) h =
      let parts = and_parts (is_router cables r) (list_all (is_router cables) rs) h in
      and_from (is_low_router r) (list_all is_low_router rs) (low_router r parts.0) (routers_low rs parts.1)

  nodes_low : (ns : List Node) → IsTrue (list_all (is_node cables) ns) → IsTrue (list_all is_low_node ns)
  nodes_low [] h = refl
  nodes_low (n ∷ ns) h =
      let parts = and_parts (is_node cables n) (list_all (is_node cables) ns) h in
      and_from (is_low_node n) (list_all is_low_node ns) (low_number n.cable n.tries parts.0) (nodes_low ns parts.1)

-- what holds of each of a list holds of the one at an index
pub holds_at : {X : Type 0} (p : X → Bool) (xs : List X) (k : ℕ) (x : X) → IsTrue (list_all p xs) → slice_get xs k ≡ Some x → IsTrue (p x)
holds_at p [] k x h e = absurd cc
holds_at p (y ∷ ys) zero x h e = let same : y ≡ x = cc in rw (← same) (and_parts (p y) (list_all p ys) h).0
holds_at p (y ∷ ys) (suc k) x h e = holds_at p ys k x (and_parts (p y) (list_all p ys) h).1 e

-- what holds of each of a list holds of the one that was borrowed at an index, if there is one
pub found_holds : {X : Type 0} (p : X → Bool) (xs : List X) (k : ℕ) (found : Option (Bor X)) → IsTrue (list_all p xs)
    → option_map (λ r. r.now) found ≡ slice_get xs k → IfSome found (λ r. IsTrue (p r.now))
found_holds p xs k None h e = tt
found_holds p xs k (Some r) h e = holds_at p xs k r.now h (sym e)

pub low_routers : (p : Planned) → IsSound p → IsTrue (list_all is_low_router p.routers)
low_routers p sound = routers_low p.cables sound.few_cables p.routers sound.routers

pub low_nodes : (p : Planned) → IsSound p → IsTrue (list_all is_low_node p.nodes)
low_nodes p sound = nodes_low p.cables sound.few_cables p.nodes sound.nodes
