-- The seats of stations, in order, are those of their internet.
use Rattle.std.proofs.Common.{◌≡◌, ℕ, suc, ◌+◌, ◌≤◌, ◌==◌, cond, List, [], ◌∷◌, ◌++◌, length, map, refl, sym, ap, ◌∙◌, arith}
use Rattle.std.proofs.Common.{Option, Some, None, option_map, slice_get, subst, position, ◌-◌}
use Rattle.std.proofs.lemmas.Bool.{lt-ltb, le-ltb}
use Rattle.std.proofs.lemmas.List.{map-append}
use Rattle.std.proofs.lemmas.Option.{slice_get_past, slice_get_within}
use Rattle.std.specs.Option.{unwrap_or}
use Rattle.std.specs.List.{AllByRecursion as Each}
use Rattle.audit.proofs.Finding.{index_position}
use Rattle.table_image.specs.Seats.{node_seats, port_seat, router_seats}
use Rattle.cable_model.specs.declared.seat.Seat.{Seat}
use Rattle.image_stations.specs.Seating.{node_seat, node_seats_from, router_seat, seats_from, seats_on}
use Rattle.legal_runs.specs.Stations.{cable_seat, cable_seats, node_of, port_on}
use Rattle.at_base.specs.Multicast.{group_of}
use Rattle.table_image.specs.Bounds.{IsBounded}
use Rattle.table_image.specs.Internet.{Internet}
use Rattle.table_image.specs.declared.node.Node.{Node}
use Rattle.table_image.specs.declared.port.Port.{Port}
use Rattle.table_image.specs.declared.router.Router.{Router}

module _ (i : Internet) where
  -- A seat with a port and a group.
  abbrev seat_with : ℕ → Port → ℕ → Option ℕ → Seat
  seat_with r p n g = record { cable = p.cable; station = r; port = n; hw = p.hardware; group = g }

  router_node : (r : ℕ) (x : Router) → slice_get i.routers r ≡ Some x → node_of i r ≡ None
  router_node r x at =
      ap (λ b. cond b None (slice_get i.nodes (r - length i.routers))) (lt-ltb r (length i.routers) (slice_get_within i.routers r x at))

  -- The seat of one of a router's ports.
  port_is : (r : ℕ) (x : Router) (p : Port) → slice_get i.routers r ≡ Some x → cable_seat i (port_seat r p) ≡ router_seat r x.ports p
  port_is r x p at =
      ap (λ o. seat_with r p (port_on o p.cable) (option_map (λ node. group_of node.zone) (node_of i r))) at
      ∙ ap (λ o. seat_with r p (unwrap_or o 0) (option_map (λ node. group_of node.zone) (node_of i r)))
      (sym (index_position (λ q. q.cable == p.cable) x.ports))
      ∙ ap (λ o. seat_with r p (unwrap_or (position (λ q. q.cable == p.cable) x.ports) 0) (option_map (λ node. group_of node.zone) o))
      (router_node r x at)

  ports_are : (r : ℕ) (x : Router) (ps : List Port) → slice_get i.routers r ≡ Some x
      → map (cable_seat i) (map (port_seat r) ps) ≡ map (router_seat r x.ports) ps
  ports_are r x [] at = refl
  ports_are r x (p ∷ ps) at =
      ap (λ s. s ∷ map (cable_seat i) (map (port_seat r) ps)) (port_is r x p at)
      ∙ ap (λ l. router_seat r x.ports p ∷ l) (ports_are r x ps at)

  routers_are : (r : ℕ) (rs : List Router) → ((k : ℕ) (x : Router) → slice_get rs k ≡ Some x → slice_get i.routers (r + k) ≡ Some x)
      → map (cable_seat i) (router_seats r rs) ≡ seats_from r rs
  routers_are r [] at = refl
  routers_are r (x ∷ rs) at =
      map-append (cable_seat i) (map (port_seat r) x.ports) (router_seats (suc r) rs)
      ∙ ap (λ l. l ++ map (cable_seat i) (router_seats (suc r) rs))
      (ports_are r x x.ports (subst (λ n. slice_get i.routers n ≡ Some x) (omega arith) (at 0 x refl)))
      ∙ ap (λ l. map (router_seat r x.ports) x.ports ++ l)
      (routers_are (suc r) rs (λ k y h. subst (λ n. slice_get i.routers n ≡ Some y) (omega arith) (at (suc k) y h)))

  abbrev node_with : ℕ → Node → ℕ → Option Node → Seat
  node_with s x n o =
      record { cable = x.cable; station = s; port = n; hw = x.hardware; group = option_map (λ node. group_of node.zone) o }

  -- The seat of a node.
  node_is : (s k : ℕ) (x : Node) → s ≡ length i.routers + k → slice_get i.nodes k ≡ Some x
      → cable_seat i (record { station = s; cable = x.cable; address = x.address; hardware = x.hardware }) ≡ node_seat s x
  node_is s k x e at =
      ap (λ o. node_with s x (port_on o x.cable) (node_of i s)) (slice_get_past i.routers s (omega (arith, e)))
      ∙ ap (node_with s x 0)
      (ap (λ b. cond b None (slice_get i.nodes (s - length i.routers))) (le-ltb s (length i.routers) (omega (arith, e)))
      ∙ ap (slice_get i.nodes) (omega (arith, e)) ∙ at)

  nodes_are : (s k : ℕ) (ns : List Node) → s ≡ length i.routers + k
      → ((j : ℕ) (x : Node) → slice_get ns j ≡ Some x → slice_get i.nodes (k + j) ≡ Some x)
      → map (cable_seat i) (node_seats s ns) ≡ node_seats_from s ns
  nodes_are s k [] e at = refl
  nodes_are s k (x ∷ ns) e at =
      ap (λ p. p ∷ map (cable_seat i) (node_seats (suc s) ns))
      (node_is s k x e (subst (λ n. slice_get i.nodes n ≡ Some x) (omega arith) (at 0 x refl)))
      ∙ ap (λ l. node_seat s x ∷ l)
      (nodes_are (suc s) (suc k) ns (omega (arith, e)) (λ j y h. subst (λ n. slice_get i.nodes n ≡ Some y) (omega arith) (at (suc j) y h)))

  -- The seats of an internet.
  pub seats_are : seats_on i ≡ cable_seats i
  seats_are =
      sym (map-append (cable_seat i) (router_seats 0 i.routers) (node_seats (length i.routers) i.nodes)
      ∙ ap (λ l. l ++ map (cable_seat i) (node_seats (length i.routers) i.nodes))
      (routers_are 0 i.routers (λ k x h. subst (λ n. slice_get i.routers n ≡ Some x) (omega arith) h))
      ∙ ap (λ l. seats_from 0 i.routers ++ l)
      (nodes_are (length i.routers) 0 i.nodes (omega arith) (λ j x h. subst (λ n. slice_get i.nodes n ≡ Some x) (omega arith) h)))

-- The routers of an image within its limits have at most 16 ports.
each_few : (rs : List Router) → ((k : ℕ) (x : Router) → slice_get rs k ≡ Some x → length x.ports ≤ 16)
    → Each (λ (router : Router). length router.ports ≤ 16) rs
each_few [] few = tt
each_few (x ∷ rs) few = (few 0 x refl, each_few rs (λ k y h. few (suc k) y h))

pub few_ports : (i : Internet) → IsBounded i → Each (λ (router : Router). length router.ports ≤ 16) i.routers
few_ports i b = each_few i.routers (λ k x h. (b.each k x h).ports)
