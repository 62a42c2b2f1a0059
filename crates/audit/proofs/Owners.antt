-- The owner of an address on a cable: the router that has a port there with the address.
use Rattle.std.proofs.Common.{◌≡◌, ℕ, zero, suc, ◌+◌, ◌<◌, ◌≤◌, ◌&&◌, ◌||◌, ◌==◌, Bool, true, false, cond, List, [], ◌∷◌, ◌++◌, Option}
use Rattle.std.proofs.Common.{Some, None, length, refl, sym, ap, ◌∙◌, arith, slice_get, option_map, find, map, take, nat_lt, subst}
use Rattle.std.specs.List.{list_any}
use Rattle.std.proofs.lemmas.List.{append_assoc}
use Rattle.std.proofs.lemmas.Bool.{false_from_ne_true, lt-ltb, le-ltb, and_parts, or_left, or_right, both_ways, or_parts, eqb-true, eq-eqb}
use Rattle.std.proofs.lemmas.Bool.{and_from}
use Rattle.at_base.specs.declared.address.Addr.{Addr}
use Rattle.at_base.specs.declared.error.Place.TheVariants as place
use Rattle.table_image.specs.Internet.{Internet}
use Rattle.audit.specs.Places.{index_of}
use Rattle.audit.specs.Routing.{owner, router_of}
use Rattle.table_image.specs.Seats.{Seat, port_seat, router_seats, node_seats}
use Rattle.at_base.specs.Address.{same_address}
use Rattle.table_image.specs.declared.port.Port.{Port}
use Rattle.table_image.specs.declared.router.Router.{Router}
use Rattle.table_image.specs.declared.node.Node.{Node}
use Rattle.audit.specs.Firsts.{FirstPlace}
use Rattle.audit.specs.Rules.{c2, bad_port, bad_address, router_has, same_hardware}
use Rattle.audit.proofs.Firsts.{part_at}
use Rattle.audit.proofs.Finding.{first_index, any_at, any_from, at_take, index_within}

-- the router has a port on the cable with the address
abbrev pub has_seat : ℕ → Addr → Router → Bool
has_seat cable a router = list_any (λ p. p.cable == cable && same_address p.address a) router.ports

-- two addresses that are equal to the same one are equal
same_addresses : (x y a : Addr) → same_address x a ≡ true → same_address y a ≡ true → same_address x y ≡ true
same_addresses x y a e f =
    let g = and_parts _ _ e in
    let h = and_parts _ _ f in
    let nets = eqb-true x.net a.net g.0 ∙ sym (eqb-true y.net a.net h.0) in
    let nodes = eqb-true x.node a.node g.1 ∙ sym (eqb-true y.node a.node h.1) in
    and_from (x.net == y.net) (x.node == y.node) (eq-eqb x.net y.net nets) (eq-eqb x.node y.node nodes)

module _ (cable : ℕ) (a : Addr) where
  abbrev is_seat : Seat → Bool
  is_seat s = s.cable == cable && same_address s.address a

  abbrev is_port : Port → Bool
  is_port p = p.cable == cable && same_address p.address a

  -- a router that has the address has a seat that is found
  port_found : (r : ℕ) (ports : List Port) (rest : List Seat) → list_any is_port ports ≡ true → (s : Seat)
      × (find is_seat (map (port_seat r) ports ++ rest) ≡ Some s) × (s.station ≡ r)
  port_found r [] rest any = cc
  port_found r (p ∷ ports) rest any =
      elim (is_port p) as (λ b. (b || list_any is_port ports) ≡ true → (s : Seat)
      × (cond b (Some (port_seat r p)) (find is_seat (map (port_seat r) ports ++ rest)) ≡ Some s) × (s.station ≡ r)) [
        | true ↦ λ e. (port_seat r p, refl, refl)
        | false ↦ λ e. port_found r ports rest e
      ] any

  -- the seats of a router without the address are skipped
  ports_passed : (r : ℕ) (ports : List Port) (rest : List Seat) → list_any is_port ports ≡ false
      → find is_seat (map (port_seat r) ports ++ rest) ≡ find is_seat rest
  ports_passed r [] rest none = refl
  ports_passed r (p ∷ ports) rest none =
      let parts = or_parts (is_port p) (list_any is_port ports) none in
      ap (λ b. cond b (Some (port_seat r p)) (find is_seat (map (port_seat r) ports ++ rest))) parts.0 ∙ ports_passed r ports rest parts.1

  -- the seats of routers give the first router that has the address, or else the seats after them
  abbrev Gives : Option ℕ → ℕ → Option Seat → Option Seat → Type 0
  Gives None r found follows = found ≡ follows
  Gives (Some k) r found follows = (s : Seat) × (found ≡ Some s) × (s.station ≡ r + k)

  gives_later : (o : Option ℕ) (r : ℕ) (found follows : Option Seat) → Gives o (suc r) found follows
      → Gives (option_map suc o) r found follows
  gives_later None r found follows g = g
  gives_later (Some k) r found follows g = (g.0, g.1, let h = g.2 in omega (arith, h))

  routers_give : (r : ℕ) (routers : List Router) (rest : List Seat)
      → Gives (index_of (has_seat cable a) routers) r (find is_seat (router_seats r routers ++ rest)) (find is_seat rest)
  routers_give r [] rest = refl
  routers_give r (router ∷ routers) rest =
      let joined = append_assoc (map (port_seat r) router.ports) (router_seats (suc r) routers) rest in
      let first = ap (find is_seat) joined in
      elim (has_seat cable a router) as (λ b. has_seat cable a router ≡ b
      → Gives (cond b (Some zero) (option_map suc (index_of (has_seat cable a) routers))) r
      (find is_seat (router_seats r (router ∷ routers) ++ rest)) (find is_seat rest)) [
        | true ↦ λ e. let h = port_found r router.ports (router_seats (suc r) routers ++ rest) e in
            (h.0, first ∙ h.1, let t = h.2 in omega (arith, t))
        | false ↦ λ e.
            let h = ports_passed r router.ports (router_seats (suc r) routers ++ rest) e in
            let P : Option Seat → Type 0 =
            λ found. Gives (option_map suc (index_of (has_seat cable a) routers)) r found (find is_seat rest) in
            subst P (sym (first ∙ h)) (gives_later (index_of (has_seat cable a) routers) r _ _ (routers_give (suc r) routers rest))
      ] refl

  -- the seats of nodes are of stations after the routers
  nodes_after : (s : ℕ) (nodes : List Node) (seat : Seat) → find is_seat (node_seats s nodes) ≡ Some seat → s ≤ seat.station
  nodes_after s [] seat e = cc
  nodes_after s (node ∷ nodes) seat e =
      let mine : Seat = record { station = s; cable = node.cable; address = node.address; hardware = node.hardware } in
      elim (is_seat mine) as (λ b. cond b (Some mine) (find is_seat (node_seats (suc s) nodes)) ≡ Some seat → s ≤ seat.station) [
        | true ↦ λ e. let same : mine ≡ seat = cc in let t : s ≡ seat.station = ap (λ (x : Seat). x.station) same in omega (arith, t)
        | false ↦ λ e. let h = nodes_after (suc s) nodes seat e in omega (arith, h)
      ] e

  router_given : (i : Internet) (o : Option ℕ) (found follows : Option Seat) → Gives o 0 found follows
      → ((s : Seat) → follows ≡ Some s → length i.routers ≤ s.station) → ((k : ℕ) → o ≡ Some k → k < length i.routers)
      → o ≡ router_of i found
  router_given i None None follows g after within = refl
  router_given i None (Some s) follows g after within = let h = after s (sym g) in
      ap (λ b. cond b (Some s.station) None) (sym (le-ltb s.station (length i.routers) h))
  router_given i (Some k) found follows g after within =
      let t = g.2 in
      let lt = within k refl in
      let here : nat_lt g.0.station (length i.routers) ≡ true = lt-ltb g.0.station (length i.routers) (omega (arith, t, lt)) in
      let same : k ≡ g.0.station = omega (arith, t) in
      ap Some same ∙ (ap (λ b. cond b (Some g.0.station) None) (sym here) ∙ ap (router_of i) (sym g.1))

  -- the owner is the first router that has the address
  pub owner_is : (i : Internet) → index_of (has_seat cable a) i.routers ≡ owner i cable a
  owner_is i = router_given i (index_of (has_seat cable a) i.routers) _ _
      (routers_give 0 i.routers (node_seats (length i.routers) i.nodes)) (λ s e. nodes_after (length i.routers) i.nodes s e)
      (λ k e. index_within (has_seat cable a) i.routers k e)

  -- if rule C2 is kept, no two routers have the address
  not_twice : (i : Internet) (k : ℕ) (router : Router) (j : ℕ) (other : Router) → FirstPlace (c2 i) None
      → slice_get i.routers k ≡ Some router → slice_get i.routers j ≡ Some other → j < k → has_seat cable a router ≡ true
      → has_seat cable a other ≡ true → ⊥
  not_twice i k router j other kept at at_j lt has t =
      let mine = any_at is_port router.ports has in
      let its = any_at is_port other.ports t in
      let address = same_addresses mine.1.address its.1.address a (and_parts (mine.1.cable == cable) _ mine.3).1
      (and_parts (its.1.cable == cable) _ its.3).1 in
      let used = any_from (λ p. same_address mine.1.address p.address || same_hardware mine.1.hardware p.hardware) other.ports its.0 its.1
      its.2 (or_left (same_address mine.1.address its.1.address) (same_hardware mine.1.hardware its.1.hardware) address) in
      let earlier = any_from (router_has mine.1.address mine.1.hardware) (take k i.routers) j other (at_take i.routers k j other lt at_j)
      used in
      let address_bad = bad_address i mine.1.cable mine.1.address mine.1.hardware in
      let taken = list_any (router_has mine.1.address mine.1.hardware) (take k i.routers) in
      let on_cable = list_any (λ (q : Port). q.cable == mine.1.cable) (take mine.0 router.ports) in
      let bad = or_left (address_bad || taken) on_cable (or_right address_bad taken earlier) in
      let broken = part_at i.routers k router (λ r. r.ports) mine.0 mine.1 (λ r. bad_port i k mine.0 r) true at mine.2 bad in
      both_ways (c2 i (place.Port (suc k) (suc mine.0))) (kept (place.Port (suc k) (suc mine.0))) broken

  -- if rule C2 is kept, a router that has the address is the only one
  pub only_router : (i : Internet) (k : ℕ) (router : Router) → FirstPlace (c2 i) None → slice_get i.routers k ≡ Some router
      → has_seat cable a router ≡ true → Some k ≡ owner i cable a
  only_router i k router kept at has =
      sym (first_index (has_seat cable a) i.routers k router at has
      (λ j other lt at_j. false_from_ne_true (has_seat cable a other) (not_twice i k router j other kept at at_j lt has)))
      ∙ owner_is i
