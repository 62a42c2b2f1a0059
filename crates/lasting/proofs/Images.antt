-- The image of stations that have settled: its routers, its nodes, and their seats.
use Rattle.std.proofs.Common.{◌≡◌, ◌⊎◌, inl, inr, ℕ, zero, suc, ◌+◌, ◌-◌, ◌≤◌, List, [], ◌∷◌, ◌++◌, drop, length, map}
use Rattle.std.proofs.Common.{Some, None, refl, sym, ap, ◌∙◌, subst, slice_get, arith}
use Rattle.aarp.specs.Choosing.{Choice}
use Rattle.aarp.specs.Mapping.{Mappings}
use Rattle.audit.proofs.WalkLists.{At, at_append}
use Rattle.cable_model.specs.declared.seat.Seat.{Seat}
use Rattle.freeze.specs.Freezing.{address_of, frozen_node, frozen_ports, frozen_router}
use Rattle.freeze.specs.Frozen.{cables_by, frozen_nodes, frozen_routers}
use Rattle.internet_file.specs.Files.{Planned}
use Rattle.internet_file.specs.declared.node.Node.{Node as PlannedNode}
use Rattle.internet_file.specs.declared.port.Port.{Port as PlannedPort}
use Rattle.internet_file.specs.declared.router.Router.{Router as PlannedRouter}
use Rattle.live_cables.proofs.Pending.{Has}
use Rattle.live_node.specs.Living.{LivingNode}
use Rattle.live_router.specs.Living.{Living}
use Rattle.planned_stations.specs.Seating.{node_seats, plan_seats, port_seats, router_seats}
use Rattle.station.specs.declared.member.Member.{Member}
use Rattle.station.specs.declared.member.Member.TheVariants.{Router as RouterMember, Node as NodeMember}
use Rattle.table_image.specs.declared.port.Port.{Port}
use Rattle.table_image.specs.declared.version.Version.TheVariants.{V1}

-- ---- Lists

pub mapped : {X Y : Type 0} (f : X → Y) (xs : List X) (k : ℕ) (x : X) → At xs k x → At (map f xs) k (f x)
mapped f [] k x e = cc
mapped f (y ∷ xs) zero x e = let is : y ≡ x = cc in ap (λ z. Some (f z)) is
mapped f (y ∷ xs) (suc k) x e = mapped f xs k x e

pub dropped : {X : Type 0} (n : ℕ) (xs : List X) (k : ℕ) → slice_get (drop n xs) k ≡ slice_get xs (n + k)
dropped zero xs k = let e : 0 + k ≡ k = omega arith in sym (ap (slice_get xs) e)
dropped (suc n) [] k = refl
dropped (suc n) (x ∷ xs) k = let e : suc n + k ≡ suc (n + k) = omega arith in dropped n xs k ∙ sym (ap (slice_get (x ∷ xs)) e)

-- ---- Ports

-- in version 1 a port has no mappings
abbrev pub port_of : ℕ → Choice → Port
port_of cable c = record { cable = cable; address = address_of c; hardware = c.hw; mappings = [] }

-- so the ports don't depend on the mappings of the seats
pub ports_any : (cables : List ℕ) (ports : List Choice) (a b : List Mappings) → frozen_ports V1 cables ports a ≡ frozen_ports V1 cables ports b
ports_any [] ports a b = refl
ports_any (c ∷ cables) [] a b = refl
ports_any (c ∷ cables) (p ∷ ports) a b = ap (λ l. port_of c p ∷ l) (ports_any cables ports (drop 1 a) (drop 1 b))

pub port_at : (cables : List ℕ) (ports : List Choice) (seats : List Mappings) (n cable : ℕ) (c : Choice) → At cables n cable → At ports n c
    → At (frozen_ports V1 cables ports seats) n (port_of cable c)
port_at [] ports seats n cable c e f = cc
port_at (x ∷ cables) [] seats n cable c e f = cc
port_at (x ∷ cables) (p ∷ ports) seats zero cable c e f =
    let a : x ≡ cable = cc in let b : p ≡ c = cc in ap (λ z. Some (port_of z p)) a ∙ ap (λ z. Some (port_of cable z)) b
port_at (x ∷ cables) (p ∷ ports) seats (suc n) cable c e f = port_at cables ports (drop 1 seats) n cable c e f

-- ---- Routers

-- the first stations are routers, one for each planned router
abbrev pub AreRouters : List PlannedRouter → List (Member Living LivingNode) → Type 0
AreRouters rs ms = (k : ℕ) (r : PlannedRouter) (m : Member Living LivingNode) → At rs k r → At ms k m → (l : Living) × (m ≡ RouterMember l)

pub router_at : (rs : List PlannedRouter) (ms : List (Member Living LivingNode)) (seats : List Mappings) (k : ℕ) (r : PlannedRouter) (l : Living)
    → AreRouters rs ms → At rs k r → At ms k (RouterMember l)
    → (s : List Mappings) × At (frozen_routers V1 rs ms seats) k (frozen_router V1 (cables_by r) l.router s)
router_at [] ms seats k r l all er em = cc
router_at (x ∷ rs) [] seats k r l all er em = cc
router_at (x ∷ rs) (NodeMember n ∷ ms) seats k r l all er em = let w = all zero x (NodeMember n) refl refl in let bad = w.1 in absurd cc
router_at (x ∷ rs) (RouterMember y ∷ ms) seats zero r l all er em =
    let a : x ≡ r = cc in
    let c : y ≡ l = cc in
    (seats, ap (λ z. Some (frozen_router V1 (cables_by z) y.router seats)) a ∙ ap (λ (z : Living). Some (frozen_router V1 (cables_by r) z.router seats)) c)
router_at (x ∷ rs) (RouterMember y ∷ ms) seats (suc k) r l all er em =
    router_at rs ms (drop (length x.port) seats) k r l (λ j a m ea eb. all (suc j) a m ea eb) er em

pub routers_count : (rs : List PlannedRouter) (ms : List (Member Living LivingNode)) (seats : List Mappings) → AreRouters rs ms → length rs ≤ length ms
    → length (frozen_routers V1 rs ms seats) ≡ length rs
routers_count [] ms seats all few = refl
routers_count (x ∷ rs) [] seats all few = absurd (omega arith)
routers_count (x ∷ rs) (NodeMember n ∷ ms) seats all few = let w = all zero x (NodeMember n) refl refl in let bad = w.1 in absurd cc
routers_count (x ∷ rs) (RouterMember y ∷ ms) seats all few =
    ap suc (routers_count rs ms (drop (length x.port) seats) (λ j a m ea eb. all (suc j) a m ea eb) (omega (arith, few)))

-- ---- Nodes

abbrev pub AreNodes : List (Member Living LivingNode) → Type 0
AreNodes ms = (k : ℕ) (m : Member Living LivingNode) → At ms k m → (n : LivingNode) × (m ≡ NodeMember n)

pub node_at : (ns : List PlannedNode) (ms : List (Member Living LivingNode)) (seats : List Mappings) (k : ℕ) (n : PlannedNode) (l : LivingNode)
    → AreNodes ms → At ns k n → At ms k (NodeMember l)
    → At (frozen_nodes V1 ns ms seats) k (frozen_node V1 (n.cable - 1) l.node None)
node_at [] ms seats k n l all en em = cc
node_at (x ∷ ns) [] seats k n l all en em = cc
node_at (x ∷ ns) (RouterMember r ∷ ms) seats k n l all en em = let w = all zero (RouterMember r) refl in let bad = w.1 in absurd cc
node_at (x ∷ ns) (NodeMember y ∷ ms) seats zero n l all en em =
    let a : x ≡ n = cc in
    let c : y ≡ l = cc in
    ap (λ (z : PlannedNode). Some (frozen_node V1 (z.cable - 1) y.node None)) a ∙ ap (λ (z : LivingNode). Some (frozen_node V1 (n.cable - 1) z.node None)) c
node_at (x ∷ ns) (NodeMember y ∷ ms) seats (suc k) n l all en em = node_at ns ms (drop 1 seats) k n l (λ j m e. all (suc j) m e) en em

pub nodes_count : (ns : List PlannedNode) (ms : List (Member Living LivingNode)) (seats : List Mappings) → AreNodes ms → length ns ≤ length ms
    → length (frozen_nodes V1 ns ms seats) ≡ length ns
nodes_count [] ms seats all few = refl
nodes_count (x ∷ ns) [] seats all few = absurd (omega arith)
nodes_count (x ∷ ns) (RouterMember r ∷ ms) seats all few = let w = all zero (RouterMember r) refl in let bad = w.1 in absurd cc
nodes_count (x ∷ ns) (NodeMember y ∷ ms) seats all few =
    ap suc (nodes_count ns ms (drop 1 seats) (λ j m e. all (suc j) m e) (omega (arith, few)))

-- ---- Seats

-- the seat of a planned router's port
pub record IsRouterSeat (first : ℕ) (rs : List PlannedRouter) (s : Seat) : Type 0 where
  pub k : ℕ
  pub r : PlannedRouter
  pub r_at : At rs k r
  pub station : s.station ≡ first + k
  pub p : PlannedPort
  pub p_at : At r.port s.port p
  pub cable : s.cable ≡ p.cable - 1

pub record IsNodeSeat (first : ℕ) (ns : List PlannedNode) (s : Seat) : Type 0 where
  pub k : ℕ
  pub n : PlannedNode
  pub n_at : At ns k n
  pub station : s.station ≡ first + k
  pub cable : s.cable ≡ n.cable - 1

port_seat : (station q : ℕ) (ps : List PlannedPort) (k : ℕ) (s : Seat) → At (port_seats station q ps) k s
    → (p : PlannedPort) × At ps k p × (s.port ≡ q + k) × (s.station ≡ station) × (s.cable ≡ p.cable - 1)
port_seat station q [] k s e = cc
port_seat station q (p ∷ ps) zero s e =
    let is : record { cable = p.cable - 1; station = station; port = q; hw = p.hardware; group = None } ≡ s = cc in
    let zero_more : q + 0 ≡ q = omega arith in
    (p, refl, sym (ap (λ (z : Seat). z.port) is) ∙ sym zero_more, sym (ap (λ (z : Seat). z.station) is), sym (ap (λ (z : Seat). z.cable) is))
port_seat station q (p ∷ ps) (suc k) s e =
    let w = port_seat station (q + 1) ps k s e in
    let next : (q + 1) + k ≡ q + suc k = omega arith in
    (w.0, w.1, w.2 ∙ next, w.3, w.4)

pub router_seat : (first : ℕ) (rs : List PlannedRouter) (j : ℕ) (s : Seat) → At (router_seats first rs) j s → IsRouterSeat first rs s
router_seat first [] j s e = cc
router_seat first (r ∷ rs) j s e =
    elim (at_append (port_seats first 0 r.port) (router_seats (first + 1) rs) j s e) [
      | inl h ↦
          let w = port_seat first 0 r.port j s h in
          let none : 0 + j ≡ j = omega arith in
          let here : first ≡ first + 0 = omega arith in
          record { k = zero; r = r; r_at = refl; station = w.3 ∙ here; p = w.0; p_at = subst (λ n. At r.port n w.0) (sym (w.2 ∙ none)) w.1; cable = w.4 }
      | inr h ↦
          let w = router_seat (first + 1) rs h.0 s h.2 in
          let k = w.k in
          let next : (first + 1) + w.k ≡ first + suc w.k = omega arith in
          record { k = suc w.k; r = w.r; r_at = w.r_at; station = w.station ∙ next; p = w.p; p_at = w.p_at; cable = w.cable }
    ]

pub node_seat : (first : ℕ) (ns : List PlannedNode) (j : ℕ) (s : Seat) → At (node_seats first ns) j s → IsNodeSeat first ns s
node_seat first [] j s e = cc
node_seat first (n ∷ ns) zero s e =
    let here : first ≡ first + 0 = omega arith in
    let is : record { cable = n.cable - 1; station = first; port = 0; hw = n.hardware; group = Some (Rattle.at_base.specs.Multicast.group_of n.zone) } ≡ s = cc in
    record { k = zero; n = n; n_at = refl; station = sym (ap (λ (z : Seat). z.station) is) ∙ here; cable = sym (ap (λ (z : Seat). z.cable) is) }
node_seat first (n ∷ ns) (suc j) s e =
    let w = node_seat (first + 1) ns j s e in
    let next : (first + 1) + w.k ≡ first + suc w.k = omega arith in
    record { k = suc w.k; n = w.n; n_at = w.n_at; station = w.station ∙ next; cable = w.cable }

-- a seat of a plan is that of a router's port, or of a node
pub plan_seat : (plan : Planned) (s : Seat) → Has (plan_seats plan) s → IsRouterSeat 0 plan.routers s ⊎ IsNodeSeat (length plan.routers) plan.nodes s
plan_seat plan s h =
    elim (at_append (router_seats 0 plan.routers) (node_seats (length plan.routers) plan.nodes) h.0 s h.1) [
      | inl e ↦ inl (router_seat 0 plan.routers h.0 s e)
      | inr e ↦ inr (node_seat (length plan.routers) plan.nodes e.0 s e.2)
    ]

port_there : (station q : ℕ) (ps : List PlannedPort) (k : ℕ) (p : PlannedPort) → At ps k p
    → (z : Seat) × At (port_seats station q ps) k z × (z.station ≡ station) × (z.port ≡ q + k)
port_there station q [] k p e = cc
port_there station q (x ∷ ps) zero p e =
    let none : q ≡ q + 0 = omega arith in
    (record { cable = x.cable - 1; station = station; port = q; hw = x.hardware; group = None }, refl, refl, none)
port_there station q (x ∷ ps) (suc k) p e =
    let w = port_there station (q + 1) ps k p e in
    let next : (q + 1) + k ≡ q + suc k = omega arith in
    (w.0, w.1, w.2, w.3 ∙ next)

port_count : (station q : ℕ) (ps : List PlannedPort) → length (port_seats station q ps) ≡ length ps
port_count station q [] = refl
port_count station q (p ∷ ps) = ap suc (port_count station (q + 1) ps)

at_first : {X : Type 0} (xs ys : List X) (k : ℕ) (x : X) → At xs k x → At (xs ++ ys) k x
at_first [] ys k x e = cc
at_first (y ∷ xs) ys zero x e = e
at_first (y ∷ xs) ys (suc k) x e = at_first xs ys k x e

at_second : {X : Type 0} (xs ys : List X) (n k : ℕ) (x : X) → n ≡ length xs + k → At ys k x → At (xs ++ ys) n x
at_second [] ys n k x is e = let same : n ≡ k = omega (arith, is) in subst (λ j. At ys j x) (sym same) e
at_second (y ∷ xs) ys zero k x is e = absurd (omega (arith, is))
at_second (y ∷ xs) ys (suc n) k x is e = at_second xs ys n k x (omega (arith, is)) e

-- the first seat of a planned router, by the ports of those before it
abbrev pub first_seat : List PlannedRouter → ℕ → ℕ
first_seat [] k = 0
first_seat (r ∷ rs) zero = 0
first_seat (r ∷ rs) (suc k) = length r.port + first_seat rs k

pub first_next : (rs : List PlannedRouter) (k : ℕ) (r : PlannedRouter) → At rs k r → first_seat rs (suc k) ≡ first_seat rs k + length r.port
first_next [] k r e = cc
first_next (x ∷ rs) zero r e =
    let is : x ≡ r = cc in
    let same = ap (λ (z : PlannedRouter). length z.port) is in
    let none : first_seat rs zero ≡ 0 = by rs in
    omega (arith, same, none)
  where
    by : (rs : List PlannedRouter) → first_seat rs zero ≡ 0
    by [] = refl
    by (y ∷ ys) = refl
first_next (x ∷ rs) (suc k) r e = let h = first_next rs k r e in omega (arith, h)

router_there : (first : ℕ) (rs : List PlannedRouter) (k : ℕ) (r : PlannedRouter) (q : ℕ) (p : PlannedPort) → At rs k r → At r.port q p
    → (z : Seat) × At (router_seats first rs) (first_seat rs k + q) z × (z.station ≡ first + k) × (z.port ≡ q)
router_there first [] k r q p er ep = cc
router_there first (x ∷ rs) zero r q p er ep =
    let is : x ≡ r = cc in
    let w = port_there first 0 x.port q p (subst (λ (z : PlannedRouter). At z.port q p) (sym is) ep) in
    let none : first ≡ first + 0 = omega arith in
    let same : 0 + q ≡ q = omega arith in (
      w.0,
      at_first (port_seats first 0 x.port) (router_seats (first + 1) rs) (0 + q) w.0
          (subst (λ n. At (port_seats first 0 x.port) n w.0) (sym same) w.1),
      w.2 ∙ none,
      w.3 ∙ same,
    )
router_there first (x ∷ rs) (suc k) r q p er ep =
    let w = router_there (first + 1) rs k r q p er ep in
    let next : (first + 1) + k ≡ first + suc k = omega arith in
    let many = port_count first 0 x.port in (
      w.0,
      at_second (port_seats first 0 x.port) (router_seats (first + 1) rs) ((length x.port + first_seat rs k) + q) (first_seat rs k + q) w.0
          (omega (arith, many)) w.1,
      w.2 ∙ next,
      w.3,
    )

-- each port of a planned router has its seat
pub seat_at : (plan : Planned) (k : ℕ) (r : PlannedRouter) (q : ℕ) (p : PlannedPort) → At plan.routers k r → At r.port q p
    → (z : Seat) × At (plan_seats plan) (first_seat plan.routers k + q) z × (z.station ≡ k) × (z.port ≡ q)
seat_at plan k r q p er ep =
    let w = router_there 0 plan.routers k r q p er ep in
    let none : 0 + k ≡ k = omega arith in
    let nodes = node_seats (length plan.routers) plan.nodes in
    (w.0, at_first (router_seats 0 plan.routers) nodes (first_seat plan.routers k + q) w.0 w.1, w.2 ∙ none, w.3)

pub seat_of : (plan : Planned) (k : ℕ) (r : PlannedRouter) (q : ℕ) (p : PlannedPort) → At plan.routers k r → At r.port q p
    → (z : Seat) × Has (plan_seats plan) z × (z.station ≡ k) × (z.port ≡ q)
seat_of plan k r q p er ep = let w = seat_at plan k r q p er ep in (w.0, (first_seat plan.routers k + q, w.1), w.2, w.3)
