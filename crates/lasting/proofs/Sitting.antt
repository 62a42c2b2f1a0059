-- The seats of a plan: where each stands, and that a station has one seat for a port, and one on a cable.
use Rattle.std.proofs.Common.{◌≡◌, ◌⊎◌, inl, inr, ℕ, zero, suc, ◌+◌, ◌-◌, ◌<◌, ◌≤◌, ◌==◌, ◌&&◌, List, [], ◌∷◌, Some, None, cond}
use Rattle.std.proofs.Common.{refl, sym, ap, ◌∙◌, subst, length, arith, eqb-true, eq-eqb}
use Rattle.std.specs.List.{position_or_len}
use Rattle.std.proofs.lemmas.Bool.{and_from, and_parts, lt-ltb}
use Rattle.at_base.specs.Multicast.{group_of}
use Rattle.audit.proofs.WalkLists.{At, at_append, at_one, at_within, find_at, find_found}
use Rattle.cable_model.proofs.Counting.{count_one, filter_one}
use Rattle.cable_model.specs.Books.{HasOneSeat}
use Rattle.cable_model.specs.Outcomes.{cable_of}
use Rattle.cable_model.specs.declared.seat.Seat.{Seat}
use Rattle.internet_file.specs.Files.{Planned}
use Rattle.internet_file.specs.declared.node.Node.{Node as PlannedNode}
use Rattle.internet_file.specs.declared.port.Port.{Port as PlannedPort}
use Rattle.internet_file.specs.declared.router.Router.{Router as PlannedRouter}
use Rattle.lasting.proofs.Images.{first_next, first_seat}
use Rattle.lasting.proofs.Speaking.{found_below}
use Rattle.lasting.proofs.Stored.{position_at}
use Rattle.live_cables.proofs.Pending.{Has, has_any}
use Rattle.live_cables.specs.Finding.{seat_by}
use Rattle.planned_stations.specs.Seating.{node_seats, plan_seats, port_seats, router_seats}

-- ---- Places

-- the seat of a planned router's port, at its place
pub record IsAtPlace (first : ℕ) (rs : List PlannedRouter) (j : ℕ) (s : Seat) : Type 0 where
  pub k : ℕ
  pub r : PlannedRouter
  pub r_at : At rs k r
  pub station : s.station ≡ first + k
  pub p : PlannedPort
  pub p_at : At r.port s.port p
  pub place : j ≡ first_seat rs k + s.port
  pub cable : s.cable ≡ p.cable - 1
  pub hw : s.hw ≡ p.hardware

-- the seat of a port, by the number of the port
port_placed : (station q : ℕ) (ps : List PlannedPort) (j : ℕ) (s : Seat) → At (port_seats station q ps) j s
    → (p : PlannedPort) × At ps j p × (s.port ≡ q + j) × (s.station ≡ station) × (s.cable ≡ p.cable - 1) × (s.hw ≡ p.hardware)
port_placed station q [] j s e = cc
port_placed station q (p ∷ ps) zero s e =
    let is : record { cable = p.cable - 1; station = station; port = q; hw = p.hardware; group = None } ≡ s = cc in
    let none : q ≡ q + 0 = omega arith in
    (p, refl, sym (ap (λ (z : Seat). z.port) is) ∙ none, sym (ap (λ (z : Seat). z.station) is), sym (ap (λ (z : Seat). z.cable) is), sym (ap (λ (z : Seat). z.hw) is))
port_placed station q (p ∷ ps) (suc j) s e =
    let w = port_placed station (q + 1) ps j s e in
    let next : (q + 1) + j ≡ q + suc j = omega arith in
    (w.0, w.1, w.2 ∙ next, w.3, w.4, w.5)

-- there are as many seats as ports
ports_many : (station q : ℕ) (ps : List PlannedPort) → length (port_seats station q ps) ≡ length ps
ports_many station q [] = refl
ports_many station q (p ∷ ps) = ap suc (ports_many station (q + 1) ps)

-- the first router's seats are the first ones
pub begins : (rs : List PlannedRouter) → first_seat rs zero ≡ 0
begins [] = refl
begins (r ∷ rs) = refl

-- a seat of planned routers is at its place
router_placed : (first : ℕ) (rs : List PlannedRouter) (j : ℕ) (s : Seat) → At (router_seats first rs) j s → IsAtPlace first rs j s
router_placed first [] j s e = cc
router_placed first (r ∷ rs) j s e =
    elim (at_append (port_seats first 0 r.port) (router_seats (first + 1) rs) j s e) [
      | inl h ↦
          let w = port_placed first 0 r.port j s h in
          let port = w.2 in
          let same : j ≡ s.port = omega (arith, port) in
          record {
            k = zero;
            r = r;
            r_at = refl;
            station = w.3 ∙ omega arith;
            p = w.0;
            p_at = subst (λ n. At r.port n w.0) same w.1;
            place = omega (arith, port);
            cable = w.4;
            hw = w.5;
          }
      | inr h ↦
          let w = router_placed (first + 1) rs h.0 s h.2 in
          let at = h.1 in
          let many = ports_many first 0 r.port in
          let place = w.place in
          let station = w.station in
          record {
            k = suc w.k;
            r = w.r;
            r_at = w.r_at;
            station = omega (arith, station);
            p = w.p;
            p_at = w.p_at;
            place = omega (arith, at, many, place);
            cable = w.cable;
            hw = w.hw;
          }
    ]

-- the seats of nodes stand by their stations
node_placed : (first : ℕ) (ns : List PlannedNode) (j : ℕ) (s : Seat) → At (node_seats first ns) j s → s.station ≡ first + j
node_placed first [] j s e = cc
node_placed first (n ∷ ns) zero s e =
    let is : record { cable = n.cable - 1; station = first; port = 0; hw = n.hardware; group = Some (group_of n.zone) } ≡ s = cc in
    sym (ap (λ (z : Seat). z.station) is) ∙ omega arith
node_placed first (n ∷ ns) (suc j) s e = let w = node_placed (first + 1) ns j s e in omega (arith, w)

-- a seat of a plan is that of a router's port, or comes after all of these
pub seat_placed : (plan : Planned) (j : ℕ) (s : Seat) → At (plan_seats plan) j s
    → IsAtPlace 0 plan.routers j s ⊎ ((m : ℕ) × (j ≡ length (router_seats 0 plan.routers) + m) × (s.station ≡ length plan.routers + m))
seat_placed plan j s e =
    elim (at_append (router_seats 0 plan.routers) (node_seats (length plan.routers) plan.nodes) j s e) [
      | inl h ↦ inl (router_placed 0 plan.routers j s h)
      | inr h ↦ inr (h.0, h.1, node_placed (length plan.routers) plan.nodes h.0 s h.2)
    ]

-- the seat of a router's station is that of a port
pub router_seat_placed : (plan : Planned) (j : ℕ) (s : Seat) → At (plan_seats plan) j s → s.station < length plan.routers → IsAtPlace 0 plan.routers j s
router_seat_placed plan j s e lt = of (seat_placed plan j s e)
  where
    of : IsAtPlace 0 plan.routers j s ⊎ ((m : ℕ) × (j ≡ length (router_seats 0 plan.routers) + m) × (s.station ≡ length plan.routers + m))
        → IsAtPlace 0 plan.routers j s
    of (inl w) = w
    of (inr w) = let station = w.2 in absurd (omega (arith, station, lt))

-- two seats of a router's station for one port are one
pub one_place : (plan : Planned) (j k : ℕ) (s z : Seat) → At (plan_seats plan) j s → At (plan_seats plan) k z → s.station < length plan.routers
    → s.station ≡ z.station → s.port ≡ z.port → j ≡ k
one_place plan j k s z es ez lt station port =
    let a = router_seat_placed plan j s es lt in
    let b = router_seat_placed plan k z ez (subst (λ n. n < length plan.routers) station lt) in
    let x = a.station in
    let y = b.station in
    let same : a.k ≡ b.k = omega (arith, x, y, station) in
    let here : first_seat plan.routers a.k ≡ first_seat plan.routers b.k = ap (first_seat plan.routers) same in
    let p = a.place in
    let q = b.place in
    omega (arith, here, p, q, port)

-- ---- The first seats

-- the seats of later routers come later
first_more : (rs : List PlannedRouter) (k n : ℕ) → k ≤ n → first_seat rs k ≤ first_seat rs n
first_more [] k n le = omega arith
first_more (r ∷ rs) zero n le = omega arith
first_more (r ∷ rs) (suc k) zero le = absurd (omega (arith, le))
first_more (r ∷ rs) (suc k) (suc n) le = let h = first_more rs k n (omega (arith, le)) in omega (arith, h)

-- the seats of routers are the first ones
pub seat_low : (plan : Planned) (j : ℕ) (s : Seat) → At (plan_seats plan) j s → s.station < length plan.routers
    → j < first_seat plan.routers (length plan.routers)
seat_low plan j s e lt =
    let w = router_seat_placed plan j s e lt in
    let place = w.place in
    let port = at_within w.r.port s.port w.p w.p_at in
    let next = first_next plan.routers w.k w.r w.r_at in
    let low = at_within plan.routers w.k w.r w.r_at in
    let more = first_more plan.routers (suc w.k) (length plan.routers) (omega (arith, low)) in
    omega (arith, place, port, next, more)

-- ---- The seat of a port

-- it is found by the station and the port
pub seat_is : (plan : Planned) (j : ℕ) (s : Seat) → At (plan_seats plan) j s → s.station < length plan.routers
    → seat_by (plan_seats plan) s.station s.port ≡ Some j
seat_is plan j s e lt =
    let w = found_below (λ (z : Seat). z.station == s.station && z.port == s.port) (plan_seats plan) j s e
    (and_from _ _ (eq-eqb s.station s.station refl) (eq-eqb s.port s.port refl)) in
    let n = position_or_len (λ (z : Seat). z.station == s.station && z.port == s.port) (plan_seats plan) in
    let found : seat_by (plan_seats plan) s.station s.port ≡ Some n = ap (λ b. cond b (Some n) None) (lt-ltb _ _ w.2) in
    let at = position_at (λ (z : Seat). z.station == s.station && z.port == s.port) (plan_seats plan) n found in
    let parts = and_parts (at.0.station == s.station) (at.0.port == s.port) at.2 in
    let same : j ≡ n = one_place plan j n s at.0 e at.1 lt (sym (eqb-true _ _ parts.0)) (sym (eqb-true _ _ parts.1)) in
    found ∙ ap (λ z. Some z) (sym same)

-- and so is its cable
pub seat_cabled : (plan : Planned) (s : Seat) → Has (plan_seats plan) s → s.station < length plan.routers
    → cable_of (plan_seats plan) s.station s.port ≡ s.cable
seat_cabled plan s (j, e) lt =
    let passes = has_any (λ (z : Seat). z.station == s.station && z.port == s.port) (plan_seats plan) s (j, e)
    (and_from _ _ (eq-eqb s.station s.station refl) (eq-eqb s.port s.port refl)) in
    let f = find_found (λ (z : Seat). z.station == s.station && z.port == s.port) (plan_seats plan) passes in
    let at = find_at (λ (z : Seat). z.station == s.station && z.port == s.port) (plan_seats plan) f.0 f.1 in
    let parts = and_parts (f.0.station == s.station) (f.0.port == s.port) at.2 in
    let same : j ≡ at.0 = one_place plan j at.0 s f.0 e at.1 lt (sym (eqb-true _ _ parts.0)) (sym (eqb-true _ _ parts.1)) in
    let is : f.0 ≡ s = at_one (plan_seats plan) j f.0 s (subst (λ n. At (plan_seats plan) n f.0) (sym same) at.1) e in
    let here : cable_of (plan_seats plan) s.station s.port ≡ f.0.cable = rw f.1 refl in
    here ∙ ap (λ (z : Seat). z.cable) is

-- ---- The seat on a cable

-- where no router has two ports on one cable, no station has two seats there
pub one_seat : (plan : Planned)
    → ((k : ℕ) (r : PlannedRouter) (p q : ℕ) (a b : PlannedPort) → At plan.routers k r → At r.port p a → At r.port q b → a.cable - 1 ≡ b.cable - 1 → p ≡ q)
    → HasOneSeat (plan_seats plan)
one_seat plan apart cable station =
    count_one (λ s. s.cable == cable && s.station == station) (plan_seats plan) (λ j k s z es ez ps pz.
    let a = and_parts (s.cable == cable) (s.station == station) ps in
    let b = and_parts (z.cable == cable) (z.station == station) pz in
    by j k s z es ez (eqb-true _ _ a.0 ∙ sym (eqb-true _ _ b.0)) (eqb-true _ _ a.1 ∙ sym (eqb-true _ _ b.1)) (seat_placed plan j s es) (seat_placed plan k z ez))
  where
    by : (j k : ℕ) (s z : Seat) → At (plan_seats plan) j s → At (plan_seats plan) k z → s.cable ≡ z.cable → s.station ≡ z.station
        → IsAtPlace 0 plan.routers j s ⊎ ((m : ℕ) × (j ≡ length (router_seats 0 plan.routers) + m) × (s.station ≡ length plan.routers + m))
        → IsAtPlace 0 plan.routers k z ⊎ ((m : ℕ) × (k ≡ length (router_seats 0 plan.routers) + m) × (z.station ≡ length plan.routers + m))
        → j ≡ k
    by j k s z es ez cable station (inl a) (inl b) =
        let x = a.station in
        let y = b.station in
        let same : b.k ≡ a.k = omega (arith, x, y, station) in
        let router : b.r ≡ a.r = at_one plan.routers a.k b.r a.r (subst (λ n. At plan.routers n b.r) same b.r_at) a.r_at in
        let port : At a.r.port z.port b.p = subst (λ (r : PlannedRouter). At r.port z.port b.p) router b.p_at in
        let ports = apart a.k a.r s.port z.port a.p b.p a.r_at a.p_at port (sym a.cable ∙ (cable ∙ b.cable)) in
        let low = at_within plan.routers a.k a.r a.r_at in
        one_place plan j k s z es ez (omega (arith, x, low)) station ports
    by j k s z es ez cable station (inr a) (inr b) =
        let x = a.1 in
        let y = b.1 in
        let p = a.2 in
        let q = b.2 in
        omega (arith, x, y, p, q, station)
    by j k s z es ez cable station (inl a) (inr b) =
        let x = a.station in
        let low = at_within plan.routers a.k a.r a.r_at in
        let q = b.2 in
        absurd (omega (arith, x, low, q, station))
    by j k s z es ez cable station (inr a) (inl b) =
        let y = b.station in
        let low = at_within plan.routers b.k b.r b.r_at in
        let p = a.2 in
        absurd (omega (arith, y, low, p, station))

-- two seats of a station on a cable are one
pub same_seat : (seats : List Seat) → HasOneSeat seats → (s z : Seat) → Has seats s → Has seats z → s.cable ≡ z.cable → s.station ≡ z.station → s ≡ z
same_seat seats one s z hs hz cable station =
    let a = filter_one (λ x. x.cable == s.cable && x.station == s.station) seats hs.0 s (one s.cable s.station) hs.1
    (and_from _ _ (eq-eqb s.cable s.cable refl) (eq-eqb s.station s.station refl)) in
    let b = filter_one (λ x. x.cable == s.cable && x.station == s.station) seats hz.0 z (one s.cable s.station) hz.1
    (and_from _ _ (eq-eqb z.cable s.cable (sym cable)) (eq-eqb z.station s.station (sym station))) in
    let both : (s ∷ []) ≡ (z ∷ []) = sym a ∙ b in
    cc
