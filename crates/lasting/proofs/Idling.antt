-- Where what a tick gives up is for no next router, mappings that pass it poison no row.
use Rattle.std.proofs.Common.{◌≡◌, ℕ, zero, suc, ◌+◌, ◌<◌, ◌≤◌, ◌==◌, arith, length, Bool, true, false, not, cond, List, [], ◌∷◌, map, filter, if◌then◌else◌}
use Rattle.std.proofs.Common.{Option, Some, None, refl, sym, ap, ◌∙◌, subst, slice_get}
use Rattle.std.specs.Prelude.{fold, slice_set}
use Rattle.std.specs.List.{AllByRecursion as Each}
use Rattle.std.proofs.lemmas.Bool.{not-true}
use Rattle.aarp.specs.Mapping.{Mappings, each_once, given_up as given_up_of, is_asked_again, waited}
use Rattle.aarp.specs.declared.held.Held.{Held}
use Rattle.at_base.specs.Address.{same_address}
use Rattle.at_base.specs.declared.address.Addr.{Addr}
use Rattle.audit.proofs.WalkLists.{At}
use Rattle.cable_model.proofs.Counting.{each_map, each_more, filter_at}
use Rattle.cable_model.specs.declared.seat.Seat.{Seat}
use Rattle.lasting.specs.Settled.{IsNoNextRouter}
use Rattle.live_cables.specs.Finding.{held_at}
use Rattle.live_cables.specs.Holding.{with_tick}
use Rattle.live_cables.specs.Living.{Wires}
use Rattle.live_node.specs.Living.{LivingNode}
use Rattle.live_router.specs.Living.{Living}
use Rattle.live_router.specs.Ticking.{phase_after, routes_aged}
use Rattle.rtmp.specs.Routes.{aged, aged_row, is_direct, is_over, older, poisoned, poisoned_row}
use Rattle.rtmp.specs.declared.row.Row.{Row as RouteRow}
use Rattle.station.specs.declared.member.Member.{Member}
use Rattle.station.specs.declared.member.Member.TheVariants.{Router as RouterMember, Node as NodeMember}
use Rattle.world.specs.Doing.{given_up}
use Rattle.world.specs.Passing.{AreAged, IsAged}

-- ---- Lists

pub get_set : {X : Type 0} (xs : List X) (k : ℕ) (y x : X) → At xs k x → At (slice_set xs k y) k y
get_set [] k y x e = cc
get_set (z ∷ zs) zero y x e = refl
get_set (z ∷ zs) (suc k) y x e = get_set zs k y x e

pub get_set_other : {X : Type 0} (xs : List X) (k l : ℕ) (y : X) → (l ≡ k → ⊥) → slice_get (slice_set xs k y) l ≡ slice_get xs l
get_set_other [] k l y other = refl
get_set_other (x ∷ xs) zero zero y other = absurd (other refl)
get_set_other (x ∷ xs) zero (suc l) y other = refl
get_set_other (x ∷ xs) (suc k) zero y other = refl
get_set_other (x ∷ xs) (suc k) (suc l) y other = get_set_other xs k l y (λ e. other (ap suc e))

-- ---- What is given up is for no next router

-- each datagram that a tick gives up at this seat or a later one is for an address with this property
abbrev pub AreSparedFrom : (ℕ → Addr → Type 0) → ℕ → List Mappings → Type 0
AreSparedFrom P first maps =
    (seat k : ℕ) (h : Held) → first ≤ seat → At (held_at maps seat) k h → is_asked_again h ≡ false → P seat h.next

-- The seats are those of the stations' ports, router by router: these are the first ones.
pub record AreLaid (seats : List Seat) (stations : List (Member Living LivingNode)) : Type 0 where
  pub first : ℕ → ℕ
  pub begins : first 0 ≡ 0
  pub next : (k : ℕ) (l : Living) → At stations k (RouterMember l) → first (suc k) ≡ first k + length l.router.ports
  pub own : (k : ℕ) (l : Living) (q : ℕ) → At stations k (RouterMember l) → q < length l.router.ports
      → (s : Seat) × At seats (first k + q) s × (s.station ≡ k)

each_of : {X : Type 0} (P : X → Type 0) (xs : List X) → ((k : ℕ) (x : X) → At xs k x → P x) → Each P xs
each_of P [] f = tt
each_of P (x ∷ xs) f = (f zero x refl, each_of P xs (λ k y e. f (suc k) y e))

pub each_kept : {X : Type 0} (P : X → Type 0) (t : X → Bool) (xs : List X) → Each P xs → Each P (filter t xs)
each_kept P t [] h = tt
each_kept P t (x ∷ xs) h = by (each_kept P t xs h.1) (t x)
  where
    by : Each P (filter t xs) → (b : Bool) → Each P (cond b (x ∷ filter t xs) (filter t xs))
    by rest true = (h.0, rest)
    by rest false = rest

once_each : (P : Addr → Type 0) (xs : List Addr) → Each P xs → Each P (each_once xs)
once_each P [] h = tt
once_each P (a ∷ rest) h = (h.0, each_kept P (λ b. not (same_address a b)) (each_once rest) (once_each P rest h.1))

-- so are the addresses that are given up
given_for : (P : Addr → Type 0) (held : List Held) → ((k : ℕ) (h : Held) → At held k h → is_asked_again h ≡ false → P h.next)
    → Each P (given_up_of held)
given_for P held f =
    let over = filter (λ h. not (is_asked_again h)) held in
    once_each P (map (λ (h : Held). h.next) over)
    (each_map P (λ (h : Held). h.next) over
    (each_of (λ (h : Held). P h.next) over (λ k h e.
    let w = filter_at (λ h. not (is_asked_again h)) held k h e in
    f w.0 h w.1 (not-true (is_asked_again h) w.2))))

-- the tick of a seat leaves the others as they are
other_held : (maps : List Mappings) (seat k : ℕ) → (k ≡ seat → ⊥) → held_at (with_tick maps seat) k ≡ held_at maps k
other_held maps seat k other = by (slice_get maps seat) refl
  where
    by : (o : Option Mappings) → slice_get maps seat ≡ o → held_at (with_tick maps seat) k ≡ held_at maps k
    by None e = rw e refl
    by (Some m) e =
        let stays = get_set_other maps seat k (record m { held = waited m.held }) other in
        rw (e, stays) refl

-- a station that no such address changes
none_given : (P : Addr → Type 0) (m : Member Living LivingNode) (addrs : List Addr) → ((a : Addr) → P a → given_up m a ≡ m) → Each P addrs
    → fold given_up m addrs ≡ m
none_given P m [] same h = refl
none_given P m (a ∷ addrs) same h = ap (λ (z : Member Living LivingNode). fold given_up z addrs) (same a h.0) ∙ none_given P m addrs same h.1

aged_same : (P : ℕ → Addr → Type 0) (seat : ℕ) (m now : Member Living LivingNode) (old new : Wires) → AreSparedFrom P seat old.maps
    → ((a : Addr) → P seat a → given_up m a ≡ m) → IsAged seat m now old new → (now ≡ m) × AreSparedFrom P (seat + 1) new.maps
aged_same P seat m now old new spared same h = (
  h.told
      ∙ none_given (P seat) m (given_up_of (held_at old.maps seat)) same
      (given_for (P seat) (held_at old.maps seat) (λ k x. spared seat k x (omega arith))),
  subst (AreSparedFrom P (seat + 1)) (sym h.passes.5) (λ s k x le at.
      spared s k x (omega (arith, le)) (subst (λ l. At l k x) (other_held old.maps seat s (λ e. absurd (omega (arith, le, e)))) at)),
)

pub all_aged : (P : ℕ → Addr → Type 0) (seat ports : ℕ) (m now : Member Living LivingNode) (old new : Wires) → AreSparedFrom P seat old.maps
    → ((j : ℕ) (a : Addr) → seat ≤ j → j < seat + ports → P j a → given_up m a ≡ m) → AreAged seat ports m now old new
    → (now ≡ m) × AreSparedFrom P (seat + ports) new.maps
all_aged P seat zero m now old new spared same h =
    (h.0, λ s k x le. subst (λ (w : Wires). AreSparedFrom P seat w.maps) (sym h.1) spared s k x (omega (arith, le)))
all_aged P seat (suc ports) m now old new spared same (before, mid, first, last) =
    let w = all_aged P seat ports m before old mid spared (λ j a le lt p. same j a le (omega (arith, lt)) p) first in
    let still : (a : Addr) → P (seat + ports) a → given_up before a ≡ before =
    λ a p. ap (λ (z : Member Living LivingNode). given_up z a) w.0 ∙ (same (seat + ports) a (omega arith) (omega arith) p ∙ sym w.0) in
    let v = aged_same P (seat + ports) before now mid new w.1 still last in
    (v.0 ∙ w.0, λ s k x le. v.1 s k x (omega (arith, le)))

-- ---- Rows that lead to no such address

-- the row doesn't lead to the address
abbrev pub IsElsewhere : Addr → RouteRow → Type 0
IsElsewhere a r = is_direct r ≡ false → same_address r.next a ≡ false

none_poisoned : (a : Addr) (rows : List RouteRow) → Each (IsElsewhere a) rows → poisoned a rows ≡ rows
none_poisoned a [] h = refl
none_poisoned a (r ∷ rows) h = ap (λ (x : RouteRow). x ∷ poisoned a rows) (one (is_direct r) refl) ∙ ap (λ (l : List RouteRow). r ∷ l) (none_poisoned a rows h.1)
  where
    one : (d : Bool) → is_direct r ≡ d → poisoned_row a r ≡ r
    one true e = rw e refl
    one false e = rw (e, h.0 e) refl

aged_elsewhere : (a : Addr) (rows : List RouteRow) → Each (IsElsewhere a) rows → Each (IsElsewhere a) (aged rows)
aged_elsewhere a rows h =
    each_map (IsElsewhere a) aged_row (filter (λ r. not (is_over r)) rows)
    (each_more (IsElsewhere a) (λ r. IsElsewhere a (aged_row r)) (filter (λ r. not (is_over r)) rows) (λ r e. one r (is_direct r) e)
    (each_kept (IsElsewhere a) (λ r. not (is_over r)) rows h))
  where
    one : (r : RouteRow) (d : Bool) → IsElsewhere a r → IsElsewhere a (cond d r (record r { state = older r.state }))
    one r true e = e
    one r false e = e

-- a router of which no row leads to the address is the same, in a tick, after AARP gave up on it
pub router_spared : (stations : List (Member Living LivingNode)) (seats : List Seat) (k : ℕ) (l now : Living) (j : ℕ) (s : Seat) (x : Addr)
    → At stations k (RouterMember l) → At seats j s → s.station ≡ k
    → now.router.routes ≡ routes_aged (phase_after l.phase) l.router.routes → IsNoNextRouter stations seats j x
    → given_up (RouterMember now) x ≡ RouterMember now
router_spared stations seats k l now j s x e es of is none =
    let there : At stations s.station (RouterMember l) = subst (λ n. At stations n (RouterMember l)) (sym of) e in
    let rows = each_of (IsElsewhere x) l.router.routes (λ n c ec far. none s l n c es there ec far) in
    let later : Each (IsElsewhere x) (routes_aged (phase_after l.phase) l.router.routes) = by (phase_after l.phase == 0) rows in
    let same : poisoned x now.router.routes ≡ now.router.routes =
    none_poisoned x now.router.routes (subst (Each (IsElsewhere x)) (sym is) later) in
    ap (λ routes. RouterMember (record now { router = record now.router { routes = routes } })) same
  where
    by : (b : Bool) → Each (IsElsewhere x) l.router.routes → Each (IsElsewhere x) (if b then aged l.router.routes else l.router.routes)
    by true h = aged_elsewhere x l.router.routes h
    by false h = h

-- a node is the same after AARP gave up on addresses
pub node_same : (n : LivingNode) (addrs : List Addr) → fold given_up (NodeMember n) addrs ≡ NodeMember n
node_same n [] = refl
node_same n (a ∷ addrs) = node_same n addrs

pub node_aged : (seat ports : ℕ) (n : LivingNode) (now : Member Living LivingNode) (old new : Wires) → AreAged seat ports (NodeMember n) now old new
    → now ≡ NodeMember n
node_aged seat zero n now old new h = h.0
node_aged seat (suc ports) n now old new (before, mid, first, last) =
    last.told
    ∙ (ap (λ m. fold given_up m (given_up_of (held_at mid.maps (seat + ports)))) (node_aged seat ports n before old mid first)
    ∙ node_same n (given_up_of (held_at mid.maps (seat + ports))))
