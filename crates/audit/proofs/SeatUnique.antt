-- If the cables are in order and the stations are addressed, no two seats have the same address, and no two on a cable
-- the same hardware address.
use Rattle.std.proofs.Common.{◌≡◌, ℕ, zero, suc, ◌≤◌, ◌<◌, inl, inr, Bool, true, false, ◌||◌, ◌&&◌, List, Option, Some, None, length}
use Rattle.std.proofs.Common.{ap, arith, eq-eqb, eqb-true, refl, slice_get, subst, sym, take, true≢false, ◌==◌, ◌∙◌}
use Rattle.std.specs.List.{list_any}
use Rattle.std.proofs.lemmas.Bool.{or_parts, and_parts, not-false, cases_order, ltb-false}
use Rattle.at_base.specs.Text.{same_bytes}
use Rattle.at_base.proofs.Texts.{same_bytes_is, same_bytes_self}
use Rattle.at_base.specs.declared.address.Addr.{Addr}
use Rattle.at_base.specs.declared.address.Hw.{Hw}
use Rattle.at_base.specs.declared.error.Place.TheVariants as place
use Rattle.table_image.specs.Internet.{Internet}
use Rattle.audit.specs.Places.{on}
use Rattle.table_image.specs.Seats.{Seat, seats}
use Rattle.at_base.specs.Address.{same_address}
use Rattle.at_base.specs.Range.{is_between}
use Rattle.table_image.specs.declared.cable.Cable.{Cable}
use Rattle.table_image.specs.declared.port.Port.{Port}
use Rattle.table_image.specs.declared.router.Router.{Router}
use Rattle.table_image.specs.declared.node.Node.{Node}
use Rattle.audit.specs.Rules.{same_hardware, bad_address, router_has, node_has, bad_port, bad_node, Passes}
use Rattle.audit.specs.Walks.{IsAddressed, SeatsAreUnique}
use Rattle.audit.proofs.WalkLists.{At, at_one, at_within, none_passes, none_before}
use Rattle.audit.proofs.WalkSteps.{one_cable}
use Rattle.audit.proofs.SeatPlaces.{number_of, IsPortSeat, IsNodeSeat, Sits, AtPort, AtNode, sits}

-- ---- equal addresses

same_address_is : (a b : Addr) → same_address a b ≡ true → (a.net ≡ b.net) × (a.node ≡ b.node)
same_address_is a b e = let h = and_parts _ _ e in (eqb-true _ _ h.0, eqb-true _ _ h.1)

same_address_when : (a b : Addr) → a.net ≡ b.net → a.node ≡ b.node → same_address a b ≡ true
same_address_when a b e f = ap (λ v. v && a.node == b.node) (eq-eqb _ _ e) ∙ eq-eqb _ _ f

same_bytes_when : (xs ys : List ℕ) → xs ≡ ys → same_bytes xs ys ≡ true
same_bytes_when xs ys e = sym (ap (same_bytes xs) e) ∙ same_bytes_self xs

-- the two seats have the same address, or the same hardware address on one cable
data AreAlike (s t : Seat) : Type 0 where
  ByAddress : s.address.net ≡ t.address.net → s.address.node ≡ t.address.node → AreAlike s t
  ByHardware : s.cable ≡ t.cable → s.hardware.0 ≡ t.hardware.0 → AreAlike s t

alike_back : (s t : Seat) → AreAlike s t → AreAlike t s
alike_back s t (ByAddress e f) = ByAddress (sym e) (sym f)
alike_back s t (ByHardware e f) = ByHardware (sym e) (sym f)

-- seats that are alike have a common address
clash : (s t : Seat) (a b : Addr) (g h : Hw) → s.address ≡ a → t.address ≡ b → s.hardware ≡ g → t.hardware ≡ h → AreAlike s t
    → (same_address b a || same_hardware h g) ≡ false → ⊥
clash s t a b g h sa tb sg th (ByAddress e f) none =
    let net : b.net ≡ a.net = sym (ap (λ (a : Addr). a.net) tb) ∙ (sym e ∙ ap (λ (a : Addr). a.net) sa) in
    let node : b.node ≡ a.node = sym (ap (λ (a : Addr). a.node) tb) ∙ (sym f ∙ ap (λ (a : Addr). a.node) sa) in
    true≢false (sym (same_address_when b a net node) ∙ (or_parts (same_address b a) (same_hardware h g) none).0)
clash s t a b g h sa tb sg th (ByHardware e f) none =
    let bytes : h.0 ≡ g.0 = sym (ap (λ (h : Hw). h.0) th) ∙ (sym f ∙ ap (λ (h : Hw). h.0) sg) in
    true≢false (sym (same_bytes_when h.0 g.0 bytes) ∙ (or_parts (same_address b a) (same_hardware h g) none).1)

-- ---- rule C2 for a station

on_true : {X : Type 0} (o : Option X) (test : X → Bool) → on o test ≡ true → (x : X) × (o ≡ Some x) × (test x ≡ true)
on_true None test e = cc
on_true (Some x) test e = (x, refl, e)

-- an address is in the range of its cable
in_range : (i : Internet) (cable : ℕ) (a : Addr) (h : Hw) → bad_address i cable a h ≡ false → (c : Cable) × At i.cables cable c
    × (is_between c.start c.end a.net ≡ true)
in_range i cable a h e =
    let one = or_parts _ _ e in
    let two = or_parts _ _ one.0 in
    let three = or_parts _ _ two.0 in
    on_true (slice_get i.cables cable) (λ c. is_between c.start c.end a.net) (not-false _ three.0)

module _ (i : Internet) (ok : Passes i) where
  port_good : (r p : ℕ) (router : Router) (port : Port) → At i.routers r router → At router.ports p port
      → (bad_address i port.cable port.address port.hardware ≡ false)
      × (list_any (router_has port.address port.hardware) (take r i.routers) ≡ false)
      × (list_any (λ q. q.cable == port.cable) (take p router.ports) ≡ false)
  port_good r p router port er ep =
      let here : on (slice_get i.routers r) (λ router. on (slice_get router.ports p) (bad_port i r p router)) ≡ bad_port i r p router
      port = ap (λ o. on o (λ router. on (slice_get router.ports p) (bad_port i r p router))) er
      ∙ ap (λ o. on o (bad_port i r p router)) ep in
      let one = or_parts _ _ (sym here ∙ ok 2 (place.Port (suc r) (suc p))) in
      let two = or_parts _ _ one.0 in
      (two.0, two.1, one.1)

  node_good : (k : ℕ) (node : Node) → At i.nodes k node → (list_any (router_has node.address node.hardware) i.routers ≡ false)
      × (list_any (node_has node.address node.hardware) (take k i.nodes) ≡ false)
      × (bad_address i node.cable node.address node.hardware ≡ false)
  node_good k node e =
      let here : on (slice_get i.nodes k) (bad_node i k) ≡ bad_node i k node = ap (λ o. on o (bad_node i k)) e in
      let one = or_parts _ _ (sym here ∙ ok 2 (place.Node (suc k))) in
      let two = or_parts _ _ one.0 in
      (two.1, one.1, two.0)

  -- ---- two seats that are alike are one

  -- a port isn't like one of a later router
  routers_apart : (j k : ℕ) (s t : Seat) (a : IsPortSeat 0 i.routers j s) (b : IsPortSeat 0 i.routers k t) → AreAlike s t → a.r < b.r → ⊥
  routers_apart j k s t a b alike before =
      let good = port_good b.r b.p b.router b.port b.known b.at in
      let none = none_before (router_has b.port.address b.port.hardware) i.routers b.r good.1 a.r a.router before a.known in
      let apart = none_passes (λ p. same_address b.port.address p.address || same_hardware b.port.hardware p.hardware) a.router.ports none
      a.p a.port a.at in
      clash s t a.port.address b.port.address a.port.hardware b.port.hardware a.address b.address a.hardware b.hardware alike apart

  -- two ports of one router are on different cables
  other_cables : (j k : ℕ) (s t : Seat) (a : IsPortSeat 0 i.routers j s) (b : IsPortSeat 0 i.routers k t) → a.r ≡ b.r → a.p < b.p
      → a.port.cable ≡ b.port.cable → ⊥
  other_cables j k s t a b same before e =
      let good = port_good b.r b.p b.router b.port b.known b.at in
      let one : a.router ≡ b.router = at_one i.routers b.r a.router b.router (subst (λ r. At i.routers r a.router) same a.known) b.known in
      let theirs : At b.router.ports a.p a.port = subst (λ (router : Router). At router.ports a.p a.port) one a.at in
      let apart : (a.port.cable == b.port.cable) ≡ false =
      none_before (λ q. q.cable == b.port.cable) b.router.ports b.p good.2 a.p a.port before theirs in
      true≢false (sym (eq-eqb _ _ e) ∙ apart)

  -- two ports of one router aren't alike
  ports_apart : (j k : ℕ) (s t : Seat) (a : IsPortSeat 0 i.routers j s) (b : IsPortSeat 0 i.routers k t) → AreAlike s t → a.r ≡ b.r
      → a.p < b.p → ⊥
  ports_apart j k s t a b alike same before =
      let mine = port_good a.r a.p a.router a.port a.known a.at in
      let good = port_good b.r b.p b.router b.port b.known b.at in
      let on_one = other_cables j k s t a b same before in
      elim alike [
        | ByAddress e f ↦
            let u = in_range i a.port.cable a.port.address a.port.hardware mine.0 in
            let v = in_range i b.port.cable b.port.address b.port.hardware good.0 in
            let net : b.port.address.net ≡ a.port.address.net =
            sym (ap (λ (a : Addr). a.net) b.address) ∙ (sym e ∙ ap (λ (a : Addr). a.net) a.address) in
            on_one (one_cable i ok a.port.cable b.port.cable u.0 v.0 a.port.address.net u.1 v.1 u.2
            (ap (is_between v.0.start v.0.end) (sym net) ∙ v.2))
        | ByHardware e f ↦ on_one (sym a.cable ∙ (e ∙ b.cable))
      ]

  two_ports : (j k : ℕ) (s t : Seat) → IsPortSeat 0 i.routers j s → IsPortSeat 0 i.routers k t → AreAlike s t → j ≡ k
  two_ports j k s t a b alike =
      elim (cases_order a.r b.r) [
        | inl same ↦ elim (cases_order a.p b.p) [
          | inl e ↦ a.number ∙ (ap (λ r. number_of i.routers r a.p) same ∙ (ap (number_of i.routers b.r) e ∙ sym b.number))
          | inr h ↦ elim h [
            | inl lt ↦ absurd (ports_apart j k s t a b alike same lt)
            | inr gt ↦ absurd (ports_apart k j t s b a (alike_back s t alike) (sym same) gt)
          ]
        ]
        | inr h ↦ elim h [
          | inl lt ↦ absurd (routers_apart j k s t a b alike lt)
          | inr gt ↦ absurd (routers_apart k j t s b a (alike_back s t alike) gt)
        ]
      ]

  port_and_node : (j k : ℕ) (s t : Seat) → IsPortSeat 0 i.routers j s → IsNodeSeat (length i.routers) i.nodes k t → AreAlike s t → ⊥
  port_and_node j k s t a b alike =
      let good = node_good k b.node b.known in
      let none = none_passes (router_has b.node.address b.node.hardware) i.routers good.0 a.r a.router a.known in
      let apart = none_passes (λ p. same_address b.node.address p.address || same_hardware b.node.hardware p.hardware) a.router.ports none
      a.p a.port a.at in
      clash s t a.port.address b.node.address a.port.hardware b.node.hardware a.address b.address a.hardware b.hardware alike apart

  nodes_apart : (j k : ℕ) (s t : Seat) → IsNodeSeat (length i.routers) i.nodes j s → IsNodeSeat (length i.routers) i.nodes k t
      → AreAlike s t → j < k → ⊥
  nodes_apart j k s t a b alike before =
      let good = node_good k b.node b.known in
      let apart = none_before (node_has b.node.address b.node.hardware) i.nodes k good.1 j a.node before a.known in
      clash s t a.node.address b.node.address a.node.hardware b.node.hardware a.address b.address a.hardware b.hardware alike apart

  two_nodes : (j k : ℕ) (s t : Seat) → IsNodeSeat (length i.routers) i.nodes j s → IsNodeSeat (length i.routers) i.nodes k t → AreAlike s t
      → j ≡ k
  two_nodes j k s t a b alike =
      elim (cases_order j k) [
        | inl e ↦ e
        | inr h ↦ elim h [
          | inl lt ↦ absurd (nodes_apart j k s t a b alike lt)
          | inr gt ↦ absurd (nodes_apart k j t s b a (alike_back s t alike) gt)
        ]
      ]

  one_seat : (j k : ℕ) (s t : Seat) → Sits i j s → Sits i k t → AreAlike s t → j ≡ k
  one_seat j k s t (AtPort a) (AtPort b) alike = two_ports j k s t a b alike
  one_seat j k s t (AtPort a) (AtNode l far b) alike = absurd (port_and_node j l s t a b alike)
  one_seat j k s t (AtNode m far a) (AtPort b) alike = absurd (port_and_node k m t s b a (alike_back s t alike))
  one_seat j k s t (AtNode m near a) (AtNode l far b) alike =
      let same = two_nodes m l s t a b alike in omega arith

  -- ---- each seat is addressed

  same_seat : (s : Seat) (cable : ℕ) (a : Addr) (h : Hw) → s.cable ≡ cable → s.address ≡ a → s.hardware ≡ h
      → bad_address i cable a h ≡ false → bad_address i s.cable s.address s.hardware ≡ false
  same_seat s cable a h is_cable is_address is_hardware good =
      ap (λ c. bad_address i c s.address s.hardware) is_cable
      ∙ (ap (λ a. bad_address i cable a s.hardware) is_address ∙ (ap (bad_address i cable a) is_hardware ∙ good))

  well_addressed : (k : ℕ) (s : Seat) → Sits i k s → bad_address i s.cable s.address s.hardware ≡ false
  well_addressed k s (AtPort a) =
      same_seat s a.port.cable a.port.address a.port.hardware a.cable a.address a.hardware
      (port_good a.r a.p a.router a.port a.known a.at).0
  well_addressed k s (AtNode l far a) =
      same_seat s a.node.cable a.node.address a.node.hardware a.cable a.address a.hardware (node_good l a.node a.known).2

  pub addressed : (k : ℕ) (s : Seat) → At (seats i) k s → IsAddressed i s
  addressed k s at =
      let good = well_addressed k s (sits i k s at) in
      let one = or_parts _ _ good in
      let two = or_parts _ _ one.0 in
      let three = or_parts _ _ two.0 in
      let range = on_true (slice_get i.cables s.cable) (λ c. is_between c.start c.end s.address.net) (not-false _ three.0) in
      let some = nonzero s.address.node three.1 in
      let most = ltb-false 253 s.address.node two.1 in
      record { cable = range.0; known = range.1; holds = range.2; low = some; high = omega arith; single = one.1 }
    where
      nonzero : (n : ℕ) → (n == 0) ≡ false → 1 ≤ n
      nonzero zero e = cc
      nonzero (suc n) e = omega arith

  -- ---- two seats of a station on a cable are one

  one_there : (j k : ℕ) (s t : Seat) → Sits i j s → Sits i k t → s.station ≡ t.station → s.cable ≡ t.cable → j ≡ k
  one_there j k s t (AtPort a) (AtPort b) station cable =
      let mine = a.station in
      let theirs = b.station in
      let same : a.r ≡ b.r = omega arith in
      let on_one : a.port.cable ≡ b.port.cable = sym a.cable ∙ (cable ∙ b.cable) in
      elim (cases_order a.p b.p) [
        | inl e ↦ a.number ∙ (ap (λ r. number_of i.routers r a.p) same ∙ (ap (number_of i.routers b.r) e ∙ sym b.number))
        | inr h ↦ elim h [
          | inl lt ↦ absurd (other_cables j k s t a b same lt on_one)
          | inr gt ↦ absurd (other_cables k j t s b a (sym same) gt (sym on_one))
        ]
      ]
  one_there j k s t (AtPort a) (AtNode l far b) station cable =
      let mine = a.station in
      let theirs = b.station in
      let within = at_within i.routers a.r a.router a.known in
      absurd (omega arith)
  one_there j k s t (AtNode m far a) (AtPort b) station cable =
      let mine = a.station in
      let theirs = b.station in
      let within = at_within i.routers b.r b.router b.known in
      absurd (omega arith)
  one_there j k s t (AtNode m near a) (AtNode l far b) station cable =
      let mine = a.station in
      let theirs = b.station in
      omega arith

pub unique : (i : Internet) → Passes i → SeatsAreUnique i
unique i ok = record {
  by_address = λ j k s t e f same.
      let w = same_address_is s.address t.address same in
      one_seat i ok j k s t (sits i j s e) (sits i k t f) (ByAddress w.0 w.1);
  by_hardware = λ j k s t e f cable same.
      one_seat i ok j k s t (sits i j s e) (sits i k t f) (ByHardware cable (same_bytes_is s.hardware.0 t.hardware.0 same));
  by_station = λ j k s t e f station cable. one_there i ok j k s t (sits i j s e) (sits i k t f) station cable;
}
