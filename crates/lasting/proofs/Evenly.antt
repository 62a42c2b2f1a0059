-- What the audit of an image says of the plan of its stations: no router has two ports on one cable, no range of a cable begins with
-- network 0, and the hardware addresses of ports are no multicast ones.
use Rattle.std.proofs.Common.{◌≡◌, inl, inr, ℕ, suc, ◌-◌, ◌%◌, ◌<◌, ◌≤◌, ◌==◌, ◌&&◌, Bool, true, false, not, List, [], ◌∷◌, Option, Some, None}
use Rattle.std.proofs.Common.{refl, sym, ap, ◌∙◌, subst, slice_get, take, arith, eqb-true, eq-eqb, true≢false, if◌then◌else◌}
use Rattle.std.specs.Prelude.{slice_index}
use Rattle.std.proofs.lemmas.Bool.{and_parts, cases_order, or_parts, not-false}
use Rattle.aarp.specs.Choosing.{Choice}
use Rattle.aarp.specs.Mapping.{Mappings}
use Rattle.at_base.proofs.Texts.{same_bytes_is, same_bytes_self}
use Rattle.at_base.specs.Address.{same_address}
use Rattle.at_base.specs.Multicast.{is_all, is_group}
use Rattle.at_base.specs.Range.{Span, is_between}
use Rattle.at_base.specs.Text.{same_bytes}
use Rattle.at_base.specs.declared.address.Addr.{Addr}
use Rattle.at_base.specs.declared.error.Place.TheVariants as place
use Rattle.audit.proofs.SeatPlaces.{AtNode, AtPort, sits}
use Rattle.audit.proofs.WalkFacts.{owner_is}
use Rattle.audit.proofs.WalkLists.{At, at_below, at_map, at_within, find_at, none_before}
use Rattle.audit.proofs.WalkSteps.{cable_good}
use Rattle.audit.specs.Places.{on}
use Rattle.audit.specs.Routing.{owner}
use Rattle.audit.specs.Rules.{Passes, bad_address, bad_port}
use Rattle.cable_model.specs.Pending.{is_for, listens}
use Rattle.cable_model.specs.declared.seat.Seat.{Seat}
use Rattle.freeze.specs.Freezing.{address_of, frozen_router}
use Rattle.freeze.specs.Frozen.{cables_by}
use Rattle.internet_file.specs.Files.{Planned}
use Rattle.internet_file.specs.Stations.{cable_at}
use Rattle.internet_file.specs.declared.port.Port.{Port as PlannedPort}
use Rattle.internet_file.specs.declared.router.Router.{Router as PlannedRouter}
use Rattle.lasting.proofs.Earlier.{range_from, ranges_by}
use Rattle.lasting.proofs.Ground.{image_router, port_cable}
use Rattle.lasting.proofs.Images.{mapped, port_at, port_of}
use Rattle.lasting.proofs.Stored.{same_is}
use Rattle.lasting.specs.Standing.{AreStanding, IsStandingAsRouter, IsStandingRouter}
use Rattle.live_node.specs.Living.{LivingNode}
use Rattle.live_router.specs.Living.{Living}
use Rattle.planned_stations.specs.Beginning.{range_of}
use Rattle.settled.specs.Settling.{IsSettled}
use Rattle.station.specs.declared.member.Member.{Member}
use Rattle.station.specs.declared.member.Member.TheVariants.{Router as RouterMember, Node as NodeMember}
use Rattle.table_image.specs.Bounds.{IsBounded}
use Rattle.table_image.specs.Internet.{Internet}
use Rattle.table_image.specs.Seats.{seats}
use Rattle.table_image.specs.declared.cable.Cable.{Cable}
use Rattle.table_image.specs.declared.port.Port.{Port}
use Rattle.table_image.specs.declared.router.Router.{Router}
use Rattle.table_image.specs.declared.version.Version.TheVariants.{V1}
use Rattle.freeze.specs.Frozen.{frozen_in}

-- ---- Hardware addresses

-- bytes of which the first is even don't begin with 9
even_first : (bytes rest : List ℕ) → bytes ≡ 9 ∷ rest → (slice_index bytes 0 % 2 == 1) ≡ false → ⊥
even_first bytes rest is even = true≢false (sym (ap (λ l. slice_index l 0 % 2 == 1) is) ∙ even)

-- neither do the first five of them
front_is : (bytes rest : List ℕ) → take 5 bytes ≡ 9 ∷ rest → (slice_index bytes 0 % 2 == 1) ≡ false → ⊥
front_is [] rest e even = cc
front_is (b ∷ bytes) rest e even = let is : b ≡ 9 = cc in even_first (b ∷ bytes) bytes (ap (λ n. n ∷ bytes) is) even

-- what is sent to a seat's hardware address, if its first byte is even, is for the seat
pub own_heard : (s : Seat) (sender : ℕ) → (slice_index s.hw.0 0 % 2 == 1) ≡ false → is_for s.hw sender s ≡ true
own_heard s sender even = by (is_all s.hw) refl (is_group s.hw) refl
  where
    by : (a : Bool) → is_all s.hw ≡ a → (g : Bool) → is_group s.hw ≡ g
        → (if a then not (s.station == sender)
        else if g then not (s.station == sender) && listens (slice_index s.hw.0 5) s.group
        else same_bytes s.hw.0 s.hw.0) ≡ true
    by true e g f = absurd (even_first s.hw.0 _ (same_bytes_is s.hw.0 (9 ∷ 0 ∷ 7 ∷ 255 ∷ 255 ∷ 255 ∷ []) e) even)
    by false e true f =
        absurd (front_is s.hw.0 _ (same_bytes_is (take 5 s.hw.0) (9 ∷ 0 ∷ 7 ∷ 0 ∷ 0 ∷ []) (and_parts _ _ f).0) even)
    by false e false f = same_bytes_self s.hw.0

-- ---- Owners

-- a router's port that has an address on a cable
pub record HasAddress (i : Internet) (r cable : ℕ) (a : Addr) : Type 0 where
  pub router : Router
  pub router_at : At i.routers r router
  pub q : ℕ
  pub port : Port
  pub port_at : At router.ports q port
  pub on_cable : port.cable ≡ cable
  pub address : port.address ≡ a

-- the owner of an address on a cable has a port with it there
pub owner_port : (i : Internet) (c : ℕ) (a : Addr) (r : ℕ) → owner i c a ≡ Some r → HasAddress i r c a
owner_port i c a r e =
    let known = owner_is i c a r e in
    let seat = known.0.0 in
    let w = find_at (λ s. s.cable == c && same_address s.address a) (seats i) seat known.0.1 in
    let parts = and_parts (seat.cable == c) (same_address seat.address a) w.2 in
    let its = known.0.2 in
    let within = known.1 in
    elim (sits i w.0 seat w.1) [
      | AtPort s ↦
          let station = s.station in
          let same : s.r ≡ r = omega (arith, station, its) in
          record {
            router = s.router;
            router_at = subst (λ n. At i.routers n s.router) same s.known;
            q = s.p;
            port = s.port;
            port_at = s.at;
            on_cable = sym s.cable ∙ eqb-true _ _ parts.0;
            address = sym s.address ∙ same_is seat.address a parts.1;
          }
      | AtNode k far s ↦ let station = s.station in absurd (omega (arith, station, far, its, within))
    ]

-- ---- Ports

-- the address of a router's port is in the range of its cable
pub port_in : (i : Internet) → Passes i → (r q : ℕ) (router : Router) (port : Port) → At i.routers r router → At router.ports q port
    → (c : Cable) × At i.cables port.cable c × (is_between c.start c.end port.address.net ≡ true)
port_in i ok r q router port er ep =
    let bad : bad_port i r q router port ≡ false =
    sym (ap (λ o. on o (λ router. on (slice_get router.ports q) (bad_port i r q router))) er ∙ ap (λ o. on o (bad_port i r q router)) ep)
    ∙ ok 2 (place.Port (suc r) (suc q)) in
    let address : bad_address i port.cable port.address port.hardware ≡ false = (or_parts _ _ (or_parts _ _ bad).0).0 in
    of (slice_get i.cables port.cable) (not-false _ (or_parts _ _ (or_parts _ _ (or_parts _ _ address).0).0).0)
  where
    of : (o : Option Cable) → on o (λ c. is_between c.start c.end port.address.net) ≡ true
        → (c : Cable) × (o ≡ Some c) × (is_between c.start c.end port.address.net ≡ true)
    of None e = cc
    of (Some c) e = (c, refl, e)

module _ (plan : Planned) (phase : ℕ) (stations : List (Member Living LivingNode)) (maps : List Mappings) (standing : AreStanding plan phase stations)
    (ok : Passes (frozen_in V1 plan stations maps)) (settled : IsSettled (frozen_in V1 plan stations maps))
    (bounded : IsBounded (frozen_in V1 plan stations maps)) where
  -- the router of a planned one
  pub live_router : (k : ℕ) (r : PlannedRouter) → At plan.routers k r
      → (l : Living) × At stations k (RouterMember l) × IsStandingRouter plan.cables phase r l
  live_router k r er =
      let low = at_within plan.routers k r er in
      let enough = standing.whole in
      let m = at_below stations k (omega (arith, low, enough)) in
      by m.0 m.1 (standing.routers k r m.0 er m.1)
    where
      by : (m : Member Living LivingNode) → At stations k m → IsStandingAsRouter plan.cables phase r m
          → (l : Living) × At stations k (RouterMember l) × IsStandingRouter plan.cables phase r l
      by (RouterMember l) e h = (l, e, h)
      by (NodeMember n) e h = absurd h

  -- the choice of a planned port
  pub live_choice : (r : PlannedRouter) (l : Living) → IsStandingRouter plan.cables phase r l → (q : ℕ) (p : PlannedPort) → At r.port q p
      → (c : Choice) × At l.router.ports q c × (range_of (cable_at plan.cables p.cable) ≡ c.range)
  live_choice r l h q p e =
      at_map (λ (c : Choice). c.range) l.router.ports q (range_of (cable_at plan.cables p.cable))
      (subst (λ l. At l q (range_of (cable_at plan.cables p.cable))) (sym h.ranges)
      (mapped (λ (p : PlannedPort). range_of (cable_at plan.cables p.cable)) r.port q p e))

  -- its port in the image is good
  port_good : (k : ℕ) (r : PlannedRouter) (l : Living) (er : At plan.routers k r) (em : At stations k (RouterMember l)) → (q : ℕ) (p : PlannedPort) (c : Choice)
      → At r.port q p → At l.router.ports q c
      → At (frozen_router V1 (cables_by r) l.router (image_router plan phase stations maps standing k r l er em).0).ports q (port_of (p.cable - 1) c)
      × (bad_port (frozen_in V1 plan stations maps) k q (frozen_router V1 (cables_by r) l.router (image_router plan phase stations maps standing k r l er em).0) (port_of (p.cable - 1) c) ≡ false)
  port_good k r l er em q p c ep ec =
      let x = image_router plan phase stations maps standing k r l er em in
      let router = frozen_router V1 (cables_by r) l.router x.0 in
      let port : At router.ports q (port_of (p.cable - 1) c) =
      port_at (cables_by r) l.router.ports x.0 q (p.cable - 1) c (mapped (λ (p : PlannedPort). p.cable - 1) r.port q p ep) ec in (
        port,
        sym (ap (λ o. on o (λ router. on (slice_get router.ports q) (bad_port (frozen_in V1 plan stations maps) k q router))) x.1
            ∙ ap (λ o. on o (bad_port (frozen_in V1 plan stations maps) k q router)) port)
            ∙ ok 2 (place.Port (suc k) (suc q)),
      )

  -- two ports of a router aren't on one cable
  never : (k : ℕ) (r : PlannedRouter) (p q : ℕ) (a b : PlannedPort) → At plan.routers k r → At r.port p a → At r.port q b
      → a.cable - 1 ≡ b.cable - 1 → p < q → ⊥
  never k r p q a b er ea eb same lt =
      let l = live_router k r er in
      let c = live_choice r l.0 l.2 p a ea in
      let d = live_choice r l.0 l.2 q b eb in
      let first = port_good k r l.0 er l.1 p a c.0 ea c.1 in
      let second = port_good k r l.0 er l.1 q b d.0 eb d.1 in
      let x = image_router plan phase stations maps standing k r l.0 er l.1 in
      let none = (or_parts _ _ second.1).1 in
      let off = none_before (λ (z : Port). z.cable == b.cable - 1) (frozen_router V1 (cables_by r) l.0.router x.0).ports q none p (port_of (a.cable - 1) c.0) lt
      first.0 in
      true≢false (sym (eq-eqb (a.cable - 1) (b.cable - 1) same) ∙ off)

  -- no router has two ports on one cable
  pub apart : (k : ℕ) (r : PlannedRouter) (p q : ℕ) (a b : PlannedPort) → At plan.routers k r → At r.port p a → At r.port q b → a.cable - 1 ≡ b.cable - 1
      → p ≡ q
  apart k r p q a b er ea eb same =
      elim (cases_order p q) [
        | inl e ↦ e
        | inr h ↦ elim h [
          | inl lt ↦ absurd (never k r p q a b er ea eb same lt)
          | inr gt ↦ absurd (never k r q p b a er eb ea (sym same) gt)
        ]
      ]

  -- the hardware addresses are of single stations
  pub even : (k : ℕ) (r : PlannedRouter) (l : Living) → At plan.routers k r → At stations k (RouterMember l) → (q : ℕ) (p : PlannedPort) (c : Choice)
      → At r.port q p → At l.router.ports q c → (slice_index c.hw.0 0 % 2 == 1) ≡ false
  even k r l er em q p c ep ec =
      let bad = (port_good k r l er em q p c ep ec).1 in
      let address : bad_address (frozen_in V1 plan stations maps) (p.cable - 1) (address_of c) c.hw ≡ false = (or_parts _ _ (or_parts _ _ bad).0).0 in
      (or_parts _ _ address).1

  -- no range of a port's cable begins with network 0
  pub valid : (k q : ℕ) (range : Span) → At (ranges_by plan k) q range → 1 ≤ range.start
  valid k q range e =
      let w = range_from plan k q range e in
      let l = live_router k w.0 w.1 in
      let c = live_choice w.0 l.0 l.2 q w.2 w.3 in
      let z = port_cable plan phase stations maps standing ok settled bounded k w.0 l.0 w.1 l.1 l.2 q c.0 c.1 in
      let good = cable_good (frozen_in V1 plan stations maps) ok (z.0.cable - 1) z.2 z.3 in
      let low = good.low in
      let same : range.start ≡ z.2.start = ap (λ (s : Span). s.start) (w.4 ∙ (c.2 ∙ z.4)) in
      omega (arith, low, same)
