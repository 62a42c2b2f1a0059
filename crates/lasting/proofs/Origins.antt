-- Before its first tick nothing is held in a world, and so it stays right in all that follows.
use Rattle.std.proofs.Common.{◌≡◌, ℕ, zero, suc, ◌≤◌, List, [], ◌∷◌, ◌++◌}
use Rattle.std.proofs.Common.{refl, sym, ap, ◌∙◌, subst, length, map, inl, inr}
use Rattle.std.proofs.lemmas.Bool.{cases_lt}
use Rattle.aarp.specs.declared.held.Held.{Held as Waiter}
use Rattle.at_base.specs.Range.{Span}
use Rattle.audit.proofs.WalkLists.{At, at_below}
use Rattle.cable_model.specs.Books.{HasOneSeat}
use Rattle.cable_model.specs.declared.seat.Seat.{Seat}
use Rattle.internet_file.specs.Files.{Planned}
use Rattle.internet_file.specs.declared.cable.Cable.{Cable}
use Rattle.internet_file.specs.declared.router.Router.{Router as PlannedRouter}
use Rattle.lasting.proofs.Earlier.{AreHeldIn, ranges_by, ranges_in}
use Rattle.lasting.proofs.Hardware.{begun_same, hardware_of}
use Rattle.lasting.proofs.History.{AreAllRight, IsRight, all_on, hardware_in}
use Rattle.lasting.proofs.Placed.{ArePlaced, IsPlaced, begun_placed}
use Rattle.lasting.proofs.Rightly.{AreRight}
use Rattle.lasting.specs.Begun.{AreNextTicks, HasRun, IsBegun}
use Rattle.lasting.specs.Resting.{last_of}
use Rattle.live_cables.proofs.Pending.{Has}
use Rattle.live_cables.specs.Finding.{held_at}
use Rattle.live_cables.specs.Living.{Wires}
use Rattle.live_node.specs.Living.{LivingNode}
use Rattle.live_router.specs.Living.{Living}
use Rattle.planned_stations.specs.Beginning.{router_begun}
use Rattle.planned_stations.specs.Seating.{plan_seats}
use Rattle.station.specs.declared.member.Member.{Member}
use Rattle.station.specs.declared.member.Member.TheVariants.{Router as RouterMember, Node as NodeMember}
use Rattle.world.specs.Worlds.{Worldly}

-- nothing is held at seats that know nothing
nothing_held : (ss : List Seat) (j : ℕ) (x : Waiter) → Has (held_at (map (λ (s : Seat). record { known = []; held = [] }) ss) j) x → ⊥
nothing_held [] j x h = let g = h.1 in cc
nothing_held (s ∷ ss) zero x h = let g = h.1 in cc
nothing_held (s ∷ ss) (suc j) x h = nothing_held ss j x h

-- the routers before the first tick
begun_router : (cables : List Cable) (rs : List PlannedRouter) (ns : List LivingNode) (k : ℕ) (r : PlannedRouter) (l : Living) → At rs k r
    → At (map (λ r. RouterMember (router_begun cables r)) rs ++ map NodeMember ns) k (RouterMember l) → router_begun cables r ≡ l
begun_router cables [] ns k r l er em = cc
begun_router cables (x ∷ rs) ns zero r l er em =
    let is : x ≡ r = cc in
    let made : router_begun cables x ≡ l = cc in
    ap (router_begun cables) (sym is) ∙ made
begun_router cables (x ∷ rs) ns (suc k) r l er em = begun_router cables rs ns k r l er em

-- a world before its first tick is right
begun_right : (w : Worldly) → IsBegun w → (one : HasOneSeat (plan_seats w.plan))
    → (valid : (k q : ℕ) (range : Span) → At (ranges_by w.plan k) q range → 1 ≤ range.start) → AreAllRight w.plan one valid w
begun_right w b one valid = record {
  plan_is = refl;
  seats = ap (λ (x : Wires). x.cabling.seats) b.wires;
  held = λ j s e range at x there.
      absurd (nothing_held (plan_seats w.plan) j x (subst (λ (y : Wires). Has (held_at y.maps j) x) b.wires there));
  stations = λ k m em. by k m em;
}
  where
    placed : ArePlaced w.plan 0 w.stations
    placed = begun_placed w.plan w.stations b.stations

    router : (k : ℕ) (l : Living) (r : PlannedRouter) → At w.plan.routers k r → At w.stations k (RouterMember l) → IsRight w.plan k (RouterMember l)
    router k l r er em =
        let p : IsPlaced w.plan.cables 0 r (RouterMember l) = placed.routers k r (RouterMember l) er em in
        let made : router_begun w.plan.cables r ≡ l =
        begun_router w.plan.cables w.plan.routers b.stations.nodes k r l er (subst (λ ms. At ms k (RouterMember l)) b.stations.are em) in (
          p.1 ∙ ap (ranges_in w.plan.cables) (sym er),
          ap (λ (z : Living). hardware_of z.router.ports) (sym made) ∙ (begun_same w.plan.cables r.port ∙ ap hardware_in (sym er)),
          subst (λ (z : Living). AreRight (ranges_by w.plan k) z.router.routes) made tt,
        )

    by : (k : ℕ) (m : Member Living LivingNode) → At w.stations k m → IsRight w.plan k m
    by k (RouterMember l) em =
        elim (cases_lt k (length w.plan.routers)) [
          | inl lt ↦ let r = at_below w.plan.routers k lt in router k l r.0 r.1 em
          | inr le ↦ absurd (placed.nodes k (RouterMember l) le em)
        ]
    by k (NodeMember n) em =
        elim (cases_lt k (length w.plan.routers)) [
          | inr le ↦ le
          | inl lt ↦ let r = at_below w.plan.routers k lt in absurd (placed.routers k r.0 (NodeMember n) r.1 em)
        ]

-- ticks leave the plan
plans_same : (w : Worldly) (vs : List Worldly) → AreNextTicks w vs → (last_of w vs).plan ≡ w.plan
plans_same w [] ticks = refl
plans_same w (v ∷ vs) (t, ticks) = plans_same v vs ticks ∙ t.plan

-- What holds of a world that has run: its routers have the hardware addresses of the plan, and what is held is in ranges.
pub record HasComeRight (w : Worldly) : Type 0 where
  pub held : AreHeldIn w.plan w.wires.maps
  pub stations : (k : ℕ) (m : Member Living LivingNode) → At w.stations k m → IsRight w.plan k m

-- so is a world that has come from it by ticks
pub comes_right : (w : Worldly) → HasRun w → HasOneSeat (plan_seats w.plan)
    → ((k q : ℕ) (range : Span) → At (ranges_by w.plan k) q range → 1 ≤ range.start) → HasComeRight w
comes_right w run one valid =
    let same : w.plan ≡ run.first.plan = ap (λ (v : Worldly). v.plan) run.last ∙ plans_same run.first run.ticks run.passed in
    let first_one : HasOneSeat (plan_seats run.first.plan) = subst (λ p. HasOneSeat (plan_seats p)) same one in
    let first_valid : (k q : ℕ) (range : Span) → At (ranges_by run.first.plan k) q range → 1 ≤ range.start =
    subst (λ (p : Planned). (k q : ℕ) (range : Span) → At (ranges_by p k) q range → 1 ≤ range.start) same valid in
    let h = all_on run.first.plan first_one first_valid run.first run.ticks (begun_right run.first run.begun first_one first_valid) run.passed in
    record {
      held = subst (λ (v : Worldly). AreHeldIn w.plan v.wires.maps) (sym run.last)
          (subst (λ p. AreHeldIn p (last_of run.first run.ticks).wires.maps) (sym same) h.held);
      stations = λ k m em.
          subst (λ p. IsRight p k m) (sym same) (h.stations k m (subst (λ (v : Worldly). At v.stations k m) run.last em));
    }
