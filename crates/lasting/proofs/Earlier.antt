-- From the beginning on: rows of routers lead by their ports, their ports have the hardware addresses of the plan, and what is held at
-- the seat of a port is for addresses in the range of its cable.
use Rattle.std.proofs.Common.{◌≡◌, inl, inr, ◌⊎◌, ℕ, ◌<◌, ◌==◌, ◌&&◌, true, List, [], ◌++◌, Option, Some, None}
use Rattle.std.proofs.Common.{refl, sym, ap, ◌∙◌, subst, slice_get, length, map, arith, eqb-true}
use Rattle.std.proofs.lemmas.Bool.{and_parts}
use Rattle.aarp.specs.Mapping.{Mappings}
use Rattle.aarp.specs.declared.held.Held.{Held as Waiter}
use Rattle.at_base.specs.Range.{Span}
use Rattle.at_base.specs.declared.address.Addr.{Addr}
use Rattle.audit.proofs.WalkLists.{At, at_below, at_map, at_one, at_within}
use Rattle.cable_model.specs.Books.{HasOneSeat}
use Rattle.cable_model.specs.Outcomes.{Held, cable_of}
use Rattle.cable_model.specs.Outgoing.{held_entries}
use Rattle.cable_model.specs.Transcript.{Entry, next_stamp}
use Rattle.cable_model.specs.declared.resolve.HeldBy.{HeldBy}
use Rattle.cable_model.specs.declared.seat.Seat.{Seat}
use Rattle.internet_file.specs.Files.{Planned}
use Rattle.internet_file.specs.Stations.{cable_at}
use Rattle.internet_file.specs.declared.cable.Cable.{Cable}
use Rattle.internet_file.specs.declared.port.Port.{Port as PlannedPort}
use Rattle.internet_file.specs.declared.router.Router.{Router as PlannedRouter}
use Rattle.lasting.proofs.Images.{seat_of}
use Rattle.lasting.proofs.Rightly.{IsIn}
use Rattle.lasting.proofs.Sitting.{same_seat, seat_cabled}
use Rattle.lasting.proofs.Stored.{held_after, learnt_after, position_at, ticked_was}
use Rattle.live_cables.proofs.Pending.{Has}
use Rattle.live_cables.specs.Finding.{Knowing, held_at, seat_on}
use Rattle.live_cables.specs.Holding.{Holds, with_learnt, with_tick}
use Rattle.live_cables.specs.Steps.{AreLossesOf, are_calm}
use Rattle.live_cables.specs.declared.answer.Answer.{Answer}
use Rattle.planned_stations.specs.Beginning.{range_of}
use Rattle.planned_stations.specs.Seating.{plan_seats}

-- the ranges of the cables of a planned router's ports
abbrev pub ranges_in : List Cable → Option PlannedRouter → List Span
ranges_in cables None = []
ranges_in cables (Some r) = map (λ p. range_of (cable_at cables p.cable)) r.port

-- those of a station's ports: a node has none
abbrev pub ranges_by : Planned → ℕ → List Span
ranges_by plan k = ranges_in plan.cables (slice_get plan.routers k)

-- the range of a port, and the planned port
pub range_from : (plan : Planned) (k q : ℕ) (range : Span) → At (ranges_by plan k) q range
    → (r : PlannedRouter) × At plan.routers k r × (p : PlannedPort) × At r.port q p × (range ≡ range_of (cable_at plan.cables p.cable))
range_from plan k q range e = by (slice_get plan.routers k) refl e
  where
    by : (o : Option PlannedRouter) → slice_get plan.routers k ≡ o → At (ranges_in plan.cables o) q range
        → (r : PlannedRouter) × At plan.routers k r × (p : PlannedPort) × At r.port q p × (range ≡ range_of (cable_at plan.cables p.cable))
    by None f at = absurd cc
    by (Some r) f at =
        let w = at_map (λ (p : PlannedPort). range_of (cable_at plan.cables p.cable)) r.port q range at in
        (r, f, w.0, w.1, w.2)

-- what is held at the seat of a port is for addresses in the range of its cable
abbrev pub AreHeldIn : Planned → List Mappings → Type 0
AreHeldIn plan maps =
    (j : ℕ) (s : Seat) → At (plan_seats plan) j s → (range : Span) → At (ranges_by plan s.station) s.port range → (x : Waiter)
    → Has (held_at maps j) x → IsIn range x.next.net

module _ (plan : Planned) (one : HasOneSeat (plan_seats plan)) where
  -- a station may hold a datagram for an address on a cable
  abbrev pub FitsIn : ℕ → ℕ → Addr → Type 0
  FitsIn station cable a =
      (s : Seat) → Has (plan_seats plan) s → s.station ≡ station → s.cable ≡ cable → (range : Span) → At (ranges_by plan station) s.port range
      → IsIn range a.net

  -- and send it by a port
  abbrev pub MayIn : ℕ → ℕ → Addr → Type 0
  MayIn station port a =
      ((q : ℕ) (range : Span) → At (ranges_by plan station) q range → port < length (ranges_by plan station))
      × ((range : Span) → At (ranges_by plan station) port range → IsIn range a.net)

  -- so it may hold it on the cable of each seat of the port
  pub by_seat : (s : Seat) (a : Addr) → Has (plan_seats plan) s → MayIn s.station s.port a → FitsIn s.station s.cable a
  by_seat s a has may z has_z station cable range at =
      let same : z ≡ s = same_seat (plan_seats plan) one z s has_z has cable station in
      may.1 range (subst (λ (y : Seat). At (ranges_by plan s.station) y.port range) same at)

  -- and on the cable of the port
  pub by_port : (station port : ℕ) (a : Addr) → MayIn station port a → FitsIn station (cable_of (plan_seats plan) station port) a
  by_port station port a may z has_z of cable range at =
      let low = may.0 z.port range at in
      let there = at_below (ranges_by plan station) port low in
      let w = range_from plan station port there.0 there.1 in
      let s = seat_of plan station w.0 port w.2 w.1 w.3 in
      let router = at_within plan.routers station w.0 w.1 in
      let s_station = s.2 in
      let on : cable_of (plan_seats plan) station port ≡ s.0.cable =
      subst (λ n. cable_of (plan_seats plan) n port ≡ s.0.cable) s.2
      (subst (λ q. cable_of (plan_seats plan) s.0.station q ≡ s.0.cable) s.3 (seat_cabled plan s.0 s.1 (omega (arith, router, s_station)))) in
      let same : z ≡ s.0 = same_seat (plan_seats plan) one z s.0 has_z s.1 (cable ∙ on) (of ∙ sym s.2) in
      let port_is : z.port ≡ port = ap (λ (y : Seat). y.port) same ∙ s.3 in
      may.1 range (subst (λ q. At (ranges_by plan station) q range) port_is at)

  -- ---- Steps

  -- as facts of a transcript, which they don't depend on
  abbrev pub HeldInv : List Entry → List Mappings → Type 0
  HeldInv t maps = AreHeldIn plan maps

  -- anything may be lost
  abbrev pub any_loss : List ℕ → Type 0
  any_loss ss = Unit {0}

  -- entries are added
  pub held_grows : (t es : List Entry) (maps : List Mappings) → are_calm t es ≡ true → HeldInv t maps → HeldInv (t ++ es) maps
  held_grows t es maps calm h = h

  -- frames are lost
  pub held_lost : (ss : List ℕ) (t es : List Entry) (maps : List Mappings) → any_loss ss → AreLossesOf ss es → HeldInv t maps → HeldInv (t ++ es) maps
  held_lost ss t es maps any l h = h

  -- a response is learnt
  pub held_learns : (t : List Entry) (maps : List Mappings) (i : ℕ) (answer : Answer) → HeldInv t maps → HeldInv t (with_learnt maps i answer)
  held_learns t maps i answer h j s e range at x there = h j s e range at x (learnt_after maps i answer j x there).0

  -- the mappings of a seat pass a tick
  pub held_ticks : (maps : List Mappings) (seat : ℕ) → AreHeldIn plan maps → AreHeldIn plan (with_tick maps seat)
  held_ticks maps seat h j s e range at x there =
      let w = ticked_was maps seat j x there in
      subst (λ (a : Addr). IsIn range a.net) (sym w.2) (h j s e range at w.0 w.1)

  -- a datagram is held that the station may hold
  pub held_holds : (station : ℕ) (t : List Entry) (w : Held) (k l : Knowing) (by : HeldBy) → k.seats ≡ plan_seats plan → k.station ≡ station
      → FitsIn station w.cable w.next → Holds k w.cable w.next (next_stamp t) by l → HeldInv t k.maps → HeldInv (t ++ held_entries t station w by) l.maps
  held_holds station t w k l by same of fits holds h = in_case (seat_on k.seats w.cable k.station) refl
    where
      in_case : (o : Option ℕ) → seat_on k.seats w.cable k.station ≡ o → AreHeldIn plan l.maps
      in_case None e =
          let h2 = rw e at holds in
          subst (λ (n : Knowing). AreHeldIn plan n.maps) (sym h2.0) h
      in_case (Some i) e =
          let h2 = rw e at holds in
          subst (λ (n : Knowing). AreHeldIn plan n.maps) (sym h2.0)
          (λ j s es range at x there. here j s es range at x (held_after k.maps i w.next (next_stamp t) j x there))
        where
          here : (j : ℕ) (s : Seat) → At (plan_seats plan) j s → (range : Span) → At (ranges_by plan s.station) s.port range → (x : Waiter)
              → Has (held_at k.maps j) x ⊎ ((j ≡ i) × (x.next ≡ w.next) × ((m : Mappings) × (slice_get k.maps i ≡ Some m)))
              → IsIn range x.next.net
          here j s es range at x (inl old) = h j s es range at x old
          here j s es range at x (inr new) =
              let found = position_at (λ s. s.cable == w.cable && s.station == k.station) k.seats i e in
              let seat : At k.seats i s = subst (λ l. At l i s) (sym same) (subst (λ n. At (plan_seats plan) n s) new.0 es) in
              let is : found.0 ≡ s = at_one k.seats i found.0 s found.1 seat in
              let parts = and_parts (found.0.cable == w.cable) (found.0.station == k.station) found.2 in
              let cable : s.cable ≡ w.cable = sym (ap (λ (y : Seat). y.cable) is) ∙ eqb-true _ _ parts.0 in
              let station_is : s.station ≡ station = sym (ap (λ (y : Seat). y.station) is) ∙ (eqb-true _ _ parts.1 ∙ of) in
              subst (λ (a : Addr). IsIn range a.net) (sym new.1)
              (fits s (j, es) station_is cable range (subst (λ n. At (ranges_by plan n) s.port range) station_is at))
