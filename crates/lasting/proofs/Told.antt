-- In a world that has run and has settled by its image of version 1, its image of version 2 passes, is settled and is within the
-- limits if and only if all that the seats know is so.
use Rattle.std.proofs.Common.{◌≡◌, ℕ, suc, ◌%◌, true≢false, not, false, List, [], ◌∷◌, Option, Some, None, refl, sym, ap, ◌∙◌, subst, slice_get}
use Rattle.std.proofs.Common.{length, map, arith}
use Rattle.std.specs.List.{list_any, AllByRecursion as Each}
use Rattle.std.proofs.lemmas.Bool.{and_parts, not-false}
use Rattle.std.proofs.lemmas.List.{length-drop}
use Rattle.aarp.specs.Mapping.{Mappings, by_address}
use Rattle.at_base.specs.Address.{same_address}
use Rattle.at_base.specs.declared.address.Addr.{Addr}
use Rattle.at_base.specs.declared.address.Hw.{Hw}
use Rattle.audit.proofs.Finding.{any_at}
use Rattle.audit.proofs.SeatUnique.{addressed}
use Rattle.audit.proofs.WalkLists.{At, at_map, none_passes}
use Rattle.audit.specs.Rules.{Passes, is_false, is_mapped, same_hardware}
use Rattle.cable_model.proofs.Counting.{each_at}
use Rattle.cable_model.specs.declared.seat.Seat.{Seat}
use Rattle.freeze.specs.Freezing.{frozen_mapping, frozen_mappings}
use Rattle.lasting.proofs.Apart.{run_apart}
use Rattle.lasting.proofs.Ground.{last_nodes}
use Rattle.lasting.proofs.Holders.{AreTold, c10_all, c10_each, each_seated, holders, holders_are, node_holds, port_holds, seated, seated_at}
use Rattle.lasting.proofs.Images.{mapped}
use Rattle.lasting.proofs.Learning.{known_of}
use Rattle.lasting.proofs.Limited.{bounded_with}
use Rattle.lasting.proofs.Mapless.{passes_with, seats_alone, settled_with}
use Rattle.lasting.proofs.Ordering.{IsLow, from_ordered, each_ordered, mappings_within}
use Rattle.lasting.proofs.Run.{has_come, rests}
use Rattle.lasting.proofs.Seated.{IsTold, as_many, first_routers, mapping}
use Rattle.lasting.proofs.Stored.{same_is}
use Rattle.lasting.proofs.Truthful.{AreAllTrue}
use Rattle.lasting.proofs.Versions.{alone}
use Rattle.lasting.specs.Begun.{HasRun}
use Rattle.lasting.specs.Settled.{IsSettledIn, IsSettledWorld}
use Rattle.live_cables.proofs.Pending.{Has, none_any}
use Rattle.planned_stations.specs.Seating.{plan_seats}
use Rattle.settled.specs.Settling.{IsSettled}
use Rattle.table_image.specs.Bounds.{AreMappings, IsBounded}
use Rattle.table_image.specs.Internet.{Internet}
use Rattle.table_image.specs.Seats.{seats}
use Rattle.table_image.specs.declared.version.Version.TheVariants.{V1, V2}
use Rattle.world.specs.Frozen.{frozen_as}
use Rattle.world.specs.Worlds.{Worldly}

-- what holds of each element, one by one
each_by : (P : Addr × Hw → Type 0) (xs : List (Addr × Hw)) → ((x : Addr × Hw) → Has xs x → P x) → Each P xs
each_by P [] h = tt
each_by P (x ∷ xs) h = (h x (0, refl), each_by P xs (λ y e. h y (suc e.0, e.1)))

-- and of one, what holds of each
by_each : (P : Addr × Hw → Type 0) (xs : List (Addr × Hw)) → Each P xs → (x : Addr × Hw) → Has xs x → P x
by_each P xs h x e = each_at P xs e.0 x e.1 h

-- mappings are true if each is, and each is if they are
told_each : (i : Internet) (cable : ℕ) (known : List (Addr × Hw)) → list_any (is_false i cable) (map frozen_mapping known) ≡ false
    → Each (λ (x : Addr × Hw). IsTold (seats i) cable x.0 x.1) known
told_each i cable known h =
    each_by _ known (λ x e.
    not-false (list_any (is_mapped cable (mapping x.0 x.1)) (seats i))
    (none_passes (is_false i cable) (map frozen_mapping known) h e.0 (frozen_mapping x) (mapped frozen_mapping known e.0 x e.1)))

-- they are true where each is
each_told : (i : Internet) (cable : ℕ) (known : List (Addr × Hw)) → Each (λ (x : Addr × Hw). IsTold (seats i) cable x.0 x.1) known
    → list_any (is_false i cable) (map frozen_mapping known) ≡ false
each_told i cable known h =
    none_any (is_false i cable) (map frozen_mapping known) (λ m e t.
    let w = at_map frozen_mapping known e.0 m e.1 in
    let so : IsTold (seats i) cable w.0.0 w.0.1 = by_each _ known h w.0 (e.0, w.1) in
    true≢false (sym t ∙ (ap (is_false i cable) w.2 ∙ ap not so)))

-- the address of a station on a cable has a node below 256
told_low : (i : Internet) → Passes i → (cable : ℕ) (x : Addr × Hw) → IsTold (seats i) cable x.0 x.1 → IsLow x
told_low i ok cable x h =
    let w = any_at (is_mapped cable (mapping x.0 x.1)) (seats i) h in
    let seat = addressed i ok w.0 w.1 w.2 in
    let high = seat.high in
    let parts = and_parts _ (same_hardware x.1 w.1.hardware) w.3 in
    let both = and_parts _ (same_address x.0 w.1.address) parts.0 in
    let same = ap (λ (a : Addr). a.node) (same_is x.0 w.1.address both.1) in
    omega (arith, high, same)

module _ (w : Worldly) (run : HasRun w) (s : IsSettledWorld w) where
  -- the images
  abbrev one : Internet
  one = frozen_as V1 w

  -- that of version 2
  abbrev two : Internet
  two = frozen_as V2 w

  -- they have the same seats
  same_seats : seats two ≡ seats one
  same_seats = sym (seats_alone two) ∙ ap seats (alone w)

  -- the mappings are those of the seats
  here : holders two ≡ seated (plan_seats w.plan) w.wires.maps
  here =
      let rest = rests w (has_come w run) s in
      let standing = rest.standing in
      let many = standing.as_many in
      holders_are w.plan w.stations w.wires.maps
      (first_routers w.plan (w.now % 100) w.stations w.wires.maps standing s.passes s.settled s.bounded)
      (as_many w.plan (w.now % 100) w.stations w.wires.maps standing s.passes s.settled s.bounded) standing.whole
      (last_nodes w.plan (w.now % 100) w.stations w.wires.maps standing)
      (omega (arith, many, length-drop (length w.plan.routers) w.stations))

  -- all that the seats know is so
  abbrev pub AreSo : Type 0
  AreSo = AreAllTrue (IsTold (seats one)) (plan_seats w.plan) (known_of w.wires.maps)

  -- so it is where the image of version 2 passes
  pub so_of : Passes two → AreSo
  so_of ok j z l ez el x there =
      let m = at_map (λ (m : Mappings). m.known) w.wires.maps j l el in
      let all : Each (AreTold two) (seated (plan_seats w.plan) w.wires.maps) = subst (Each (AreTold two)) here (c10_each two (λ p. ok 10 p)) in
      let at_seat : AreTold two (z.cable, frozen_mappings V2 (slice_get w.wires.maps j)) =
      seated_at (AreTold two) (plan_seats w.plan) w.wires.maps all j z ez in
      let true_ones : AreTold two (z.cable, frozen_mappings V2 (Some m.0)) = subst (λ o. AreTold two (z.cable, frozen_mappings V2 o)) m.1 at_seat in
      let each = from_ordered (λ (x : Addr × Hw). IsTold (seats two) z.cable x.0 x.1) m.0.known (told_each two z.cable (by_address m.0.known) true_ones) in
      subst (λ ss. IsTold ss z.cable x.0 x.1) same_seats (by_each _ m.0.known each x (subst (λ k. Has k x) m.2 there))

  module _ (so : AreSo) where
    -- what a seat knows is so
    each_so : (j : ℕ) (z : Seat) (m : Mappings) → At (plan_seats w.plan) j z → At w.wires.maps j m
        → Each (λ (x : Addr × Hw). IsTold (seats one) z.cable x.0 x.1) m.known
    each_so j z m ez em = each_by _ m.known (so j z m.known ez (mapped (λ (m : Mappings). m.known) w.wires.maps j m em))

    -- the mappings of each seat are true
    seat_true : (j : ℕ) (z : Seat) → At (plan_seats w.plan) j z → AreTold two (z.cable, frozen_mappings V2 (slice_get w.wires.maps j))
    seat_true j z ez = by (slice_get w.wires.maps j) refl
      where
        by : (o : Option Mappings) → slice_get w.wires.maps j ≡ o → AreTold two (z.cable, frozen_mappings V2 o)
        by None e = refl
        by (Some m) e =
            each_told two z.cable (by_address m.known)
            (subst (λ ss. Each (λ (x : Addr × Hw). IsTold ss z.cable x.0 x.1) (by_address m.known)) (sym same_seats)
            (each_ordered (λ (x : Addr × Hw). IsTold (seats one) z.cable x.0 x.1) m.known (each_so j z m ez e)))

    -- and within the limits
    seat_within : (j : ℕ) (z : Seat) → At (plan_seats w.plan) j z → AreMappings (frozen_mappings V2 (slice_get w.wires.maps j))
    seat_within j z ez = by (slice_get w.wires.maps j) refl
      where
        by : (o : Option Mappings) → slice_get w.wires.maps j ≡ o → AreMappings (frozen_mappings V2 o)
        by None e = mappings_within [] tt tt (omega arith)
        by (Some m) e =
            let apart = run_apart w run j m.known (mapped (λ (m : Mappings). m.known) w.wires.maps j m e) in
            mappings_within m.known
            (each_by IsLow m.known (λ x there. told_low one s.passes z.cable x (by_each _ m.known (each_so j z m ez e) x there))) apart.0 apart.1

    -- so the world has settled by its image of version 2
    pub settled_up : IsSettledIn V2 w
    settled_up =
        let within = subst (Each (λ h. AreMappings h.1)) (sym here) (each_seated (λ h. AreMappings h.1) (plan_seats w.plan) w.wires.maps seat_within) in
        record {
          pending = s.pending;
          plain = s.plain;
          spared = s.spared;
          stations = s.stations;
          passes =
              passes_with two (subst Passes (sym (alone w)) s.passes)
              (c10_all two (subst (Each (AreTold two)) (sym here) (each_seated (AreTold two) (plan_seats w.plan) w.wires.maps seat_true)));
          settled = settled_with two (subst IsSettled (sym (alone w)) s.settled);
          bounded =
              bounded_with two (subst IsBounded (sym (alone w)) s.bounded)
              (λ r p router port er ep. port_holds (λ h. AreMappings h.1) two within r p router port er ep)
              (λ k node e. node_holds (λ h. AreMappings h.1) two within k node e);
        }
