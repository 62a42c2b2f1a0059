-- What a seat finds is what its station knows.
use Rattle.std.proofs.Common.{◌≡◌, ℕ, zero, suc, Bool, true, false, not, ◌&&◌, ◌||◌, ◌==◌, if◌then◌else◌, cond, is_some}
use Rattle.std.proofs.Common.{List, [], ◌∷◌, Option, Some, None, refl, sym, ap, ◌∙◌, subst, arith, find, map, option_map, slice_get}
use Rattle.std.proofs.Common.{eqb-true, eq-eqb, true≢false}
use Rattle.std.specs.List.{list_any}
use Rattle.std.specs.Option.{option_or}
use Rattle.std.proofs.lemmas.Bool.{false_from_ne_true}
use Rattle.aarp.specs.Mapping.{Mappings, mapping_of}
use Rattle.at_base.specs.Address.{same_address}
use Rattle.at_base.specs.Range.{Span, is_between}
use Rattle.at_base.specs.declared.address.Addr.{Addr}
use Rattle.at_base.specs.declared.address.Hw.{Hw}
use Rattle.audit.proofs.Finding.{first_found}
use Rattle.audit.proofs.SeatUnique.{unique}
use Rattle.audit.proofs.WalkLists.{at_one, find_none}
use Rattle.audit.specs.Places.{index_of}
use Rattle.audit.specs.Routing.{home}
use Rattle.audit.specs.Rules.{Passes}
use Rattle.table_image.specs.Internet.{Internet}
use Rattle.table_image.specs.Seats.{Seat as PlaceOf, seats}
use Rattle.table_image.specs.declared.cable.Cable.{Cable}
use Rattle.cable_model.specs.Transcript.{Entry}
use Rattle.cable_model.specs.declared.resolve.Found.TheVariants.{At as Is}
use Rattle.cable_model.proofs.Counting.{At, map_at}
use Rattle.legal_runs.specs.Stations.{cable_seat}
use Rattle.legal_runs.proofs.Seated.{listed_some}
use Rattle.live_cables.specs.Finding.{Knowing, found_at, hw_of, is_listed, is_own, mapped, seat_on}
use Rattle.resolved_runs.specs.Mapped.{found_by, given, hardware_of, known, learnt_in, mapping_in, own_hardware}
use Rattle.resolved_runs.proofs.Never.{same_back}
use Rattle.image_cables.specs.Settled.{cable_ranges, range_of}
use Rattle.legal_cables.specs.Keeping.{IsKept, Keeps}
use Rattle.legal_cables.proofs.Placed.{HasSeat}

-- Addresses are equal in either order.
pub same_turned : (a b : Addr) → same_address a b ≡ same_address b a
same_turned a b = ap (λ x. x && a.node == b.node) (same_back a.net b.net) ∙ ap (λ x. b.net == a.net && x) (same_back a.node b.node)

-- Three tests.
all_three : (a b c : Bool) → a ≡ true → b ≡ true → c ≡ true → (a && b && c) ≡ true
all_three true true true x y z = refl
all_three false b c x y z = cc
all_three true false c x y z = cc
all_three true true false x y z = cc

each_of_three : (a b c : Bool) → (a && b && c) ≡ true → (a ≡ true) × (b ≡ true) × (c ≡ true)
each_of_three true true true h = (refl, refl, refl)
each_of_three true true false h = cc
each_of_three true false c h = cc
each_of_three false b c h = cc

-- The mappings of a seat whose station and cable are these.
pub kept_at : (i : Internet) (k : Knowing) (t : List Entry) (s c : ℕ) → Keeps i k t → (w : HasSeat i s c)
    → (m : Mappings) × (slice_get k.maps w.place ≡ Some m) × IsKept i t s c m
kept_at i k t s c keeps w =
    let e = keeps.each w.place w.seat w.at in
    (e.0, e.1, subst (λ x. IsKept i t x c e.0) w.station (subst (λ x. IsKept i t w.seat.station x e.0) w.cable e.2))

module _ (i : Internet) (ok : Passes i) (s c : ℕ) (w : HasSeat i s c) (a : Addr) where
  abbrev test : PlaceOf → Bool
  test x = x.station == s && x.cable == c && same_address a x.address

  -- A seat of the station on the cable is this one.
  this_one : (k : ℕ) (x : PlaceOf) → At (seats i) k x → test x ≡ true → (k ≡ w.place) × (same_address a x.address ≡ true)
  this_one k x at p =
      let q = each_of_three (x.station == s) (x.cable == c) (same_address a x.address) p in (
        (unique i ok).by_station k w.place x w.seat at w.at (eqb-true x.station s q.0 ∙ sym w.station)
            (eqb-true x.cable c q.1 ∙ sym w.cable),
        q.2,
      )

  -- The station's own hardware address.
  pub own_is : own_hardware i s c a ≡ (if same_address w.seat.address a then Some w.seat.hardware else None)
  own_is = by (same_address w.seat.address a) refl
    where
      by : (b : Bool) → same_address w.seat.address a ≡ b
          → hardware_of (find test (seats i)) ≡ (if b then Some w.seat.hardware else None)
      by true e =
          ap hardware_of (first_found test (seats i) w.place w.seat w.at
          (all_three (w.seat.station == s) (w.seat.cable == c) (same_address a w.seat.address) (eq-eqb _ _ w.station)
          (eq-eqb _ _ w.cable) (same_turned a w.seat.address ∙ e))
          (λ j y lt at. false_from_ne_true (test y) (λ p. let same = (this_one j y at p).0 in absurd (omega (arith, same, lt)))))
      by false e =
          ap hardware_of (find_none test (seats i) (λ k x at. false_from_ne_true (test x) (λ p.
          let q = this_one k x at p in
          let same : x ≡ w.seat = at_one (seats i) w.place x w.seat (subst (λ n. At (seats i) n x) q.0 at) w.at in
          true≢false (sym q.1 ∙ (ap (λ (y : PlaceOf). same_address a y.address) same ∙ (same_turned a w.seat.address ∙ e))))))

  mapped_is : (m : Mappings) → mapped (Some m) a ≡ found_by (mapping_of a m.known)
  mapped_is m = by (mapping_of a m.known) refl
    where
      by : (o : Option Hw) → mapping_of a m.known ≡ o → mapped (Some m) a ≡ found_by o
      by None e = rw e refl
      by (Some hw) e = rw e refl

  pub finds_known : (k : Knowing) (t : List Entry) → k.station ≡ s → Keeps i k t
      → found_at k.seats k.own k.maps (seat_on k.seats c k.station) a ≡ found_by (known i t s c a)
  finds_known k t station keeps =
      let x = kept_at i k t s c keeps w in
      let m = x.0 in
      let place : seat_on k.seats c k.station ≡ Some w.place =
      ap (seat_on k.seats c) station ∙ (ap (λ ss. seat_on ss c s) keeps.seats_are ∙ w.on) in
      let own : slice_get k.own w.place ≡ Some (Some w.seat.address) =
      ap (λ o. slice_get o w.place) keeps.own ∙ map_at (λ (q : PlaceOf). Some q.address) (seats i) w.place w.seat w.at in
      let seat : slice_get k.seats w.place ≡ Some (cable_seat i w.seat) =
      ap (λ ss. slice_get ss w.place) keeps.seats_are ∙ map_at (cable_seat i) (seats i) w.place w.seat w.at in
      let rest : Option Hw = option_or (mapping_in a (given i s c)) (learnt_in t s c a t) in
      ap (λ o. found_at k.seats k.own k.maps o a) place
      ∙ (ap (λ o. if is_own o a then hw_of (slice_get k.seats w.place) else mapped (slice_get k.maps w.place) a) own
      ∙ (ap (λ o. if same_address w.seat.address a then hw_of o else mapped (slice_get k.maps w.place) a) seat
      ∙ (ap (λ o. if same_address w.seat.address a then Is w.seat.hardware else mapped o a) x.1
      ∙ (ap (λ f. if same_address w.seat.address a then Is w.seat.hardware else f) (mapped_is m)
      ∙ (either m rest (λ none. x.2.known a (own_is ∙ ap (λ b. if b then Some w.seat.hardware else None) none))
      ∙ ap (λ o. found_by (option_or o rest)) (sym own_is))))))
    where
      either : (m : Mappings) (rest : Option Hw) → (same_address w.seat.address a ≡ false → mapping_of a m.known ≡ rest)
          → (if same_address w.seat.address a then Is w.seat.hardware else found_by (mapping_of a m.known))
          ≡ found_by (option_or (if same_address w.seat.address a then Some w.seat.hardware else None) rest)
      either m rest known = by (same_address w.seat.address a) known
        where
          by : (b : Bool) → (b ≡ false → mapping_of a m.known ≡ rest)
              → (if b then Is w.seat.hardware else found_by (mapping_of a m.known))
              ≡ found_by (option_or (if b then Some w.seat.hardware else None) rest)
          by true known = refl
          by false known = ap found_by (known refl)

-- ---- Networks

some_index : (net : ℕ) (cs : List Cable)
    → list_any (λ r. is_between r.start r.end net) (map range_of cs) ≡ is_some (index_of (λ c. is_between c.start c.end net) cs)
some_index net [] = refl
some_index net (x ∷ cs) = by (is_between x.start x.end net) (some_index net cs)
  where
    later : (o : Option ℕ) → is_some o ≡ is_some (option_map suc o)
    later None = refl
    later (Some k) = refl

    by : (b : Bool) → list_any (λ r. is_between r.start r.end net) (map range_of cs)
        ≡ is_some (index_of (λ c. is_between c.start c.end net) cs)
        → (b || list_any (λ r. is_between r.start r.end net) (map range_of cs))
        ≡ is_some (cond b (Some zero) (option_map suc (index_of (λ c. is_between c.start c.end net) cs)))
    by true rest = refl
    by false rest = rest ∙ later (index_of (λ c. is_between c.start c.end net) cs)

pub lists_known : (i : Internet) → Passes i → (k : Knowing) (t : List Entry) → Keeps i k t → (net : ℕ)
    → is_listed k.ranges net ≡ is_some (home i net)
lists_known i ok k t keeps net = ap (λ rs. is_listed rs net) keeps.ranges ∙ by (net == 0) refl
  where
    none : (o : Option ℕ) → home i net ≡ o → net ≡ 0 → false ≡ is_some o
    none None e zero_net = refl
    none (Some c) e zero_net = let le = listed_some i ok net c e in absurd (omega (arith, le, zero_net))

    by : (b : Bool) → (net == 0) ≡ b
        → (not b && list_any (λ (r : Span). is_between r.start r.end net) (cable_ranges i)) ≡ is_some (home i net)
    by true e = none (home i net) refl (eqb-true net 0 e)
    by false e = some_index net i.cables
