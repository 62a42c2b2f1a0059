-- Where the seat of a station on a cable stands.
use Rattle.std.proofs.Common.{◌≡◌, ℕ, ◌<◌, ◌≤◌, Bool, true, false, ◌&&◌, ◌==◌, [], ◌∷◌, Some, refl, sym, ap, ◌∙◌, subst, arith}
use Rattle.std.proofs.Common.{eqb-true, eq-eqb}
use Rattle.std.proofs.lemmas.Bool.{and_parts, false_from_ne_true}
use Rattle.audit.proofs.Finding.{any_at, first_index, index_position}
use Rattle.audit.proofs.SeatUnique.{unique}
use Rattle.audit.proofs.WalkLists.{at_map}
use Rattle.audit.specs.Rules.{Passes}
use Rattle.table_image.specs.Internet.{Internet}
use Rattle.table_image.specs.Seats.{Seat as PlaceOf, seats}
use Rattle.cable_model.specs.Transcript.{count}
use Rattle.cable_model.specs.declared.seat.Seat.{Seat}
use Rattle.cable_model.proofs.Counting.{At, count_one, filter_one, map_at}
use Rattle.legal_runs.specs.Stations.{cable_seat, cable_seats, is_on}
use Rattle.live_cables.specs.Finding.{seat_on}
use Rattle.resolved_runs.specs.Resolved.{station_seats}

-- The seat of a station on a cable.
pub record HasSeat (i : Internet) (s c : ℕ) : Type 0 where
  pub place : ℕ
  pub seat : PlaceOf
  pub at : At (seats i) place seat
  pub station : seat.station ≡ s
  pub cable : seat.cable ≡ c
  pub on : seat_on (cable_seats i) c s ≡ Some place
  pub only : station_seats i s c ≡ seat ∷ []

module _ (i : Internet) (ok : Passes i) where
  -- A seat is that of its station on its cable.
  module _ (n : ℕ) (q : PlaceOf) (at : At (seats i) n q) where
    abbrev mine : PlaceOf → Bool
    mine x = x.station == q.station && x.cable == q.cable

    abbrev here : Seat → Bool
    here x = x.cable == q.cable && x.station == q.station

    both : (a b : Bool) → a ≡ true → b ≡ true → (a && b) ≡ true
    both true true x y = refl
    both true false x y = cc
    both false b x y = cc

    passes : here (cable_seat i q) ≡ true
    passes = both (q.cable == q.cable) (q.station == q.station) (eq-eqb q.cable q.cable refl) (eq-eqb q.station q.station refl)

    none_before : (j : ℕ) (y : Seat) → j < n → At (cable_seats i) j y → here y ≡ false
    none_before j y lt there = false_from_ne_true (here y) (λ e.
        let w = at_map (cable_seat i) (seats i) j y there in
        let p = and_parts (y.cable == q.cable) (y.station == q.station) e in
        let cable : w.0.cable ≡ q.cable = sym (ap (λ (x : Seat). x.cable) w.2) ∙ eqb-true y.cable q.cable p.0 in
        let station : w.0.station ≡ q.station = sym (ap (λ (x : Seat). x.station) w.2) ∙ eqb-true y.station q.station p.1 in
        let same : j ≡ n = (unique i ok).by_station j n w.0 q w.1 at station cable in
        absurd (omega (arith, lt, same)))

    few : count mine (seats i) ≤ 1
    few = count_one mine (seats i) (λ j k s t ej ek ps pt.
        let a = and_parts (s.station == q.station) (s.cable == q.cable) ps in
        let b = and_parts (t.station == q.station) (t.cable == q.cable) pt in
        (unique i ok).by_station j k s t ej ek (eqb-true _ _ a.0 ∙ sym (eqb-true _ _ b.0)) (eqb-true _ _ a.1 ∙ sym (eqb-true _ _ b.1)))

    -- It is found by them, and is their only one.
    pub on_is : seat_on (cable_seats i) q.cable q.station ≡ Some n
    on_is =
        index_position here (cable_seats i)
        ∙ first_index here (cable_seats i) n (cable_seat i q) (map_at (cable_seat i) (seats i) n q at) passes none_before

    pub only_is : station_seats i q.station q.cable ≡ q ∷ []
    only_is =
        filter_one mine (seats i) n q few at
        (both (q.station == q.station) (q.cable == q.cable) (eq-eqb q.station q.station refl) (eq-eqb q.cable q.cable refl))

    pub its_seat : HasSeat i q.station q.cable
    its_seat = record {
      place = n;
      seat = q;
      at = at;
      station = refl;
      cable = refl;
      on = on_is;
      only = only_is;
    }

  -- A station on a cable has its seat there.
  pub the_seat : (s c : ℕ) → is_on i s c ≡ true → HasSeat i s c
  the_seat s c on =
      let w = any_at (λ (x : PlaceOf). x.station == s && x.cable == c) (seats i) on in
      let p = and_parts (w.1.station == s) (w.1.cable == c) w.3 in
      subst (λ n. HasSeat i n c) (eqb-true w.1.station s p.0)
      (subst (HasSeat i w.1.station) (eqb-true w.1.cable c p.1) (its_seat w.0 w.1 w.2))
