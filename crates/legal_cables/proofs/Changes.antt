-- The change of what one seat keeps, while the others keep what they kept.
use Rattle.std.proofs.Common.{◌≡◌, ◌≢◌, ℕ, zero, suc, Bool, true, false, ◌&&◌, ◌==◌, List, [], ◌∷◌, Some, refl, sym, ap, ◌∙◌, subst}
use Rattle.std.proofs.Common.{slice_get, slice_set, eqb-true, eq-eqb, true≢false}
use Rattle.std.proofs.lemmas.Bool.{and_parts, false_from_ne_true}
use Rattle.aarp.specs.Mapping.{Mappings}
use Rattle.audit.proofs.SeatUnique.{unique}
use Rattle.audit.proofs.WalkLists.{at_one}
use Rattle.audit.specs.Rules.{Passes}
use Rattle.table_image.specs.Internet.{Internet}
use Rattle.table_image.specs.Seats.{Seat as PlaceOf, seats}
use Rattle.cable_model.specs.Transcript.{Entry}
use Rattle.cable_model.proofs.Counting.{At}
use Rattle.live_cables.specs.Finding.{Knowing}
use Rattle.live_cables.proofs.Learning.{get_set}
use Rattle.legal_cables.specs.Keeping.{IsKept, Keeps}
use Rattle.legal_cables.proofs.Finds.{kept_at}
use Rattle.legal_cables.proofs.Placed.{HasSeat}

get_other : {X : Type 0} (xs : List X) (i n : ℕ) (y : X) → n ≢ i → slice_get (slice_set xs i y) n ≡ slice_get xs n
get_other [] i n y far = refl
get_other (z ∷ zs) zero zero y far = absurd (far refl)
get_other (z ∷ zs) zero (suc n) y far = refl
get_other (z ∷ zs) (suc i) zero y far = refl
get_other (z ∷ zs) (suc i) (suc n) y far = get_other zs i n y (λ e. far (ap suc e))

-- The other seats keep what they kept.
abbrev pub OthersKeep : Internet → ℕ → ℕ → List Entry → List Entry → Type 0
OthersKeep i s c t u =
    (x y : ℕ) (m : Mappings) → (x == s && y == c) ≡ false → IsKept i t x y m → IsKept i u x y m

pub keeps_set : (i : Internet) → Passes i → (s c : ℕ) (w : HasSeat i s c) (k : Knowing) (t u : List Entry) (m : Mappings)
    → Keeps i k t → IsKept i u s c m → OthersKeep i s c t u → Keeps i (record k { maps = slice_set k.maps w.place m }) u
keeps_set i ok s c w k t u m keeps kept others = record {
  seats_are = keeps.seats_are;
  own = keeps.own;
  ranges = keeps.ranges;
  each = λ n q at. by n q at (n == w.place) refl;
}
  where
    by : (n : ℕ) (q : PlaceOf) → At (seats i) n q → (b : Bool) → (n == w.place) ≡ b
        → (x : Mappings) × (slice_get (slice_set k.maps w.place m) n ≡ Some x) × IsKept i u q.station q.cable x
    by n q at true e =
        let there = eqb-true n w.place e in
        let old = kept_at i k t s c keeps w in
        let same : w.seat ≡ q = at_one (seats i) w.place w.seat q w.at (subst (λ j. At (seats i) j q) there at) in (
          m,
          ap (slice_get (slice_set k.maps w.place m)) there ∙ get_set k.maps w.place old.0 m old.1,
          subst (λ x. IsKept i u x q.cable m) (sym w.station ∙ ap (λ (y : PlaceOf). y.station) same)
              (subst (λ x. IsKept i u s x m) (sym w.cable ∙ ap (λ (y : PlaceOf). y.cable) same) kept),
        )
    by n q at false e =
        let far : n ≢ w.place = λ same. true≢false (sym (eq-eqb n w.place same) ∙ e) in
        let old = keeps.each n q at in (
          old.0,
          get_other k.maps w.place n m far ∙ old.1,
          others q.station q.cable old.0 (false_from_ne_true (q.station == s && q.cable == c) (λ p.
              let parts = and_parts (q.station == s) (q.cable == c) p in
              absurd (far ((unique i ok).by_station n w.place q w.seat at w.at (eqb-true q.station s parts.0 ∙ sym w.station)
              (eqb-true q.cable c parts.1 ∙ sym w.cable))))) old.2,
        )
