-- The first two seats of a list are those of the first station, and no station has another port.
use Rattle.std.proofs.Common.{◌≡◌, ℕ, zero, suc, ◌<◌, true, nat_lt, List, ◌∷◌, refl, arith}
use Rattle.std.specs.Prelude.{Contains}
use Rattle.std.specs.List.{list_all}
use Rattle.std.proofs.lemmas.Bool.{ltb-true}
use Rattle.std.proofs.lemmas.List.Sums.{AllPass-from_list_all}
use Rattle.cable_model.specs.Outcomes.{AreSeatsOf}
use Rattle.cable_model.specs.declared.seat.Seat.{Seat}

first_two : (a b : Seat) (rest : List Seat) → a.station ≡ 0 → a.port ≡ 0 → b.station ≡ 0 → b.port ≡ 1
    → list_all (λ s. nat_lt s.port 2) (a ∷ b ∷ rest) ≡ true → AreSeatsOf (a ∷ b ∷ rest) 0 2
first_two a b rest a_station a_port b_station b_port small = record { inside = inside; seated = seated }
  where
    inside : (s : Seat) → Contains (a ∷ b ∷ rest) s → s.station ≡ 0 → s.port < 2
    inside s there here =
        let is_small : nat_lt s.port 2 ≡ true =
        rw there.2 at (AllPass-from_list_all (λ x. nat_lt x.port 2) (a ∷ b ∷ rest) small there.0 s there.1) in
        ltb-true s.port 2 is_small

    seated : (port : ℕ) → port < 2 → (s : Seat) × Contains (a ∷ b ∷ rest) s × (s.station ≡ 0) × (s.port ≡ port)
    seated zero low = (a, (0, omega arith, refl), a_station, a_port)
    seated (suc zero) low = (b, (1, omega arith, refl), b_station, b_port)
    seated (suc (suc port)) low = absurd (omega (arith, low))

pub seats_of : (seats : List Seat) (a b : Seat) (rest : List Seat) → seats ≡ a ∷ b ∷ rest → a.station ≡ 0 → a.port ≡ 0
    → b.station ≡ 0 → b.port ≡ 1 → list_all (λ s. nat_lt s.port 2) (a ∷ b ∷ rest) ≡ true → AreSeatsOf seats 0 2
seats_of seats a b rest is a_station a_port b_station b_port small =
    rw is (first_two a b rest a_station a_port b_station b_port small)
