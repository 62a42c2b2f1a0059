-- How many addresses a seat can know: at most one of each station.
use Rattle.std.proofs.Common.{◌≡◌, ℕ, zero, suc, ◌+◌, ◌<◌, ◌≤◌, Bool, true, false, not, ◌&&◌, ◌||◌, ◌==◌, cond, List, [], ◌∷◌, refl, sym, ap}
use Rattle.std.proofs.Common.{◌∙◌, arith, filter, length, eqb-true, eq-eqb, inl, inr, eq-or-lt_of_le, le_of_suc-le-suc}
use Rattle.std.specs.List.{list_any}
use Rattle.std.proofs.lemmas.Bool.{and_parts}
use Rattle.at_base.specs.Limits.{max_nodes, max_routers}
use Rattle.audit.proofs.SeatUnique.{unique}
use Rattle.audit.specs.Rules.{Passes}
use Rattle.table_image.specs.Bounds.{IsBounded}
use Rattle.table_image.specs.Internet.{Internet}
use Rattle.table_image.specs.Seats.{Seat as PlaceOf, seats}
use Rattle.cable_model.specs.Transcript.{count, one}
use Rattle.cable_model.proofs.Counting.{count-filter, count_le, count_one}
use Rattle.legal_stations.proofs.NodeSeats.{station_within}
use Rattle.resolved_runs.proofs.Elements.{In, kept_in}

-- The elements that pass and those that don't are all.
split_length : {X : Type 0} (t : X → Bool) (xs : List X) → length xs ≡ count t xs + length (filter (λ x. not (t x)) xs)
split_length t [] = refl
split_length t (x ∷ xs) = by (t x) (split_length t xs)
  where
    by : (b : Bool) → length xs ≡ count t xs + length (filter (λ x. not (t x)) xs)
        → suc (length xs) ≡ one b + count t xs + length (cond (not b) (x ∷ filter (λ x. not (t x)) xs) (filter (λ x. not (t x)) xs))
    by true e = omega (arith, e)
    by false e = omega (arith, e)

-- If each hole has at most one pigeon, and each pigeon has a hole, there are at most as many pigeons as holes.
pub pigeons : {X Y : Type 0} (is : Y → X → Bool) (ys : List Y) (xs : List X) → ((y : Y) → count (is y) xs ≤ 1)
    → ((x : X) → In xs x → list_any (λ y. is y x) ys ≡ true) → length xs ≤ length ys
pigeons is [] [] few each = omega arith
pigeons is [] (x ∷ xs) few each = let no = each x (0, refl) in cc
pigeons {X} is (y ∷ ys) xs few each =
    let rest : List X = filter (λ x. not (is y x)) xs in
    let all = split_length (is y) xs in
    let here = few y in
    let later = pigeons is ys rest
    (λ z.
    let part = count-filter (is z) (λ x. not (is y x)) xs in
    let le = count_le (λ x. not (is y x) && is z x) (is z) xs (λ x p. (and_parts (not (is y x)) (is z x) p).1) in
    let most = few z in
    omega (arith, part, le, most))
    (λ x there.
    let w = kept_in (λ x. not (is y x)) xs x there in
    other (is y x) (list_any (λ z. is z x) ys) w.1 (each x w.0)) in
    omega (arith, all, here, later)
  where
    other : (a b : Bool) → not a ≡ true → (a || b) ≡ true → b ≡ true
    other true b h g = cc
    other false b h g = g

-- The numbers below n.
abbrev below : ℕ → List ℕ
below zero = []
below (suc n) = n ∷ below n

length_below : (n : ℕ) → length (below n) ≡ n
length_below zero = refl
length_below (suc n) = ap suc (length_below n)

below_other : (n k : ℕ) → k < suc n → (k == n) ≡ false → k < n
below_other n k lt e = elim (eq-or-lt_of_le (le_of_suc-le-suc lt)) as (λ _. k < n) [
  | inl same ↦ let no : true ≡ false = sym (eq-eqb k n same) ∙ e in cc
  | inr less ↦ less
]

any_below : (n k : ℕ) → k < n → list_any (λ m. k == m) (below n) ≡ true
any_below zero k lt = absurd (omega (arith, lt))
any_below (suc n) k lt = by (k == n) refl (any_below n k)
  where
    by : (b : Bool) → (k == n) ≡ b → (k < n → list_any (λ m. k == m) (below n) ≡ true) → (b || list_any (λ m. k == m) (below n)) ≡ true
    by true e rest = refl
    by false e rest = rest (below_other n k lt e)

module _ (i : Internet) (ok : Passes i) (bounded : IsBounded i) where
  -- The seats on a cable.
  abbrev pub seats_on : ℕ → List PlaceOf
  seats_on c = filter (λ q. q.cable == c) (seats i)

  pub few_seats : (c : ℕ) → length (seats_on c) ≤ max_routers + max_nodes
  few_seats c =
      let stations = length i.routers + length i.nodes in
      let le = pigeons (λ (n : ℕ) (q : PlaceOf). q.station == n) (below stations) (seats_on c) few each in
      let len = length_below stations in
      let routers = bounded.routers in
      let nodes = bounded.nodes in
      omega (arith, le, len, routers, nodes)
    where
      few : (n : ℕ) → count (λ (q : PlaceOf). q.station == n) (seats_on c) ≤ 1
      few n =
          let part = count-filter (λ (q : PlaceOf). q.station == n) (λ q. q.cable == c) (seats i) in
          let most = count_one (λ (q : PlaceOf). q.cable == c && q.station == n) (seats i) (λ j k s t ej ek ps pt.
          let a = and_parts (s.cable == c) (s.station == n) ps in
          let b = and_parts (t.cable == c) (t.station == n) pt in
          (unique i ok).by_station j k s t ej ek (eqb-true _ _ a.1 ∙ sym (eqb-true _ _ b.1)) (eqb-true _ _ a.0 ∙ sym (eqb-true _ _ b.0))) in
          omega (arith, part, most)

      each : (q : PlaceOf) → In (seats_on c) q → list_any (λ n. q.station == n) (below (length i.routers + length i.nodes)) ≡ true
      each q there =
          let w = (kept_in (λ (q : PlaceOf). q.cable == c) (seats i) q there).0 in
          any_below (length i.routers + length i.nodes) q.station (station_within i w.0 q w.1)
