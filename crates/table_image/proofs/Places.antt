-- The places of a directory: all cables, one after the other, and what a search on one of them finds.
use Rattle.std.proofs.Common.{◌≡◌, ℕ, zero, suc, ◌+◌, ◌-◌, ◌<◌, Bool, true, false, cond, ◌&&◌, ◌==◌, List, [], ◌∷◌, ◌++◌}
use Rattle.std.proofs.Common.{length, refl, sym, ap, subst, ◌∙◌, arith, filter, map, find, Option, Some, option_map}
use Rattle.std.proofs.Common.{slice_get, slice_index_or}
use Rattle.std.proofs.lemmas.List.{append_assoc, append-nil}
use Rattle.std.proofs.lemmas.Option.{get_or_from_slice_get}
use Rattle.at_base.specs.Address.{same_address}
use Rattle.at_base.specs.declared.address.Addr.{Addr}
use Rattle.table_image.specs.Directory.{byte_cables, directory, has_address, on_cable, place_of, places_from, places_on}
use Rattle.table_image.specs.Internet.{Internet}
use Rattle.table_image.specs.Seats.{Seat, seat_at, seats}
use Rattle.table_image.specs.declared.directory.Place.{Place}

-- There are none past the last cable.
pub rows_end : (ss : List Seat) → places_from ss 256 (byte_cables - 256) ≡ []
unfolding byte_cables
rows_end ss = refl

-- The places from a cable on are its places and those from the next cable on.
pub rows_step : (ss : List Seat) (k : ℕ) → k < 256
    → places_from ss k (byte_cables - k) ≡ places_on k ss ∷ places_from ss (k + 1) (byte_cables - (k + 1))
unfolding byte_cables
rows_step ss k lt =
    let one_less : 256 - k ≡ suc (256 - (k + 1)) = omega (arith, lt) in
    let next : suc k ≡ k + 1 = omega arith in
    ap (places_from ss k) one_less ∙ ap (λ (n : ℕ). places_on k ss ∷ places_from ss n (256 - (k + 1))) next

-- There are as many lists of places as cables.
count_from : (ss : List Seat) (k n : ℕ) → length (places_from ss k n) ≡ n
count_from ss k zero = refl
count_from ss k (suc n) = ap suc (count_from ss (suc k) n)

pub rows_count : (i : Internet) → length (directory i) ≡ 256
unfolding byte_cables
rows_count i = count_from (seats i) 0 256

-- All places are those from the first cable on.
pub rows_all : (i : Internet) → places_from (seats i) 0 (byte_cables - 0) ≡ directory i
unfolding byte_cables
rows_all i = refl

-- Nothing is appended past the last cable.
pub rows_over : (ss : List Seat) (k : ℕ) (rows : List (List Place)) → k ≡ 256
    → rows ≡ rows ++ places_from ss k (byte_cables - k)
rows_over ss k rows e =
    subst (λ (n : ℕ). rows ≡ rows ++ places_from ss n (byte_cables - n)) (sym e)
    (sym (ap (λ (l : List (List Place)). rows ++ l) (rows_end ss) ∙ append-nil rows))

-- The places on a cable were appended, and then those on the cables after it.
pub rows_more : (ss : List Seat) (k n : ℕ) (row : List Place) (old mid new : List (List Place)) → k < 256 → n ≡ k
    → row ≡ places_on n ss → mid ≡ old ++ row ∷ [] → new ≡ mid ++ places_from ss (k + 1) (byte_cables - (k + 1))
    → new ≡ old ++ places_from ss k (byte_cables - k)
rows_more ss k n row old mid new lt same is one rest =
    let more : List (List Place) = places_from ss (k + 1) (byte_cables - (k + 1)) in
    let here : row ≡ places_on k ss = is ∙ ap (λ (c : ℕ). places_on c ss) same in
    rest ∙ ap (λ (l : List (List Place)). l ++ more) one ∙ append_assoc old (row ∷ []) more
    ∙ ap (λ (r : List Place). old ++ r ∷ more) here
    ∙ ap (λ (l : List (List Place)). old ++ l) (sym (rows_step ss k lt))

-- The places on a cable are where the directory has them.
row_at : (ss : List Seat) (from n k : ℕ) → k < n → slice_get (places_from ss from n) k ≡ Some (places_on (from + k) ss)
row_at ss from zero k lt = absurd (omega (arith, lt))
row_at ss from (suc n) zero lt =
    let none : from ≡ from + 0 = omega arith in
    ap (λ (c : ℕ). Some (places_on c ss)) none
row_at ss from (suc n) (suc k) lt =
    let less : k < n = omega (arith, lt) in
    let next : suc from + k ≡ from + suc k = omega arith in
    row_at ss (suc from) n k less ∙ ap (λ (c : ℕ). Some (places_on c ss)) next

pub row_is : (i : Internet) (k : ℕ) → k < 256 → on_cable (directory i) k ≡ places_on k (seats i)
unfolding byte_cables
row_is i k lt =
    let at : slice_get (directory i) k ≡ Some (places_on (0 + k) (seats i)) = row_at (seats i) 0 256 k lt in
    let none : 0 + k ≡ k = omega arith in
    there (directory i) (places_on (0 + k) (seats i)) at ∙ ap (λ (c : ℕ). places_on c (seats i)) none
  where
    there : (rows : List (List Place)) (row : List Place) → slice_get rows k ≡ Some row → slice_index_or rows k [] ≡ row
    there rows row at = get_or_from_slice_get rows k row [] at

module _ (cable : ℕ) (a : Addr) where
  -- A search among the places of a cable finds the place of the seat that a search among all seats finds.
  place_found : (ss : List Seat)
      → find (has_address a) (places_on cable ss)
      ≡ option_map place_of (find (λ s. s.cable == cable && same_address s.address a) ss)
  place_found [] = refl
  place_found (s ∷ ss) = by (s.cable == cable) (same_address s.address a) refl (place_found ss)
    where
      rest : List Place
      rest = places_on cable ss

      later : Option Seat
      later = find (λ s. s.cable == cable && same_address s.address a) ss

      by : (b c : Bool) → same_address s.address a ≡ c → find (has_address a) rest ≡ option_map place_of later
          → find (has_address a) (map place_of (cond b (s ∷ filter (λ s. s.cable == cable) ss) (filter (λ s. s.cable == cable) ss)))
          ≡ option_map place_of (cond (b && same_address s.address a) (Some s) later)
      by true true e h =
          ap (λ c. cond c (Some (place_of s)) (find (has_address a) rest)) e
          ∙ sym (ap (λ c. option_map place_of (cond c (Some s) later)) e)
      by true false e h =
          ap (λ c. cond c (Some (place_of s)) (find (has_address a) rest)) e
          ∙ (h ∙ sym (ap (λ c. option_map place_of (cond c (Some s) later)) e))
      by false c e h = h

  pub place_at : (i : Internet) → cable < 256
      → find (has_address a) (on_cable (directory i) cable) ≡ option_map place_of (seat_at i cable a)
  place_at i lt = ap (find (has_address a)) (row_is i cable lt) ∙ place_found (seats i)
