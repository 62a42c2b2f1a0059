-- Looking only at the seats with a key gives the same as looking at all seats.
use Rattle.std.proofs.Common.{◌≡◌, ℕ, suc, ◌+◌, ◌≤◌, Bool, true, false, cond, ◌&&◌, ◌||◌, List, [], ◌∷◌, ◌++◌, Option, Some, None}
use Rattle.std.proofs.Common.{◌<◌, zero, length, refl, sym, ap, ◌∙◌, subst, arith, slice_get, find, nat_lt, drop, get_or}
use Rattle.std.specs.List.{list_any, position, position_from, position_or_len}
use Rattle.std.specs.Prelude.{max, option_and_then}
use Rattle.std.proofs.lemmas.Bool.{ltb-false, ltb-true}
use Rattle.std.proofs.lemmas.Iterator.Adapters.{position_from-zero}
use Rattle.std.proofs.lemmas.List.{append_assoc, append-nil}
use Rattle.std.proofs.lemmas.List.Folds.{find_at}
use Rattle.std.proofs.lemmas.Option.{slice_get_past}
use Rattle.cable_model.proofs.PutOn.{IsRest, rest_first, rest_next}
use Rattle.cable_model.specs.Books.{dues}
use Rattle.cable_model.specs.Places.{due_at, dues_at, first_at, has_key, has_some, indices, most_on, passes, widest}
use Rattle.cable_model.specs.declared.due.Due.{Due}
use Rattle.cable_model.specs.declared.seat.Seat.{Seat}
use Rattle.cable_model.specs.declared.seats.Key.TheVariants.{Cable}

pub all_rest : (seats : List Seat) → IsRest seats 0 seats
all_rest seats = λ i s e. let same : i ≡ 0 + i = omega arith in subst (λ n. slice_get seats n ≡ Some s) same e

-- a cable has at most as many seats as the one that has most
most_over : (cable n : ℕ) (ss : List Seat) → cable < n → length (indices (has_key (Cable cable)) 0 ss) ≤ most_on n ss
most_over cable zero ss less = absurd (omega (arith, less))
most_over cable (suc n) ss less = by (nat_lt cable n) refl (λ below. most_over cable n ss below)
  where
    here : ℕ
    here = length (indices (has_key (Cable n)) 0 ss)

    by : (b : Bool) → nat_lt cable n ≡ b → (cable < n → length (indices (has_key (Cable cable)) 0 ss) ≤ most_on n ss)
        → length (indices (has_key (Cable cable)) 0 ss) ≤ max here (most_on n ss)
    by true e others = let rest = others (ltb-true cable n e) in omega (arith, rest)
    by false e others =
        let over : n ≤ cable = ltb-false cable n e in
        let same : cable ≡ n = omega (arith, less, over) in
        let is : length (indices (has_key (Cable cable)) 0 ss) ≡ here =
        ap (λ (k : ℕ). length (indices (has_key (Cable k)) 0 ss)) same in
        omega (arith, is)

pub seats_few : (cable : ℕ) (ss : List Seat) → cable < 256 → length (indices (has_key (Cable cable)) 0 ss) ≤ widest ss
unfolding widest
seats_few cable ss less = most_over cable 256 ss less

-- the number of indices is at most the number of seats
pub indices_few : (test : Seat → Bool) (k : ℕ) (ss : List Seat) → length (indices test k ss) ≤ length ss
indices_few test k [] = omega arith
indices_few test k (s ∷ ss) = by (test s) (indices_few test (k + 1) ss)
  where
    by : (b : Bool) → length (indices test (k + 1) ss) ≤ length ss
        → length (cond b (k ∷ indices test (k + 1) ss) (indices test (k + 1) ss)) ≤ suc (length ss)
    by true h = omega (arith, h)
    by false h = omega (arith, h)

-- the list of indices isn't empty exactly if a seat passes
pub any_there : (test : Seat → Bool) (k : ℕ) (ss : List Seat) → has_some (indices test k ss) ≡ list_any test ss
any_there test k [] = refl
any_there test k (s ∷ ss) = by (test s) (any_there test (k + 1) ss)
  where
    by : (b : Bool) → has_some (indices test (k + 1) ss) ≡ list_any test ss
        → has_some (cond b (k ∷ indices test (k + 1) ss) (indices test (k + 1) ss)) ≡ (b || list_any test ss)
    by true h = refl
    by false h = h

module _ (p q : Seat → Bool) (seats : List Seat) where
  -- the pairs of the seats that pass both tests
  pub dues_there : (stamp put k : ℕ) (ss : List Seat) → IsRest seats k ss
      → dues_at q seats stamp put (indices p k ss) ≡ dues (λ s. p s && q s) stamp put k ss
  dues_there stamp put k [] rest = refl
  dues_there stamp put k (s ∷ ss) rest = by (p s) (q s) refl (dues_there stamp put (k + 1) ss (rest_next seats ss s k rest))
    where
      one : List Due
      one = record { stamp = stamp; station = s.station; put = put; seat = k } ∷ []

      here : due_at q (slice_get seats k) stamp put k ≡ cond (q s) one []
      here = ap (λ o. due_at q o stamp put k) (rest_first seats ss s k rest)

      more : List Due
      more = dues (λ s. p s && q s) stamp put (k + 1) ss

      by : (b c : Bool) → q s ≡ c → dues_at q seats stamp put (indices p (k + 1) ss) ≡ more
          → dues_at q seats stamp put (cond b (k ∷ indices p (k + 1) ss) (indices p (k + 1) ss))
          ≡ cond (b && q s) (record { stamp = stamp; station = s.station; put = put; seat = k } ∷ more) more
      by true true e h =
          ap (λ l. l ++ dues_at q seats stamp put (indices p (k + 1) ss)) (here ∙ ap (λ c. cond c one []) e)
          ∙ (ap (λ l. one ++ l) h ∙ sym (ap (λ c. cond c (one ++ more) more) e))
      by true false e h =
          ap (λ l. l ++ dues_at q seats stamp put (indices p (k + 1) ss)) (here ∙ ap (λ c. cond c one []) e)
          ∙ (h ∙ sym (ap (λ c. cond c (one ++ more) more) e))
      by false c e h = h

  -- the first seat that passes both tests
  first_from : (k : ℕ) (ss : List Seat) → IsRest seats k ss
      → first_at q seats (indices p k ss) ≡ position_from (λ s. p s && q s) k ss
  first_from k [] rest = refl
  first_from k (s ∷ ss) rest = by (p s) (first_from (k + 1) ss (rest_next seats ss s k rest))
    where
      later : Option ℕ
      later = position_from (λ s. p s && q s) (k + 1) ss

      here : passes q (slice_get seats k) ≡ q s
      here = ap (passes q) (rest_first seats ss s k rest)

      by : (b : Bool) → first_at q seats (indices p (k + 1) ss) ≡ later
          → first_at q seats (cond b (k ∷ indices p (k + 1) ss) (indices p (k + 1) ss)) ≡ cond (b && q s) (Some k) later
      by true h =
          ap (λ c. cond c (Some k) (first_at q seats (indices p (k + 1) ss))) here ∙ ap (cond (q s) (Some k)) h
      by false h = h

  pub first_there : first_at q seats (indices p 0 seats) ≡ position (λ s. p s && q s) seats
  first_there = first_from 0 seats (all_rest seats) ∙ sym (position_from-zero (λ s. p s && q s) seats)

-- the seat that is found is the one at its position
pub find_there : (test : Seat → Bool) (ss : List Seat) → find test ss ≡ option_and_then (slice_get ss) (position test ss)
find_there test ss = by (nat_lt (position_or_len test ss) (length ss)) refl
  where
    by : (b : Bool) → nat_lt (position_or_len test ss) (length ss) ≡ b
        → find test ss ≡ option_and_then (slice_get ss) (cond b (Some (position_or_len test ss)) None)
    by true e = find_at test ss
    by false e = find_at test ss ∙ slice_get_past ss (position_or_len test ss) (ltb-false (position_or_len test ss) (length ss) e)

-- The indices from the seat with index n on: its own, if the seat passes, and those after it.
pub indices_step : (test : Seat → Bool) (k n : ℕ) (ss : List Seat) (d : Seat) → n < length ss
    → indices test k (drop n ss)
    ≡ cond (test (get_or ss n d)) (k ∷ indices test (k + 1) (drop (suc n) ss)) (indices test (k + 1) (drop (suc n) ss))
indices_step test k n [] d less = absurd (omega (arith, less))
indices_step test k zero (s ∷ ss) d less = refl
indices_step test k (suc n) (s ∷ ss) d less = indices_step test k n ss d (omega (arith, less))

-- The indices so far, with those from the next seat on, are still all of them.
pub indices_kept : (test : Seat → Bool) (n : ℕ) (ss : List Seat) (d : Seat) (before all : List ℕ) → n < length ss
    → test (get_or ss n d) ≡ true → before ++ indices test n (drop n ss) ≡ all
    → (before ++ n ∷ []) ++ indices test (n + 1) (drop (n + 1) ss) ≡ all
indices_kept test n ss d before all less e are =
    let next : suc n ≡ n + 1 = omega arith in
    let rest : List ℕ = indices test (n + 1) (drop (n + 1) ss) in
    let later : List ℕ = indices test (n + 1) (drop (suc n) ss) in
    let step : indices test n (drop n ss) ≡ n ∷ rest =
    indices_step test n n ss d less ∙ (ap (λ b. cond b (n ∷ later) later) e
    ∙ ap (λ (m : ℕ). n ∷ indices test (n + 1) (drop m ss)) next) in
    append_assoc before (n ∷ []) rest ∙ (ap (λ (l : List ℕ). before ++ l) (sym step) ∙ are)

pub indices_passed : (test : Seat → Bool) (n : ℕ) (ss : List Seat) (d : Seat) (before all : List ℕ) → n < length ss
    → test (get_or ss n d) ≡ false → before ++ indices test n (drop n ss) ≡ all
    → before ++ indices test (n + 1) (drop (n + 1) ss) ≡ all
indices_passed test n ss d before all less e are =
    let next : suc n ≡ n + 1 = omega arith in
    let later : List ℕ = indices test (n + 1) (drop (suc n) ss) in
    let step : indices test n (drop n ss) ≡ indices test (n + 1) (drop (n + 1) ss) =
    indices_step test n n ss d less ∙ (ap (λ b. cond b (n ∷ later) later) e
    ∙ ap (λ (m : ℕ). indices test (n + 1) (drop m ss)) next) in
    ap (λ (l : List ℕ). before ++ l) (sym step) ∙ are

-- Past the last seat there are no more.
pub indices_all : (test : Seat → Bool) (n : ℕ) (ss : List Seat) (before all : List ℕ) → length ss ≤ n
    → before ++ indices test n (drop n ss) ≡ all → before ≡ all
indices_all test n ss before all past are =
    let none : drop n ss ≡ [] = drop_past ss n past in
    sym (append-nil before) ∙ (ap (λ (l : List Seat). before ++ indices test n l) (sym none) ∙ are)
  where
    drop_past : (ss : List Seat) (n : ℕ) → length ss ≤ n → drop n ss ≡ []
    drop_past [] zero past = refl
    drop_past [] (suc n) past = refl
    drop_past (s ∷ ss) zero past = absurd (omega (arith, past))
    drop_past (s ∷ ss) (suc n) past = drop_past ss n (omega (arith, past))
