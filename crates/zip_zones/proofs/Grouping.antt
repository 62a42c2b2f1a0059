-- The names of a list in groups, one group for each reply.
use Rattle.std.proofs.Common.{◌≡◌, ℕ, suc, ◌+◌, ◌-◌, ◌≤◌, true, false, List, [], ◌∷◌, ◌++◌, length, map, take}
use Rattle.std.proofs.Common.{drop, slice_index_or, Some, refl, ap, sym, ◌∙◌, append_assoc, if◌then◌else◌, arith}
use Rattle.std.specs.Prelude.{nat_le}
use Rattle.std.specs.List.{list_all}
use Rattle.std.proofs.lemmas.Bool.{leb-true}
use Rattle.std.proofs.lemmas.Bool.Decides.{nat_tests}
use Rattle.at_base.proofs.Lists.{found_all}
use Rattle.at_base.specs.Limits.{max_zones}
use Rattle.std.proofs.lemmas.List.{take_all}
use Rattle.zip_zones.specs.Answers.{first_group, going_on, grouped, onto_first}
use Rattle.zip_zones.specs.Written.{entries_size}
use Rattle.zip_zones.specs.Zones.{Known, is_known, known_of}

-- the first group is a front of the names
pub first_taken : (room : ℕ) (names : List (List ℕ)) → take (length (first_group room names)) names ≡ first_group room names
first_taken room [] = refl
first_taken room (name ∷ names) =
    elim (nat_le (3 + length name) room) as (λ b.
    take (length (if b then name ∷ first_group (room - (3 + length name)) names else [])) (name ∷ names)
    ≡ (if b then name ∷ first_group (room - (3 + length name)) names else [])) [
      | true ↦ ap (λ (l : List (List ℕ)). name ∷ l) (first_taken (room - (3 + length name)) names)
      | false ↦ refl
    ]

-- the entries of the first group fit into the room
pub first_fits : (room : ℕ) (names : List (List ℕ)) → entries_size (first_group room names) ≤ room
first_fits room [] = omega arith
first_fits room (name ∷ names) =
    (elim (nat_le (3 + length name) room) as (λ b. nat_le (3 + length name) room ≡ b
    → entries_size (if b then name ∷ first_group (room - (3 + length name)) names else []) ≤ room) [
      | true ↦ λ t. omega (arith, leb-true _ _ t, first_fits (room - (3 + length name)) names)
      | false ↦ λ t. omega arith
    ]) refl

-- a group that is begun takes the names that fit into its room, and the others are in later groups
on_and_on : (room : ℕ) (name : List ℕ) (names : List (List ℕ))
    → onto_first name (going_on room names) ≡ (name ∷ first_group room names) ∷ grouped (drop (length (first_group room names)) names)
on_and_on room name [] = refl
on_and_on room name (m ∷ names) =
    elim (nat_le (3 + length m) room) as (λ b.
    onto_first name (if b then onto_first m (going_on (room - (3 + length m)) names)
    else [] ∷ onto_first m (going_on (584 - (3 + length m)) names))
    ≡ (name ∷ (if b then m ∷ first_group (room - (3 + length m)) names else []))
    ∷ grouped (drop (length (if b then m ∷ first_group (room - (3 + length m)) names else [])) (m ∷ names))) [
      | true ↦ ap (onto_first name) (on_and_on (room - (3 + length m)) m names)
      | false ↦ refl
    ]

-- ---- lists

known_few : (k : Known) → is_known k ≡ true → length k.names ≤ max_zones
known_few k h = grind (arith, nat_tests)

-- a list has at most 255 names
pub found_few : (net : ℕ) (table : List Known) (k : Known) → list_all is_known table ≡ true → known_of net table ≡ Some k
    → length k.names ≤ max_zones
found_few net table k h found = known_few k (found_all is_known _ table k h found)

-- ---- replies, one by one

-- the replies are the reply of the first group and those of the groups after it
pub groups_more : {Y X : Type 0} (make : List (List ℕ) → Y) (bytes : Y → X) (old : List X) (name : List ℕ) (names : List (List ℕ))
    → (old ++ bytes (make (name ∷ take (length (first_group (584 - (3 + length name)) names)) names)) ∷ [])
    ++ map bytes (map make (grouped (drop (length (first_group (584 - (3 + length name)) names)) names)))
    ≡ old ++ map bytes (map make (grouped (name ∷ names)))
groups_more {Y} {X} make bytes old name names =
    let room = 584 - (3 + length name) in
    let later = map bytes (map make (grouped (drop (length (first_group room names)) names))) in
    append_assoc old (bytes (make (name ∷ take (length (first_group room names)) names)) ∷ []) later
    ∙ ap (λ (l : List X). old ++ l) (ap (λ (group : List (List ℕ)). bytes (make (name ∷ group)) ∷ later) (first_taken room names)
    ∙ sym (ap (λ (groups : List (List (List ℕ))). map bytes (map make groups)) (on_and_on room name names)))

-- The first group of names, as the code finds it: the first name, the count names after it that fit with it, and the
-- other names.
pub record Split (names : List (List ℕ)) (count : ℕ) : Type 0 where
  pub name : List ℕ
  pub others : List (List ℕ)
  pub are : names ≡ name ∷ others
  pub short : length name ≤ 32
  pub counted : count ≡ length (first_group (584 - (3 + length name)) others)

pub split_of : (names : List (List ℕ)) (name text : List ℕ) (count : ℕ) → 1 ≤ length names → name ≡ slice_index_or names 0 name
    → text ≡ name → length name ≤ 32
    → count ≡ length (first_group (584 - (3 + length text)) (take (length names - 1) (drop 1 names))) → Split names count
split_of [] name text count some is same short counted = absurd (omega arith)
split_of (n ∷ names) name text count some is same short counted =
    let less : suc (length names) - 1 ≡ length names = omega arith in
    let others : take (suc (length names) - 1) names ≡ names = rw less (take_all (length names) names (omega arith)) in
    let first : text ≡ n = same ∙ is in
    let so_many : count ≡ length (first_group (584 - (3 + length n)) names) =
    counted ∙ ap (λ (t : List ℕ). length (first_group (584 - (3 + length t)) (take (suc (length names) - 1) names))) first
    ∙ ap (λ (l : List (List ℕ)). length (first_group (584 - (3 + length n)) l)) others in
    record { name = n; others = names; are = refl; short = rw (← is) short; counted = so_many }

pub split_fits : (names : List (List ℕ)) (count : ℕ) → Split names count → entries_size (take (1 + count) names) ≤ 584
split_fits names count s =
    let room = 584 - (3 + length s.name) in
    let taken : take count s.others ≡ first_group room s.others =
    ap (λ (n : ℕ). take n s.others) s.counted ∙ first_taken room s.others in
    let next : 1 + count ≡ suc count = omega arith in
    rw (next, s.are, taken) (omega (arith, s.short, first_fits room s.others))

pub split_more : {Y X : Type 0} (make : List (List ℕ) → Y) (bytes : Y → X) (old : List X) (names : List (List ℕ)) (count : ℕ)
    → Split names count
    → (old ++ bytes (make (take (1 + count) names)) ∷ []) ++ map bytes (map make (grouped (drop (1 + count) names)))
    ≡ old ++ map bytes (map make (grouped names))
split_more make bytes old names count s =
    let next : 1 + count ≡ suc count = omega arith in
    rw (next, s.are, s.counted) (groups_more make bytes old s.name s.others)
