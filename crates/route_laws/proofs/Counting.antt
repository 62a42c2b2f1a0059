-- Counts of elements that pass a test.
use Rattle.std.proofs.Common.{◌≡◌, ◌+◌, ◌≤◌, ◌∙◌, Bool, true, false, cond, not, List, [], ◌∷◌, ◌++◌, filter, map, ap, arith}
use Rattle.std.specs.List.{flat_map}
use Rattle.std.proofs.lemmas.Grind.{flat_map-append}
use Rattle.station.specs.Lawful.{count}

-- what is counted in two lists
pub count_both : {X : Type 0} (test : X → Bool) (xs ys : List X) → count test (xs ++ ys) ≡ count test xs + count test ys
count_both test [] ys = omega arith
count_both test (x ∷ xs) ys =
    let others = count_both test xs ys in
    omega (arith, others)

pub count_flat : {X Y : Type 0} (test : Y → Bool) (f : X → List Y) (xs ys : List X)
    → count test (flat_map f (xs ++ ys)) ≡ count test (flat_map f xs) + count test (flat_map f ys)
count_flat {X} {Y} test f xs ys =
    ap (λ (l : List Y). count test l) (flat_map-append f xs ys) ∙ count_both test (flat_map f xs) (flat_map f ys)

-- what passes a filter and what doesn't is all
pub count_split : {X Y : Type 0} (test : Y → Bool) (f : X → Y) (p : X → Bool) (xs : List X)
    → count test (map f (filter p xs)) + count test (map f (filter (λ x. not (p x)) xs)) ≡ count test (map f xs)
count_split test f p [] = omega arith
count_split test f p (x ∷ xs) = by (p x) (count_split test f p xs)
  where
    by : (b : Bool) → count test (map f (filter p xs)) + count test (map f (filter (λ x. not (p x)) xs)) ≡ count test (map f xs)
        → count test (map f (cond b (x ∷ filter p xs) (filter p xs)))
        + count test (map f (cond (not b) (x ∷ filter (λ x. not (p x)) xs) (filter (λ x. not (p x)) xs)))
        ≡ count test (map f (x ∷ xs))
    by true others = omega (arith, others)
    by false others = omega (arith, others)

-- what passes a filter is no more than all
pub count_filter : {X Y : Type 0} (test : Y → Bool) (f : X → Y) (p : X → Bool) (xs : List X)
    → count test (map f (filter p xs)) ≤ count test (map f xs)
count_filter test f p xs =
    let split = count_split test f p xs in
    omega (arith, split)
