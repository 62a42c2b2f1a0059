-- The first elements of a list, with one more.
use Rattle.std.proofs.Common.{◌≡◌, ℕ, zero, suc, ◌+◌, List, [], ◌∷◌, ◌++◌, map, refl, ap, subst, take, arith}
use Rattle.std.specs.Prelude.{option_to_list, slice_get}

taken : {X Y : Type 0} (f : X → Y) (xs : List X) (i : ℕ)
    → map f (take (suc i) xs) ≡ map f (take i xs) ++ map f (option_to_list (slice_get xs i))
taken f [] zero = refl
taken f [] (suc i) = refl
taken f (x ∷ xs) zero = refl
taken f (x ∷ xs) (suc i) = ap (λ ys. f x ∷ ys) (taken f xs i)

-- The element at an index, if there is one, comes after those before it.
pub next_taken : {X Y : Type 0} (f : X → Y) (xs : List X) (i : ℕ)
    → map f (take (i + 1) xs) ≡ map f (take i xs) ++ map f (option_to_list (slice_get xs i))
next_taken f xs i =
    let next : suc i ≡ i + 1 = omega arith in
    subst (λ n. map f (take n xs) ≡ map f (take i xs) ++ map f (option_to_list (slice_get xs i))) next (taken f xs i)
