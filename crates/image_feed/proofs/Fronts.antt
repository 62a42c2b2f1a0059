-- The parts of a list that were read.
use Rattle.std.proofs.Common.{◌≡◌, ℕ, zero, suc, ◌+◌, List, [], ◌∷◌, ◌++◌, Some, take, slice_get, ap, arith}

take_suc : {A : Type 0} (xs : List A) (i : ℕ) (y : A) → slice_get xs i ≡ Some y → take (suc i) xs ≡ take i xs ++ y ∷ []
take_suc [] i y e = cc
take_suc (x ∷ xs) zero y e = let same : x ≡ y = cc in ap (λ z. z ∷ []) same
take_suc {A} (x ∷ xs) (suc i) y e = ap (λ (l : List A). x ∷ l) (take_suc xs i y e)

-- one more of the other list's parts
pub take_next : {A : Type 0} (xs : List A) (i : ℕ) (y : A) → slice_get xs i ≡ Some y → take (i + 1) xs ≡ take i xs ++ y ∷ []
take_next xs i y e =
    let one : i + 1 ≡ suc i = omega arith in
    rw one (take_suc xs i y e)
