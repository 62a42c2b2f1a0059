-- A property of the first element of a list and of the others is a property of each.
use Rattle.std.proofs.Common.{◌≡◌, ◌-◌, ◌≤◌, List, [], ◌∷◌, length, ap, ◌∙◌, subst, arith, slice_index_or, take, drop}
use Rattle.std.specs.List.{AllByRecursion as Each}
use Rattle.std.proofs.lemmas.List.{take_all}

pub others : {X : Type 0} (x : X) (xs : List X) → take (length (x ∷ xs) - 1) (drop 1 (x ∷ xs)) ≡ xs
others x xs = ap (λ n. take n xs) (omega arith) ∙ take_all (length xs) xs (omega arith)

pub each_from : {X : Type 0} (P : X → Type 0) (xs : List X) (d : X) → 1 ≤ length xs → P (slice_index_or xs 0 d)
    → Each P (take (length xs - 1) (drop 1 xs)) → Each P xs
each_from P [] d some first rest = absurd (omega (arith, some))
each_from P (y ∷ ys) d some first rest = (first, subst (Each P) (others y ys) rest)

pub each_of : {X : Type 0} (P : X → Type 0) (xs : List X) (x : X) → 1 ≤ length xs → x ≡ slice_index_or xs 0 x → P x
    → Each P (take (length xs - 1) (drop 1 xs)) → Each P xs
each_of P xs x some is first rest = each_from P xs x some (subst P is first) rest
