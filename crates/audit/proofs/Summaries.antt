-- The counts of a summary.
use Rattle.std.proofs.Common.{◌≡◌, ℕ, ◌^◌, ◌<◌, ◌≤◌, List, [], ◌∷◌, All, length, map, max, fold, sum_by, get_or, refl, sym, ap, subst, ◌∙◌}
use Rattle.std.proofs.Common.{arith}
use Rattle.std.proofs.lemmas.Option.{slice_get-get_or}
use Rattle.std.proofs.lemmas.List.Sums.{sum_by-le}
use Rattle.table_image.specs.Internet.{Internet}
use Rattle.table_image.specs.Bounds.{IsBounded}
use Rattle.table_image.specs.declared.row.Row.{Row}
use Rattle.table_image.specs.declared.router.Router.{Router}
use Rattle.audit.specs.declared.verdict.Summary.{Summary}
use Rattle.audit.specs.Verdicts.{greatest_of, greatest_distance, row_count}

abbrev pub made : ℕ → ℕ → ℕ → ℕ → ℕ → Summary
made c r n w g = record { cables = c; routers = r; nodes = n; rows = w; greatest = g }

max_assoc : (a b c : ℕ) → max (max a b) c ≡ max a (max b c)
max_assoc a b c = omega arith

max_zero : (a : ℕ) → a ≡ max a 0
max_zero a = omega arith

-- the greatest number so far, and the greatest of the rest
fold_greatest : {X : Type 0} (f : X → ℕ) (a : ℕ) (xs : List X) → fold (λ g x. max g (f x)) a xs ≡ max a (greatest_of (map f xs))
fold_greatest f a [] = max_zero a
fold_greatest f a (x ∷ xs) = fold_greatest f (max a (f x)) xs ∙ max_assoc a (f x) (greatest_of (map f xs))

fold_same : {X : Type 0} (f g : X → ℕ) (a : ℕ) (xs : List X) → ((x : X) → f x ≡ g x)
    → fold (λ m x. max m (f x)) a xs ≡ fold (λ m x. max m (g x)) a xs
fold_same f g a [] same = refl
fold_same f g a (x ∷ xs) same = ap (λ n. fold (λ m x. max m (f x)) (max a n) xs) (same x) ∙ fold_same f g (max a (g x)) xs same

from_zero : {X : Type 0} (f : X → ℕ) (xs : List X) → fold (λ g x. max g (f x)) 0 xs ≡ greatest_of (map f xs)
from_zero f xs = fold_greatest f 0 xs ∙ omega arith

pub greatest_is : (i : Internet)
    → fold (λ g router. max g (fold (λ g row. max g row.distance) 0 router.rows)) 0 i.routers ≡ greatest_distance i
greatest_is i =
    fold_same (λ (router : Router). fold (λ g row. max g row.distance) 0 router.rows)
    (λ (router : Router). greatest_of (map (λ row. row.distance) router.rows)) 0 i.routers
    (λ router. from_zero (λ (row : Row). row.distance) router.rows)
    ∙ from_zero (λ (router : Router). greatest_of (map (λ row. row.distance) router.rows)) i.routers

-- the number of an image's rows is within its limit
pub few_rows : (i : Internet) (routers : List Router) → routers ≡ i.routers → IsBounded i
    → sum_by (λ router. length router.rows) routers < 2 ^ 32
few_rows i routers same bounded =
    let each : All (λ (router : Router). length router.rows ≤ 200) i.routers =
    λ k d lt. (bounded.each k (get_or i.routers k d) (slice_get-get_or i.routers k d lt)).rows in
    let sum = sum_by-le (λ (router : Router). length router.rows) 200 i.routers each in
    let few = bounded.routers in
    let small : row_count i < 2 ^ 32 = omega (arith, sum, few) in
    let P : List Router → Type 0 = λ l. sum_by (λ (router : Router). length router.rows) l < 2 ^ 32 in
    subst P (sym same) small

-- summaries of the same numbers are equal
pub same_summary : {c r n w g c' r' n' w' g' : ℕ} → c ≡ c' → r ≡ r' → n ≡ n' → w ≡ w' → g ≡ g' → made c r n w g ≡ made c' r' n' w' g'
same_summary {c} {r} {n} {w} {g} {c'} {r'} {n'} {w'} {g'} cables routers nodes rows greatest =
    ap (λ x. made x r n w g) cables ∙ ap (λ x. made c' x n w g) routers ∙ ap (λ x. made c' r' x w g) nodes
    ∙ ap (λ x. made c' r' n' x g) rows ∙ ap (made c' r' n' w') greatest
