-- Tests of a list's elements: whether one of them passes.
use Rattle.std.proofs.Common.{◌≡◌, ℕ, inl, inr, Bool, true, false, ◌&&◌, ◌||◌, List, [], ◌∷◌, refl, sym, ◌∙◌, true≢false}
use Rattle.std.specs.List.{list_any}
use Rattle.std.proofs.lemmas.Bool.{cases_Bool}
use Rattle.audit.proofs.WalkLists.{At, find_at, find_found, none_passes}

-- a list has an element that passes, if one of its places has
pub any_at : {X : Type 0} (t : X → Bool) (xs : List X) (k : ℕ) (x : X) → At xs k x → t x ≡ true → list_any t xs ≡ true
any_at t xs k x at passes =
    elim (cases_Bool (list_any t xs)) [ inl e ↦ e | inr e ↦ absurd (true≢false (sym passes ∙ none_passes t xs e k x at)) ]

-- an element of the list passes
pub any_has : {X : Type 0} (t : X → Bool) (xs : List X) → list_any t xs ≡ true → (k : ℕ) × (x : X) × At xs k x × (t x ≡ true)
any_has t xs e =
    let f = find_found t xs e in
    let g = find_at t xs f.0 f.1 in
    (g.0, f.0, g.1, g.2)

-- tests that agree on each element
pub any_alike : {X : Type 0} (s t : X → Bool) (xs : List X) → ((x : X) → s x ≡ t x) → list_any s xs ≡ list_any t xs
any_alike s t [] e = refl
any_alike s t (x ∷ xs) e = rw (e x, any_alike s t xs e) refl

-- a test that nothing passes
pub any_never : {X : Type 0} (xs : List X) → list_any {X = X} (λ x. false) xs ≡ false
any_never [] = refl
any_never (x ∷ xs) = any_never xs

-- a test with a condition that isn't of the element
pub any_with : {X : Type 0} (b : Bool) (t : X → Bool) (xs : List X) → list_any (λ x. b && t x) xs ≡ (b && list_any t xs)
any_with true t xs = refl
any_with false t xs = any_never xs

swapped : (a b c d : Bool) → ((a || b) || (c || d)) ≡ ((a || c) || (b || d))
swapped true b c d = refl
swapped false true true d = refl
swapped false true false d = refl
swapped false false true d = refl
swapped false false false d = refl

any_or : {X : Type 0} (s t : X → Bool) (xs : List X) → list_any (λ x. s x || t x) xs ≡ (list_any s xs || list_any t xs)
any_or s t [] = refl
any_or s t (x ∷ xs) = rw (any_or s t xs) (swapped (s x) (t x) (list_any s xs) (list_any t xs))

-- a test of the pairs of two lists, one list after the other
pub any_swap : {X Y : Type 0} (t : X → Y → Bool) (xs : List X) (ys : List Y)
    → list_any (λ x. list_any (t x) ys) xs ≡ list_any (λ y. list_any (λ x. t x y) xs) ys
any_swap t [] ys = sym (any_never ys)
any_swap t (x ∷ xs) ys = rw (any_swap t xs ys) (sym (any_or (t x) (λ y. list_any (λ x. t x y) xs) ys))
