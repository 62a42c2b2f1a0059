-- The replies for several networks, one network after the other.
use Rattle.std.proofs.Common.{◌≡◌, ℕ, suc, ◌-◌, List, [], ◌∷◌, ◌++◌, map, take, refl, ap, sym}
use Rattle.std.proofs.Common.{◌∙◌, append_assoc, arith}
use Rattle.std.specs.List.{flat_map}
use Rattle.std.proofs.lemmas.List.{map-append}
use Rattle.zip_zones.specs.Answers.{grouped, onto_first}

first_of : {A B : Type 0} (f : ℕ → List A) (g : A → B) (old mid new : List B) (net m : ℕ) (rest : List ℕ) → mid ≡ old ++ map g (f net)
    → new ≡ mid ++ map g (flat_map f (take m rest)) → new ≡ old ++ map g (flat_map f (take (suc m) (net ∷ rest)))
first_of f g old mid new net m rest one others =
    let xs = flat_map f (take m rest) in
    rw (others, one, map-append g (f net) xs) (append_assoc old (map g (f net)) (map g xs))

-- the replies for the first network and then for the others are the replies for all
pub first_made : {A B : Type 0} (f : ℕ → List A) (g : A → B) (old mid new : List B) (net most : ℕ) (nets rest : List ℕ)
    → (most ≡ 0 → ⊥) → nets ≡ net ∷ rest → mid ≡ old ++ map g (f net) → new ≡ mid ++ map g (flat_map f (take (most - 1) rest))
    → new ≡ old ++ map g (flat_map f (take most nets))
first_made f g old mid new net most nets rest some begins one others =
    let next : most ≡ suc (most - 1) = omega (arith, some) in
    first_of f g old mid new net (most - 1) rest one others
    ∙ ap (λ (n : ℕ). old ++ map g (flat_map f (take n (net ∷ rest)))) (sym next)
    ∙ ap (λ (l : List ℕ). old ++ map g (flat_map f (take most l))) (sym begins)

-- ---- without replies

pub append_none : {A : Type 0} (xs ys : List A) → xs ++ ys ≡ [] → (xs ≡ []) × (ys ≡ [])
append_none [] ys h = (refl, h)
append_none (x ∷ xs) ys h = absurd cc

-- if there are no replies for all networks, there are none for the first, and none for the others
pub none_made : {A : Type 0} (f : ℕ → List A) (net most : ℕ) (nets rest : List ℕ) → (most ≡ 0 → ⊥) → nets ≡ net ∷ rest
    → flat_map f (take most nets) ≡ [] → (f net ≡ []) × (flat_map f (take (most - 1) rest) ≡ [])
none_made f net most nets rest some begins none =
    let next : most ≡ suc (most - 1) = omega (arith, some) in
    append_none (f net) (flat_map f (take (most - 1) rest))
    (sym (ap (λ (n : ℕ). flat_map f (take n (net ∷ rest))) next) ∙ sym (ap (λ (l : List ℕ). flat_map f (take most l)) begins) ∙ none)

some_group : (name : List ℕ) (groups : List (List (List ℕ))) → onto_first name groups ≡ [] → ⊥
some_group name [] h = cc
some_group name (group ∷ groups) h = cc

no_names : (names : List (List ℕ)) → grouped names ≡ [] → names ≡ []
no_names [] h = refl
no_names (name ∷ names) h = absurd (some_group name _ h)
