-- Elements of lists, by their places.
use Rattle.std.proofs.Common.{◌≡◌, ◌⊎◌, inl, inr, ℕ, zero, suc, Bool, true, false, cond, not, ◌||◌, List, [], ◌∷◌, ◌++◌, Some, Contains}
use Rattle.std.proofs.Common.{ap, refl, ◌∙◌, filter, slice_get, map}
use Rattle.std.specs.List.{list_any, AllByRecursion as Each}
use Rattle.std.proofs.lemmas.Option.{get_or_from_slice_get, slice_get_within}
use Rattle.cable_model.proofs.Counting.{At, contained_at, filter_at}

-- The element is in the list.
abbrev pub In : {X : Type 0} → List X → X → Type 0
In xs x = (k : ℕ) × At xs k x

pub contained : {X : Type 0} (xs : List X) (x : X) → In xs x → Contains xs x
contained xs x h = (h.0, slice_get_within xs h.0 x h.1, get_or_from_slice_get xs h.0 x x h.1)

pub in_list : {X : Type 0} (xs : List X) (x : X) → Contains xs x → In xs x
in_list xs x h = contained_at xs x h

pub in_left : {X : Type 0} (xs ys : List X) (x : X) → In xs x → In (xs ++ ys) x
in_left [] ys x (k, e) = cc
in_left (y ∷ xs) ys x (zero, e) = (zero, e)
in_left (y ∷ xs) ys x (suc k, e) = let h = in_left xs ys x (k, e) in (suc h.0, h.1)

pub in_right : {X : Type 0} (xs ys : List X) (x : X) → In ys x → In (xs ++ ys) x
in_right [] ys x h = h
in_right (y ∷ xs) ys x h = let g = in_right xs ys x h in (suc g.0, g.1)

pub in_parts : {X : Type 0} (xs ys : List X) (x : X) → In (xs ++ ys) x → In xs x ⊎ In ys x
in_parts [] ys x h = inr h
in_parts (y ∷ xs) ys x (zero, e) = inl (zero, e)
in_parts (y ∷ xs) ys x (suc k, e) = elim (in_parts xs ys x (k, e)) [
  | inl h ↦ inl (suc h.0, h.1)
  | inr h ↦ inr h
]

pub in_one : {X : Type 0} (y x : X) → In (y ∷ []) x → y ≡ x
in_one y x (zero, e) = let s : y ≡ x = cc in s
in_one y x (suc k, e) = cc

pub in_kept : {X : Type 0} (t : X → Bool) (xs : List X) (x : X) → In xs x → t x ≡ true → In (filter t xs) x
in_kept t [] x (k, e) h = cc
in_kept t (y ∷ xs) x (zero, e) h =
    let s : y ≡ x = cc in
    (zero, ap (λ b. slice_get (cond b (y ∷ filter t xs) (filter t xs)) zero) (ap t s ∙ h) ∙ ap Some s)
in_kept t (y ∷ xs) x (suc k, e) h =
    let w = in_kept t xs x (k, e) h in
    elim (t y) as (λ b. In (cond b (y ∷ filter t xs) (filter t xs)) x) [
      | true ↦ (suc w.0, w.1)
      | false ↦ w
    ]

pub kept_in : {X : Type 0} (t : X → Bool) (xs : List X) (x : X) → In (filter t xs) x → In xs x × (t x ≡ true)
kept_in t xs x h = let w = filter_at t xs h.0 x h.1 in ((w.0, w.1), w.2)

pub each_in : {X : Type 0} (P : X → Type 0) (xs : List X) → ((x : X) → In xs x → P x) → Each P xs
each_in P [] f = tt
each_in P (x ∷ xs) f = (f x (zero, refl), each_in P xs (λ y h. f y (suc h.0, h.1)))

pub in_map : {X Y : Type 0} (f : X → Y) (xs : List X) (x : X) → In xs x → In (map f xs) (f x)
in_map f [] x (k, e) = cc
in_map f (y ∷ xs) x (zero, e) = let s : y ≡ x = cc in (zero, ap (λ z. Some (f z)) s)
in_map f (y ∷ xs) x (suc k, e) = let w = in_map f xs x (k, e) in (suc w.0, w.1)

pub not_true : (b : Bool) → not b ≡ true → b ≡ false
not_true true h = cc
not_true false h = refl

-- An element that passes is one of those of which some passes.
pub any_in : {X : Type 0} (t : X → Bool) (xs : List X) (x : X) → In xs x → t x ≡ true → list_any t xs ≡ true
any_in t [] x (k, e) h = cc
any_in t (y ∷ xs) x (zero, e) h = let s : y ≡ x = cc in ap (λ b. b || list_any t xs) (ap t s ∙ h)
any_in t (y ∷ xs) x (suc k, e) h = by (t y) (any_in t xs x (k, e) h)
  where
    by : (b : Bool) → list_any t xs ≡ true → (b || list_any t xs) ≡ true
    by true g = refl
    by false g = g
