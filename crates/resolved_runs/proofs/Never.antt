-- Tests of which some entry passes one, and none the other.
use Rattle.std.proofs.Common.{◌≡◌, ℕ, Bool, true, false, ◌+◌, ◌⊎◌, ◌||◌, ◌&&◌, ◌==◌, List, [], ◌∷◌, ◌++◌, inl, inr}
use Rattle.std.proofs.Common.{ap, refl, sym, ◌∙◌, arith, eqb-true, eq-eqb, ne_eqb, true≢false}
use Rattle.std.specs.List.{list_any, AllByRecursion as Each}
use Rattle.std.proofs.lemmas.Bool.{cases_Bool, false_from_ne_true, or_from, or_parts}
use Rattle.cable_model.specs.Transcript.{count, one}
use Rattle.cable_model.proofs.Counting.{any-append, count-append}

-- Numbers are the same either way round.
pub same_back : (m n : ℕ) → (m == n) ≡ (n == m)
same_back m n =
    elim (cases_Bool (m == n)) as (λ _. (m == n) ≡ (n == m)) [
      | inl same ↦ same ∙ sym (eq-eqb n m (sym (eqb-true m n same)))
      | inr other ↦ other ∙ sym (ne_eqb n m (λ e. absurd (true≢false (sym (eq-eqb m n (sym e)) ∙ other))))
    ]

pub or_nothing : (b : Bool) → (b || (false || false)) ≡ b
or_nothing true = refl
or_nothing false = refl

module _ {X : Type 0} where
  -- Where nothing passes a test, nothing passes one that asks for more.
  pub any_less : (a b : X → Bool) (xs : List X) → ((x : X) → a x ≡ true → b x ≡ true) → list_any b xs ≡ false → list_any a xs ≡ false
  any_less a b [] f h = refl
  any_less a b (x ∷ xs) f h =
      let p = or_parts (b x) (list_any b xs) h in
      or_from (a x) (list_any a xs) (false_from_ne_true (a x) (λ e. true≢false (sym (f x e) ∙ p.0))) (any_less a b xs f p.1)

  -- An element that doesn't pass changes nothing.
  pub any_same : (a : X → Bool) (xs : List X) (x : X) → a x ≡ false → list_any a (xs ++ x ∷ []) ≡ list_any a xs
  any_same a xs x none = any-append a xs (x ∷ []) ∙ (ap (λ b. list_any a xs || (b || false)) none ∙ or_nothing (list_any a xs))

  -- What passed before still passes.
  pub any_still : (a : X → Bool) (xs : List X) (x : X) → list_any a xs ≡ true → list_any a (xs ++ x ∷ []) ≡ true
  any_still a xs x h = any-append a xs (x ∷ []) ∙ ap (λ b. b || (a x || false)) h

  -- Either an element before passes, or the last one.
  pub any_last : (a : X → Bool) (xs : List X) (x : X) → list_any a (xs ++ x ∷ []) ≡ true → (list_any a xs ≡ true) ⊎ (a x ≡ true)
  any_last a xs x h = by (list_any a xs) (a x) (sym (any-append a xs (x ∷ [])) ∙ h)
    where
      by : (b c : Bool) → (b || (c || false)) ≡ true → (b ≡ true) ⊎ (c ≡ true)
      by true c e = inl refl
      by false true e = inr refl
      by false false e = cc

  pub never_more : (a b : X → Bool) (xs : List X) (x : X) → (a x ≡ true → list_any b xs ≡ false) → (b x ≡ true → list_any a xs ≡ false)
      → (a x && b x) ≡ false → (list_any a xs ≡ true → list_any b xs ≡ false)
      → list_any a (xs ++ x ∷ []) ≡ true → list_any b (xs ++ x ∷ []) ≡ false
  never_more a b xs x f g apart old h =
      any-append b xs (x ∷ []) ∙ by (list_any a xs) (list_any b xs) (a x) (b x) f g apart old (sym (any-append a xs (x ∷ [])) ∙ h)
    where
      by : (m n p q : Bool) → (p ≡ true → n ≡ false) → (q ≡ true → m ≡ false) → (p && q) ≡ false → (m ≡ true → n ≡ false)
          → (m || (p || false)) ≡ true → (n || (q || false)) ≡ false
      by true n p true f g apart old h = absurd (true≢false (g refl))
      by true n p false f g apart old h = ap (λ b. b || (false || false)) (old refl)
      by false n true true f g apart old h = absurd (true≢false apart)
      by false n true false f g apart old h = ap (λ b. b || (false || false)) (f refl)
      by false n false q f g apart old h = cc

  -- The count with one element more.
  pub count_last : (a : X → Bool) (xs : List X) (x : X) → count a (xs ++ x ∷ []) ≡ count a xs + one (a x)
  count_last a xs x = let sum = count-append a xs (x ∷ []) in omega (arith, sum)

  -- What holds of each element of a list holds of its parts.
  pub each_parts : (P : X → Type 0) (xs ys : List X) → Each P (xs ++ ys) → Each P xs × Each P ys
  each_parts P [] ys h = (tt, h)
  each_parts P (x ∷ xs) ys h = let w = each_parts P xs ys h.1 in ((h.0, w.0), w.1)
