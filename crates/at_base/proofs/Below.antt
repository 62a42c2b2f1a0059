-- What holds of each number below one, by looking at each.
use Rattle.std.proofs.Common.{arith, inl, inr, ◌≡◌, ◌<◌, ℕ, zero, suc, Bool, true, false, ◌&&◌, ap, sym, refl, ◌∙◌}
use Rattle.std.proofs.lemmas.Bool.{and_parts, cases_eq}
use Rattle.std.proofs.Math.Bool.{not}

unfoldable pub same : Bool → Bool → Bool
same true b = b
same false b = not b

same_is : (a b : Bool) → same a b ≡ true → a ≡ b
unfolding same
same_is true b e = sym e
same_is false true e = e
same_is false false e = refl

unfoldable pub agree : ℕ → (ℕ → Bool) → (ℕ → Bool) → Bool
agree zero f g = true
agree (suc n) f g = same (f n) (g n) && agree n f g

pub agree_below : (n : ℕ) (f g : ℕ → Bool) → agree n f g ≡ true → (i : ℕ) → i < n → f i ≡ g i
unfolding agree
agree_below zero f g e i low = absurd (omega (arith, low))
agree_below (suc n) f g e i low =
    let both = and_parts (same (f n) (g n)) (agree n f g) e in
    elim (cases_eq i n) [
      | inl is ↦ ap f is ∙ (same_is (f n) (g n) both.0 ∙ ap g (sym is))
      | inr other ↦ agree_below n f g both.1 i (omega (arith, low, other))
    ]
