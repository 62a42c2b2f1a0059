-- If the other errors are excluded, `Memory` is the only one left.
use Rattle.std.proofs.Common.{◌≡◌, ◌⊎◌, inl, inr, ap, Result, Ok, Err, IfErr, IsOkUnless}
use Rattle.at_base.specs.declared.error.Error.{Error}
use Rattle.at_base.specs.declared.error.Error.TheVariants.{Memory}

module _ {T : Type 0} (a b : Error) where
  pub last_of_three : (r : Result T Error) → IfErr r (λ e. (e ≡ a) ⊎ (e ≡ b) ⊎ (e ≡ Memory)) → (r ≡ Err a → ⊥) → (r ≡ Err b → ⊥)
      → IsOkUnless r Memory
  last_of_three (Ok x) h no_a no_b = h
  last_of_three (Err e) (inl p) no_a no_b = absurd (no_a (ap (λ (x : Error). Err x) p))
  last_of_three (Err e) (inr (inl p)) no_a no_b = absurd (no_b (ap (λ (x : Error). Err x) p))
  last_of_three (Err e) (inr (inr p)) no_a no_b = p

  pub last_of_four : (c : Error) (r : Result T Error) → IfErr r (λ e. (e ≡ a) ⊎ (e ≡ b) ⊎ (e ≡ c) ⊎ (e ≡ Memory)) → (r ≡ Err a → ⊥)
      → (r ≡ Err b → ⊥) → (r ≡ Err c → ⊥) → IsOkUnless r Memory
  last_of_four c (Ok x) h no_a no_b no_c = h
  last_of_four c (Err e) (inl p) no_a no_b no_c = absurd (no_a (ap (λ (x : Error). Err x) p))
  last_of_four c (Err e) (inr (inl p)) no_a no_b no_c = absurd (no_b (ap (λ (x : Error). Err x) p))
  last_of_four c (Err e) (inr (inr (inl p))) no_a no_b no_c = absurd (no_c (ap (λ (x : Error). Err x) p))
  last_of_four c (Err e) (inr (inr (inr p))) no_a no_b no_c = p
