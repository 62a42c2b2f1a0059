-- Outputs that a station made itself are lawful.
use Rattle.std.proofs.Common.{◌≡◌, ℕ, ◌≤◌, false, not, List, [], ◌∷◌, ◌++◌, length, refl, arith, Option, Some, None, IfSome}
use Rattle.std.specs.Prelude.{option_to_list}
use Rattle.std.specs.List.{All}
use Rattle.std.proofs.lemmas.List.Elements.{All-cons, All-tail}
use Rattle.station.specs.Lawful.{AreLawful, IsGood, count, is_made}
use Rattle.station.specs.declared.output.Output.{Output}
use Rattle.station.specs.Made.{AreMade, IsMadeIn}

-- the first of outputs that were made is one that was made
first_made : (n : ℕ) (o : Output) (os : List Output) → All (IsMadeIn n) (o ∷ os) → IsMadeIn n o
first_made n o os h = h 0 o (omega arith)

-- the number of outputs that were made is at most the number of outputs
made_few : (n : ℕ) (os : List Output) → All (IsMadeIn n) os → count is_made os ≤ length os
made_few n [] h = omega arith
made_few n (o ∷ os) h =
    let others = made_few n os (All-tail (IsMadeIn n) o os h) in
    rw ((first_made n o os h).0) (omega (arith, others))

-- all outputs that were made are counted as made
all_made : (n : ℕ) (os : List Output) → All (IsMadeIn n) os → count (λ o. not (is_made o)) os ≡ 0
all_made n [] h = refl
all_made n (o ∷ os) h =
    let others = all_made n os (All-tail (IsMadeIn n) o os h) in
    rw ((first_made n o os h).0) (omega (arith, others))

all_good : (n : ℕ) (os : List Output) → All (IsMadeIn n) os → All (IsGood n) os
all_good n os h k d lt = (h k d lt).1

-- at most 256 outputs that were made are lawful
pub made_lawful : (n : ℕ) (os : List Output) → AreMade n os → length os ≤ 256 → AreLawful n os
unfolding AreMade
made_lawful n os h few = record {
  made = omega (arith, made_few n os h, few);
  others = omega (arith, all_made n os h);
  each = all_good n os h;
}

-- at most 256 outputs that were made are lawful after one that wasn't made
pub lawful_after : (n : ℕ) (o : Output) (os : List Output) → is_made o ≡ false → IsGood n o → AreMade n os → length os ≤ 256
    → AreLawful n (o ∷ os)
unfolding AreMade
lawful_after n o os other good h few = record {
  made = rw other (omega (arith, made_few n os h, few));
  others = rw other (omega (arith, all_made n os h));
  each = All-cons (IsGood n) o os good (all_good n os h);
}

-- at most 256 outputs that were made are lawful after one that wasn't made, if there is one
pub lawful_with : (n : ℕ) (front : Option Output) (os : List Output) → IfSome front (λ o. is_made o ≡ false)
    → IfSome front (λ o. IsGood n o) → AreMade n os → length os ≤ 256 → AreLawful n (option_to_list front ++ os)
lawful_with n None os other good h few = made_lawful n os h few
lawful_with n (Some o) os other good h few = lawful_after n o os other good h few
