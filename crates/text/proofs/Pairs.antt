-- Bytes of pairs of digits, one pair after the other.
use Rattle.std.proofs.Common.{◌≡◌, ℕ, List, [], ◌∷◌, ◌++◌, Option, Some, None, refl, append_assoc}
use Rattle.std.specs.Prelude.{is_some}
use Rattle.text.specs.Words.{given}

-- the bytes so far, followed by those of the rest
abbrev pub after : List ℕ → Option (List ℕ) → Option (List ℕ)
after bytes rest = given rest (λ more. Some (bytes ++ more))

pub after_one_more : (bytes : List ℕ) (byte : ℕ) (rest : Option (List ℕ)) → after bytes (given rest (λ more. Some (byte ∷ more)))
    ≡ after (bytes ++ byte ∷ []) rest
after_one_more bytes byte None = refl
after_one_more bytes byte (Some more) = rw append_assoc refl

-- with one pair more in front they are still pairs, or still not
pub one_pair_more : (byte : ℕ) (rest : Option (List ℕ)) → is_some (given rest (λ more. Some (byte ∷ more))) ≡ is_some rest
one_pair_more byte None = refl
one_pair_more byte (Some more) = refl
