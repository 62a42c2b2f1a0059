-- Text split at the first place of a byte.
use Rattle.std.proofs.Common.{◌≡◌, ℕ, ◌+◌, ◌≤◌, Bool, true, false, cond, ltb, List, [], ◌∷◌, length, take, drop, Some}
use Rattle.std.proofs.Common.{None, refl, ap, ◌∙◌, arith}
use Rattle.std.specs.List.{slice_split, onto_first, position, position_or_len}
use Rattle.std.proofs.lemmas.Bool.{ltb-true, ltb-false}
use Rattle.std.proofs.lemmas.List.Splits.{slice_split_first, slice_split-cons_yes, slice_split-cons_no}
use Rattle.at_base.proofs.Cases.{by_test}

module _ {X : Type 0} (p : X → Bool) where
  pub split_whole : (xs : List X) → length xs ≤ position_or_len p xs → slice_split p xs ≡ xs ∷ []
  split_whole [] le = refl
  split_whole (x ∷ xs) le =
      by_test (p x)
      (λ t. absurd (let bad = rw t at le in omega (arith, bad)))
      (λ t.
      let less = rw t at le in
      rw (slice_split-cons_no p x xs t, split_whole xs (omega (arith, less))) refl)

  -- splitting gives at least one part
  pub first_part : (xs : List X) → (part : List X) × (parts : List (List X)) × (slice_split p xs ≡ part ∷ parts)
  first_part [] = ([], [], refl)
  first_part (x ∷ xs) =
      let more = first_part xs in
      by_test (p x)
      (λ t. ([], slice_split p xs, slice_split-cons_yes p x xs t))
      (λ t. (x ∷ more.0, more.1, slice_split-cons_no p x xs t ∙ ap (onto_first x) more.2))

  -- at the first place of the byte, splitting gives the text before it and the parts of the text after it
  pub split_there : (xs : List X) (k : ℕ) (d : X) → position p xs ≡ Some k → slice_split p xs ≡ take k xs ∷ slice_split p (drop (k + 1) xs)
  split_there xs k d = by_place (ltb (position_or_len p xs) (length xs)) refl
    where
      by_place : (b : Bool) → ltb (position_or_len p xs) (length xs) ≡ b → cond b (Some (position_or_len p xs)) None ≡ Some k
          → slice_split p xs ≡ take k xs ∷ slice_split p (drop (k + 1) xs)
      by_place true t e =
          let same : position_or_len p xs ≡ k = cc in
          slice_split_first p xs d (ltb-true _ _ t) ∙ ap (λ (n : ℕ). take n xs ∷ slice_split p (drop (n + 1) xs)) same
      by_place false t e = cc

  -- a text without the byte is one part
  pub not_split : (xs : List X) → position p xs ≡ None → slice_split p xs ≡ xs ∷ []
  not_split xs = by_place (ltb (position_or_len p xs) (length xs)) refl
    where
      by_place : (b : Bool) → ltb (position_or_len p xs) (length xs) ≡ b → cond b (Some (position_or_len p xs)) None ≡ None
          → slice_split p xs ≡ xs ∷ []
      by_place true t e = cc
      by_place false t e = split_whole xs (ltb-false _ _ t)
