-- Text split at a byte, where more text follows.
use Rattle.std.proofs.Common.{◌≡◌, Bool, true, false, List, [], ◌∷◌, ◌++◌, refl, ap, sym, ◌∙◌, append_assoc, append-nil}
use Rattle.std.specs.List.{slice_split, onto_first}
use Rattle.std.proofs.lemmas.List.{append_cancel_left}
use Rattle.std.proofs.lemmas.List.Splits.{slice_split-cons_yes, slice_split-cons_no}
use Rattle.at_base.proofs.Cases.{by_test}
use Rattle.text.proofs.Cutting.{first_part}

module _ {X : Type 0} where
  not_empty : (xs : List X) (x : X) → xs ++ x ∷ [] ≡ [] → ⊥
  not_empty [] x e = cc
  not_empty (y ∷ xs) x e = cc

  -- A list that isn't empty, by its last element.
  pub last_of : (x : X) (xs : List X) → (front : List X) × (last : X) × (x ∷ xs ≡ front ++ last ∷ [])
  last_of x [] = ([], x, refl)
  last_of x (y ∷ ys) = let more = last_of y ys in (x ∷ more.0, more.1, ap (λ l. x ∷ l) more.2)

module _ {X : Type 0} (p : X → Bool) where
  -- What splitting gives of xs and ys, where it gives these parts of xs.
  abbrev GoesOnFrom : List X → List X → Type 0
  GoesOnFrom xs ys =
      (done : List (List X)) (last : List X) → slice_split p xs ≡ done ++ last ∷ []
      → slice_split p (xs ++ ys) ≡ done ++ slice_split p (last ++ ys)

  ended : (x : X) (xs ys : List X) → GoesOnFrom xs ys → p x ≡ true → (done : List (List X)) (last : List X)
      → [] ∷ slice_split p xs ≡ done ++ last ∷ [] → slice_split p (x ∷ xs ++ ys) ≡ done ++ slice_split p (last ++ ys)
  ended x xs ys ih t [] last e =
      let first = first_part p xs in
      let parts : slice_split p xs ≡ first.0 ∷ first.1 = first.2 in
      let odd : slice_split p xs ≡ [] = cc in
      absurd cc
  ended x xs ys ih t (d ∷ done) last e =
      let first : d ≡ [] = cc in
      let rest : slice_split p xs ≡ done ++ last ∷ [] = cc in
      slice_split-cons_yes p x (xs ++ ys) t ∙ rw first (ap (λ l. [] ∷ l) (ih done last rest))

  going : (x : X) (xs ys : List X) → GoesOnFrom xs ys → p x ≡ false → (part : List X) (parts : List (List X))
      → slice_split p xs ≡ part ∷ parts → (done : List (List X)) (last : List X) → (x ∷ part) ∷ parts ≡ done ++ last ∷ []
      → slice_split p (x ∷ xs ++ ys) ≡ done ++ slice_split p (last ++ ys)
  going x xs ys ih t part parts f [] last e =
      let first : last ≡ x ∷ part = cc in
      let none : slice_split p xs ≡ part ∷ [] = cc in
      slice_split-cons_no p x (xs ++ ys) t ∙ ap (onto_first x) (ih [] part none)
      ∙ (sym (slice_split-cons_no p x (part ++ ys) t) ∙ ap (λ l. slice_split p (l ++ ys)) (sym first))
  going x xs ys ih t part parts f (d ∷ done) last e =
      let first : d ≡ x ∷ part = cc in
      let rest : parts ≡ done ++ last ∷ [] = cc in
      slice_split-cons_no p x (xs ++ ys) t ∙ ap (onto_first x) (ih (part ∷ done) last (f ∙ ap (λ l. part ∷ l) rest))
      ∙ ap (λ l. l ∷ (done ++ slice_split p (last ++ ys))) (sym first)

  -- All parts but the last stay, whatever follows.
  pub split_more : (xs ys : List X) (done : List (List X)) (last : List X) → slice_split p xs ≡ done ++ last ∷ []
      → slice_split p (xs ++ ys) ≡ done ++ slice_split p (last ++ ys)
  split_more [] ys [] last e = let same : last ≡ [] = cc in rw same refl
  split_more [] ys (d ∷ done) last e = let odd : done ++ last ∷ [] ≡ [] = cc in absurd (not_empty done last odd)
  split_more (x ∷ xs) ys done last e =
      let first = first_part p xs in
      by_test (p x)
      (λ t. ended x xs ys (split_more xs ys) t done last (sym (slice_split-cons_yes p x xs t) ∙ e))
      (λ t.
      going x xs ys (split_more xs ys) t first.0 first.1 first.2 done last
      (sym (slice_split-cons_no p x xs t ∙ ap (onto_first x) first.2) ∙ e))

  -- The last part is one part.
  pub last_alone : (xs : List X) (done : List (List X)) (last : List X) → slice_split p xs ≡ done ++ last ∷ []
      → slice_split p last ≡ last ∷ []
  last_alone xs done last e =
      let more = rw (append-nil xs, append-nil last) at (split_more xs [] done last e) in
      append_cancel_left done (slice_split p last) (last ∷ []) (sym more ∙ e)

  -- A text of one part comes before the first part of what follows it.
  pub split_onto : (one ys first : List X) (parts : List (List X)) → slice_split p one ≡ one ∷ [] → slice_split p ys ≡ first ∷ parts
      → slice_split p (one ++ ys) ≡ (one ++ first) ∷ parts
  split_onto one ys first parts alone e = onto one alone
    where
      onto : (l : List X) → slice_split p l ≡ l ∷ [] → slice_split p (l ++ ys) ≡ (l ++ first) ∷ parts
      onto [] same = e
      onto (x ∷ l) same =
          let part = first_part p l in
          by_test (p x)
          (λ t. let odd : [] ∷ slice_split p l ≡ (x ∷ l) ∷ [] = sym (slice_split-cons_yes p x l t) ∙ same in absurd cc)
          (λ t.
          let all : (x ∷ part.0) ∷ part.1 ≡ (x ∷ l) ∷ [] =
          sym (slice_split-cons_no p x l t ∙ ap (onto_first x) part.2) ∙ same in
          let here : part.0 ≡ l = cc in
          let none : part.1 ≡ [] = cc in
          slice_split-cons_no p x (l ++ ys) t ∙ ap (onto_first x) (onto l (part.2 ∙ cc)))

  -- A part that isn't the last stays, whatever follows.
  pub part_stays : (xs ys : List X) (before : List (List X)) (part next : List X) (after : List (List X))
      → slice_split p xs ≡ before ++ part ∷ next ∷ after
      → (more : List (List X)) × (slice_split p (xs ++ ys) ≡ before ++ part ∷ more)
  part_stays xs ys before part next after e =
      let last = last_of next after in
      let front : slice_split p xs ≡ (before ++ part ∷ last.0) ++ last.1 ∷ [] =
      e ∙ (ap (λ l. before ++ part ∷ l) last.2 ∙ sym (append_assoc before (part ∷ last.0) (last.1 ∷ []))) in (
        last.0 ++ slice_split p (last.1 ++ ys),
        split_more xs ys (before ++ part ∷ last.0) last.1 front ∙ append_assoc before (part ∷ last.0) (slice_split p (last.1 ++ ys)),
      )
