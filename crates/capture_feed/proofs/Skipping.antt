-- Blocks that are passed over.
use Rattle.std.proofs.Common.{◌≡◌, ℕ, ◌+◌, ◌-◌, ◌<◌, ◌≤◌, Bool, true, false, List, [], ◌++◌, length, take, drop, Some, None, refl, sym, ap, ◌∙◌}
use Rattle.std.proofs.Common.{append_assoc, arith, inl, inr, ◌∷◌, nat_lt}
use Rattle.std.proofs.Math.Seq.{drop-append-add, drop-append_seam, take-append_seam}
use Rattle.std.proofs.lemmas.Bool.{cases_lt, le-ltb, lt-ltb, ltb-false, ltb-true}
use Rattle.std.proofs.lemmas.List.{append-nil, drop_all, length-append, length-take, take-append-drop}
use Rattle.std.specs.Prelude.{min}
use Rattle.capture_feed.specs.Skipping.{IsSkipped, KeepsLast}
use Rattle.capture_feed.specs.Stages.{Coming, block_next, ends_well, is_last, numbered, past, pending, refused}
use Rattle.capture_feed.specs.declared.passing.Passing.{Passing}
use Rattle.pcapng.specs.Sections.{Section}
use Rattle.pcapng.specs.declared.fault.Fault.TheVariants.{Length}

pub skipped : (before : Passing) (piece front rest : List ℕ) (n : ℕ) → 4 ≤ before.left → n ≡ min (before.left - 4) (length piece)
    → front ≡ take n piece → rest ≡ drop n piece
    → IsSkipped before piece (record { last = before.last; left = before.left - n }) rest
skipped before piece front rest n least is f r =
    let len : length (take n piece) ≡ n = length-take n piece ∙ omega (arith, is) in record {
      skipped = take n piece;
      all = ap (λ (l : List ℕ). take n piece ++ l) r ∙ take-append-drop n piece;
      fewer = omega (arith, is, len, least);
      least = omega (arith, is, least);
      same = refl;
      goes = λ more. r ∙ drop_all n piece (omega (arith, is, more, least));
    }

same_end : (p q : Passing) → p.last ≡ q.last → (blocks : ℕ) (last : List ℕ) (after : Coming)
    → ends_well p blocks last after ≡ ends_well q blocks last after
same_end p q same blocks last after = rw same refl

module _ (s : Section) (blocks : ℕ) where
  -- the bytes before the last four don't matter
  pub skip_on : (before after : Passing) (front bytes : List ℕ) → before.left ≡ after.left + length front → 4 ≤ after.left
      → before.last ≡ after.last → past (Some before) s blocks (front ++ bytes) ≡ past (Some after) s blocks bytes
  skip_on before after front bytes fewer least same = by (nat_lt (length bytes) after.left) refl
    where
      by : (b : Bool) → nat_lt (length bytes) after.left ≡ b → past (Some before) s blocks (front ++ bytes) ≡ past (Some after) s blocks bytes
      by true t =
          let low = ltb-true _ _ t in
          let still : nat_lt (length (front ++ bytes)) before.left ≡ true = lt-ltb _ _ (omega (arith, low, fewer, length-append front bytes)) in
          rw (t, still) refl
      by false t =
          let enough = ltb-false _ _ t in
          let still : nat_lt (length (front ++ bytes)) before.left ≡ false = le-ltb _ _ (omega (arith, enough, fewer, length-append front bytes)) in
          let a : before.left - 4 ≡ length front + (after.left - 4) = omega (arith, fewer, least) in
          let b : before.left ≡ length front + after.left = omega (arith, fewer) in
          let last : drop (before.left - 4) (front ++ bytes) ≡ drop (after.left - 4) bytes =
          ap (λ n. drop n (front ++ bytes)) a ∙ drop-append-add front bytes (after.left - 4) in
          let rest : drop before.left (front ++ bytes) ≡ drop after.left bytes =
          ap (λ n. drop n (front ++ bytes)) b ∙ drop-append-add front bytes after.left in
          rw (t, still, last, rest) (same_end before after same blocks (take 4 (drop (after.left - 4) bytes)) (numbered blocks (block_next s (drop after.left bytes))))

  -- the last four bytes, and what comes after them
  pub last_on : (p : Passing) (last bytes : List ℕ) → p.left ≡ 4 → length last ≡ 4
      → past (Some p) s blocks (last ++ bytes) ≡ ends_well p blocks last (numbered blocks (block_next s bytes))
  last_on p last bytes left len =
      let still : nat_lt (length (last ++ bytes)) p.left ≡ false = le-ltb _ _ (omega (arith, left, len, length-append last bytes)) in
      let none : p.left - 4 ≡ 0 = omega (arith, left) in
      let all : p.left ≡ length last = omega (arith, left, len) in
      let four : 4 ≡ length last = omega (arith, len) in
      let first : take 4 (drop (p.left - 4) (last ++ bytes)) ≡ last =
      ap (λ n. take 4 (drop n (last ++ bytes))) none ∙ (ap (λ n. take n (last ++ bytes)) four ∙ take-append_seam last bytes) in
      let rest : drop p.left (last ++ bytes) ≡ bytes = ap (λ n. drop n (last ++ bytes)) all ∙ drop-append_seam last bytes in
      rw (still, first, rest) refl

  pub waits_on : (p : Passing) (bytes : List ℕ) → length bytes < p.left → past (Some p) s blocks bytes ≡ pending
  waits_on p bytes low = rw (lt-ltb _ _ low) refl

-- ---- a piece

module _ (before after : Passing) (k0 piece rest0 k1 rest1 : List ℕ) (keeps : KeepsLast before k0)
    (skip : IsSkipped before piece after rest0) (all : k1 ++ rest1 ≡ k0 ++ rest0) (most : length k0 ≤ 4 → length k1 ≤ 4)
    (full : length k1 < 4 → rest1 ≡ []) where
  -- what is kept and what is skipped are not both there
  moved : (sk r : List ℕ) → (4 < before.left → k0 ≡ []) → (before.left ≤ 4 → sk ≡ []) → k0 ++ (sk ++ r) ≡ sk ++ (k0 ++ r)
  moved sk r none short =
      elim (cases_lt 4 before.left) [
        | inl long ↦ ap (λ (k : List ℕ). k ++ (sk ++ r)) (none long) ∙ sym (ap (λ (k : List ℕ). sk ++ (k ++ r)) (none long))
        | inr le ↦ ap (λ (l : List ℕ). k0 ++ (l ++ r)) (short le) ∙ sym (ap (λ (l : List ℕ). l ++ (k0 ++ r)) (short le))
      ]

  no_bytes : (l : List ℕ) → length l ≡ 0 → l ≡ []
  no_bytes [] e = refl
  no_bytes (b ∷ l) e = absurd (omega (arith, e))

  split : (more : List ℕ) → (k0 ++ piece) ++ more ≡ skip.skipped ++ ((k1 ++ rest1) ++ more)
  split more =
      let sk = skip.skipped in
      let whole : k0 ++ piece ≡ sk ++ (k1 ++ rest1) =
      ap (λ (l : List ℕ). k0 ++ l) (sym skip.all)
      ∙ (moved sk rest0 keeps.none (λ le. no_bytes sk (omega (arith, le, skip.fewer, skip.least))) ∙ ap (λ (l : List ℕ). sk ++ l) (sym all)) in
      ap (λ (l : List ℕ). l ++ more) whole ∙ append_assoc sk (k1 ++ rest1) more

  over : (s : Section) (blocks : ℕ) (more : List ℕ) → past (Some before) s blocks ((k0 ++ piece) ++ more)
      ≡ past (Some after) s blocks ((k1 ++ rest1) ++ more)
  over s blocks more =
      ap (past (Some before) s blocks) (split more)
      ∙ skip_on s blocks before after skip.skipped ((k1 ++ rest1) ++ more) skip.fewer skip.least skip.same

  -- nothing is kept before the last four bytes
  none_before : 4 < after.left → k1 ≡ []
  none_before more =
      let k0_none = keeps.none (omega (arith, more, skip.fewer)) in
      let empty = ap (λ (l : List ℕ). length l) (all ∙ (ap (λ (l : List ℕ). l ++ rest0) k0_none ∙ skip.goes more)) in
      no_bytes k1 (omega (arith, empty, length-append k1 rest1))

  module _ (low : length k1 < 4) where
    pub within : (s : Section) (blocks : ℕ) (more : List ℕ) → past (Some before) s blocks ((k0 ++ piece) ++ more)
        ≡ past (Some after) s blocks (k1 ++ more)
    within s blocks more =
        over s blocks more
        ∙ ap (λ (l : List ℕ). past (Some after) s blocks (l ++ more)) (ap (λ (l : List ℕ). k1 ++ l) (full low) ∙ append-nil k1)

    pub keeps_on : KeepsLast after k1
    keeps_on = record { least = skip.least; few = low; none = none_before }

    pub still_pending : (s : Section) (blocks : ℕ) → past (Some after) s blocks k1 ≡ pending
    still_pending s blocks = waits_on s blocks after k1 (omega (arith, low, skip.least))

  module _ (enough : 4 ≤ length k1) where
    at_last : after.left ≡ 4
    at_last =
        elim (cases_lt 4 after.left) [
          | inl more ↦
              let none = ap (λ (l : List ℕ). length l) (none_before more) in absurd (omega (arith, none, enough))
          | inr le ↦ omega (arith, le, skip.least)
        ]

    four : length k1 ≡ 4
    four = let few = most (omega (arith, keeps.few)) in omega (arith, few, enough)

    ending : (s : Section) (blocks : ℕ) (more : List ℕ) → past (Some before) s blocks ((k0 ++ piece) ++ more)
        ≡ ends_well before blocks k1 (numbered blocks (block_next s (rest1 ++ more)))
    ending s blocks more =
        over s blocks more
        ∙ (ap (past (Some after) s blocks) (append_assoc k1 rest1 more)
        ∙ (last_on s blocks after k1 (rest1 ++ more) at_last four
        ∙ sym (same_end before after skip.same blocks k1 (numbered blocks (block_next s (rest1 ++ more))))))

    pub differs : is_last before.last k1 ≡ false → (s : Section) (blocks : ℕ) (more : List ℕ)
        → past (Some before) s blocks ((k0 ++ piece) ++ more) ≡ refused blocks Length
    differs other s blocks more = ending s blocks more ∙ by other
      where
        by : is_last before.last k1 ≡ false
            → ends_well before blocks k1 (numbered blocks (block_next s (rest1 ++ more))) ≡ refused blocks Length
        by e = rw e refl

    pub agrees : is_last before.last k1 ≡ true → (s : Section) (blocks : ℕ) (more : List ℕ)
        → past (Some before) s blocks ((k0 ++ piece) ++ more) ≡ past None s blocks (rest1 ++ more)
    agrees right s blocks more = ending s blocks more ∙ by right
      where
        by : is_last before.last k1 ≡ true
            → ends_well before blocks k1 (numbered blocks (block_next s (rest1 ++ more))) ≡ past None s blocks (rest1 ++ more)
        by e = rw e refl

    -- no more is left than there was
    pub no_more : length rest1 ≤ length k0 + length piece
    no_more =
        let same = ap (λ (l : List ℕ). length l) all in
        let parts = ap (λ (l : List ℕ). length l) skip.all in
        omega (arith, same, parts, length-append k1 rest1, length-append k0 rest0, length-append skip.skipped rest0)
