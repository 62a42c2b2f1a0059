-- A datagram that is passed on: only its hop count changes.
use Rattle.std.proofs.Common.{◌≡◌, ℕ, zero, suc, ◌+◌, ◌*◌, ◌/◌, ◌%◌, ◌≤◌, List, [], ◌∷◌, take, slice_index, refl, sym, ap, ◌∙◌}
use Rattle.std.proofs.Common.{subst, arith, append-nil}
use Rattle.at_base.specs.Spelling.{Begins, bytes_of}
use Rattle.at_base.proofs.Readers.{spelled_begins}
use Rattle.ddp.specs.Bodies.{body, hops, named_length, target, with_hops}
use Rattle.ddp.specs.Datagram.{Datagram, datagram}
use Rattle.ddp.proofs.Agreement.{value_agrees}
use Rattle.legal_runs.specs.Answers.{IsBody}

-- Setting the hop count twice is setting it once.
pub set_again : (m n : ℕ) → n ≤ 15 → (bytes : List ℕ) → with_hops m (with_hops n bytes) ≡ with_hops m bytes
set_again m n few [] = refl
set_again m n few (b ∷ bytes) =
    let first = b / 64 * 64 + n * 4 + b % 4 in
    let e : first / 64 * 64 + m * 4 + first % 4 ≡ b / 64 * 64 + m * 4 + b % 4 = omega (arith, few) in
    ap (λ (x : ℕ). x ∷ bytes) e

-- The length field has a valid length of a datagram.
abbrev pub IsLong : List ℕ → Type 0
IsLong bytes = 13 ≤ named_length bytes

module _ (n : ℕ) (few : n ≤ 15) where
  pub hops_are : (bytes : List ℕ) → IsLong bytes → hops (with_hops n bytes) ≡ n
  hops_are [] h = absurd (omega (arith, h))
  hops_are (b ∷ bytes) h = omega (arith, few)

  pub target_stays : (bytes : List ℕ) → target (with_hops n bytes) ≡ target bytes
  target_stays [] = refl
  target_stays (b ∷ bytes) = refl

  first_stays : (b : ℕ) → (b / 64 * 64 + n * 4 + b % 4) % 4 ≡ b % 4
  first_stays b = omega (arith, few)

  pub length_stays : (bytes : List ℕ) → named_length (with_hops n bytes) ≡ named_length bytes
  length_stays [] = refl
  length_stays (b ∷ bytes) = ap (λ k. k * 256 + slice_index (b ∷ bytes) 1) (first_stays b)

  without_hops : (b : ℕ) → (b / 64 * 64 + n * 4 + b % 4) / 64 * 64 + 0 * 4 + (b / 64 * 64 + n * 4 + b % 4) % 4 ≡ b / 64 * 64 + 0 * 4 + b % 4
  without_hops b = omega (arith, few)

  -- Two datagrams that differ only in their hop counts have the same first bytes without the hop counts.
  taken : (k : ℕ) (b : ℕ) (bytes : List ℕ) → with_hops 0 (take k (with_hops n (b ∷ bytes))) ≡ with_hops 0 (take k (b ∷ bytes))
  taken zero b bytes = refl
  taken (suc k) b bytes = ap (λ (x : ℕ). x ∷ take k bytes) (without_hops b)

  pub body_stays : (bytes : List ℕ) → body (with_hops n bytes) ≡ body bytes
  body_stays [] = refl
  body_stays (b ∷ bytes) =
      ap (λ k. with_hops 0 (take k (with_hops n (b ∷ bytes)))) (length_stays (b ∷ bytes)) ∙ taken (named_length (b ∷ bytes)) b bytes

-- ---- Bodies

-- A whole body: as many bytes as its length field says, with hop count 0.
pub record Whole (b : List ℕ) : Type 0 where
  pub long : IsLong b
  pub same : body b ≡ b

-- Its hop count is 0 already.
pub no_hops : (b : List ℕ) → Whole b → with_hops 0 b ≡ b
no_hops b w = ap (with_hops 0) (sym w.same) ∙ (set_again 0 0 (omega arith) (take (named_length b) b) ∙ w.same)

pub whole : (b : List ℕ) → IsBody b → Whole b
whole b is =
    let begins : Begins datagram b is.value =
    subst (λ (x : List ℕ). Begins datagram x is.value) (append-nil b) (spelled_begins datagram b [] is.value is.spelled) in
    let a = value_agrees b is.value begins in
    let len = a.2 in
    record { long = omega (arith, len); same = a.3 ∙ (fresh is.value is.fresh ∙ sym is.spelled.1) }
  where
    fresh : (d : Datagram) → d.hops ≡ 0 → bytes_of datagram (record d { hops = 0 }) ≡ bytes_of datagram d
    fresh d e = ap (λ n. bytes_of datagram (record d { hops = n })) (sym e)

-- ---- Frames

-- The bytes are a body with a hop count.
pub record Framed (bytes : List ℕ) : Type 0 where
  pub inside : List ℕ
  pub count : ℕ
  pub whole : Whole inside
  pub few : count ≤ 15
  pub is : bytes ≡ with_hops count inside

module _ (bytes : List ℕ) (f : Framed bytes) where
  pub inside_is : body bytes ≡ f.inside
  inside_is = ap body f.is ∙ (body_stays f.count f.few f.inside ∙ f.whole.same)

  pub target_inside : target (body bytes) ≡ target bytes
  target_inside = ap target inside_is ∙ (sym (target_stays f.count f.few f.inside) ∙ ap target (sym f.is))

  pub whole_inside : Whole (body bytes)
  whole_inside = subst Whole (sym inside_is) f.whole
