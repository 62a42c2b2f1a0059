-- A seat's mappings, as a response is learnt.
use Rattle.std.proofs.Common.{◌≡◌, ℕ, zero, suc, ◌≤◌, Bool, true, false, ◌==◌, ◌&&◌, List, [], ◌∷◌, filter, length, take}
use Rattle.std.proofs.Common.{Option, Some, None, refl, sym, ap, ◌∙◌, slice_get, subst, arith, eq-eqb}
use Rattle.std.specs.Prelude.{IsSome, cond, not, slice_set}
use Rattle.std.specs.List.{AllByRecursion as Each}
use Rattle.aarp.specs.Mapping.{Mappings, forgotten, is_for, learnt, mapping_of, met}
use Rattle.at_base.specs.Address.{same_address}
use Rattle.at_base.specs.Limits.{max_mappings}
use Rattle.at_base.specs.declared.address.Addr.{Addr}
use Rattle.at_base.specs.declared.address.Hw.{Hw}
use Rattle.live_cables.specs.Holding.{AreFew, IsKnownAt, IsMet, stamps_for, with_known, with_learnt, without_held}
use Rattle.live_cables.specs.declared.answer.Answer.{Answer}
use Rattle.live_cables.proofs.Knows.{few_known, map-set}

-- ---- Elements that are set

pub set_again : {X : Type 0} (xs : List X) (i : ℕ) (y z : X) → slice_set (slice_set xs i y) i z ≡ slice_set xs i z
set_again [] i y z = refl
set_again (x ∷ xs) zero y z = refl
set_again (x ∷ xs) (suc i) y z = ap (λ l. x ∷ l) (set_again xs i y z)

pub get_set : {X : Type 0} (xs : List X) (i : ℕ) (x y : X) → slice_get xs i ≡ Some x → slice_get (slice_set xs i y) i ≡ Some y
get_set [] i x y e = absurd cc
get_set (z ∷ zs) zero x y e = refl
get_set (z ∷ zs) (suc i) x y e = get_set zs i x y e

pub set_same : {X : Type 0} (xs : List X) (i : ℕ) (x : X) → slice_get xs i ≡ Some x → slice_set xs i x ≡ xs
set_same [] i x e = refl
set_same (z ∷ zs) zero x e = let is : z ≡ x = cc in ap (λ v. v ∷ zs) (sym is)
set_same (z ∷ zs) (suc i) x e = ap (λ l. z ∷ l) (set_same zs i x e)

each_set : {X : Type 0} (P : X → Type 0) (xs : List X) (i : ℕ) (y : X) → Each P xs → P y → Each P (slice_set xs i y)
each_set P [] i y h p = tt
each_set P (x ∷ xs) zero y h p = (p, h.1)
each_set P (x ∷ xs) (suc i) y h p = (h.0, each_set P xs i y h.1 p)

-- ---- Mappings of one seat

same_self : (a : Addr) → same_address a a ≡ true
same_self a = ap (λ b. b && a.node == a.node) (eq-eqb a.net a.net refl) ∙ eq-eqb a.node a.node refl

forgotten_met : (a : Addr) (hw : Hw) (known : List (Addr × Hw)) → forgotten a (met a hw known) ≡ forgotten a known
forgotten_met a hw known =
    ap (λ b. cond (not b) ((a, hw) ∷ filter (λ m. not (same_address a m.0)) known) (filter (λ m. not (same_address a m.0)) known))
    (same_self a)

learnt_met : (a : Addr) (hw : Hw) (known : List (Addr × Hw)) → learnt a hw (met a hw known) ≡ learnt a hw known
learnt_met a hw known = ap (λ l. take max_mappings ((a, hw) ∷ l)) (forgotten_met a hw known)

none_forgotten : (a : Addr) (known : List (Addr × Hw)) → mapping_of a known ≡ None → forgotten a known ≡ known
none_forgotten a [] e = refl
none_forgotten a (m ∷ known) e = by (same_address a m.0) refl (none_forgotten a known)
  where
    by : (b : Bool) → same_address a m.0 ≡ b → (mapping_of a known ≡ None → forgotten a known ≡ known)
        → forgotten a (m ∷ known) ≡ m ∷ known
    by true s rest = absurd (let e2 = rw s at e in cc)
    by false s rest = let e2 = rw s at e in rw s (ap (λ l. m ∷ l) (rest e2))

known_met : (a : Addr) (hw : Hw) (known : List (Addr × Hw)) → IsSome (mapping_of a (met a hw known))
known_met a hw known = let s = same_self a in rw s refl

few_taken : (n : ℕ) (xs : List (Addr × Hw)) → length (take n xs) ≤ n
few_taken zero xs = omega arith
few_taken (suc n) [] = omega arith
few_taken (suc n) (x ∷ xs) = let few = few_taken n xs in omega (arith, few)

-- ---- Mappings of all seats

module _ (maps : List Mappings) (i : ℕ) (a : Addr) (hw : Hw) where
  -- What was learnt ahead makes no difference to what is learnt.
  learnt_again : with_known (with_known maps i (met a hw)) i (learnt a hw) ≡ with_known maps i (learnt a hw)
  learnt_again = by (slice_get maps i) refl
    where
      by : (o : Option Mappings) → slice_get maps i ≡ o
          → with_known (with_known maps i (met a hw)) i (learnt a hw) ≡ with_known maps i (learnt a hw)
      by None e = rw (e, e) refl
      by (Some m) e =
          let m1 : Mappings = record m { known = met a hw m.known } in
          let there = get_set maps i m m1 e in
          rw (e, there)
          (set_again maps i m1 _
          ∙ ap (λ l. slice_set maps i (record { known = l; held = m.held })) (learnt_met a hw m.known))

  forgotten_again : (m : Mappings) → slice_get maps i ≡ Some m → mapping_of a m.known ≡ None
      → with_known (with_known maps i (met a hw)) i (forgotten a) ≡ maps
  forgotten_again m e unknown =
      let m1 : Mappings = record m { known = met a hw m.known } in
      let there = get_set maps i m m1 e in
      rw (e, there)
      (set_again maps i m1 _
      ∙ (ap (λ l. slice_set maps i (record { known = l; held = m.held })) (forgotten_met a hw m.known ∙ none_forgotten a m.known unknown)
      ∙ set_same maps i m e))

  met_known : IsKnownAt (with_known maps i (met a hw)) i a
  met_known = by (slice_get maps i) refl
    where
      by : (o : Option Mappings) → slice_get maps i ≡ o → IsKnownAt (with_known maps i (met a hw)) i a
      by None e = rw (e, e) tt
      by (Some m) e =
          let there = get_set maps i m (record m { known = met a hw m.known }) e in
          rw (e, there) (known_met a hw m.known)

  few_learnt : AreFew maps → AreFew (with_known maps i (learnt a hw))
  few_learnt few = by (slice_get maps i) refl
    where
      by : (o : Option Mappings) → slice_get maps i ≡ o → AreFew (with_known maps i (learnt a hw))
      by None e = rw e few
      by (Some m) e =
          rw e (each_set (λ (m : Mappings). length m.known ≤ max_mappings) maps i (record m { known = learnt a hw m.known }) few
          (few_taken max_mappings ((a, hw) ∷ filter (λ m. not (same_address a m.0)) m.known)))

  few_left : AreFew maps → AreFew (without_held maps i a)
  few_left few = by (slice_get maps i) refl
    where
      by : (o : Option Mappings) → slice_get maps i ≡ o → AreFew (without_held maps i a)
      by None e = rw e few
      by (Some m) e =
          let m1 : Mappings = record m { held = filter (λ h. not (is_for a h)) m.held } in
          rw e (few_known (slice_set maps i m1) maps (map-set (λ (m : Mappings). m.known) maps i m m1 e refl) few)

-- What is known makes no difference to what is held.
pub stamps_stay : (maps : List Mappings) (i : ℕ) (f : List (Addr × Hw) → List (Addr × Hw)) (answer : Answer)
    → stamps_for (slice_get (with_known maps i f) i) answer ≡ stamps_for (slice_get maps i) answer
stamps_stay maps i f answer = by (slice_get maps i) refl
  where
    by : (o : Option Mappings) → slice_get maps i ≡ o
        → stamps_for (slice_get (with_known maps i f) i) answer ≡ stamps_for (slice_get maps i) answer
    by None e = rw (e, e) refl
    by (Some m) e =
        let there = get_set maps i m (record m { known = f m.known }) e in
        rw (e, there) refl

-- ---- A response that is learnt ahead

module _ (i : ℕ) (answer : Answer) (maps : List Mappings) where
  pub met_then : (new : Bool) (seen : List Mappings) → IsMet i answer maps new seen
      → with_known seen i (learnt answer.source answer.source_hw) ≡ with_known maps i (learnt answer.source answer.source_hw)
  met_then true seen h =
      ap (λ l. with_known l i (learnt answer.source answer.source_hw)) h.1 ∙ learnt_again maps i answer.source answer.source_hw
  met_then false seen h = ap (λ l. with_known l i (learnt answer.source answer.source_hw)) h.1

  pub known_then : (new : Bool) (seen : List Mappings) → IsMet i answer maps new seen → IsKnownAt seen i answer.source
  known_then true seen h = subst (λ l. IsKnownAt l i answer.source) (sym h.1) (met_known maps i answer.source answer.source_hw)
  known_then false seen h = subst (λ l. IsKnownAt l i answer.source) (sym h.1) h.0

  pub forgotten_then : (seen : List Mappings) → IsMet i answer maps true seen → with_known seen i (forgotten answer.source) ≡ maps
  forgotten_then seen h = by (slice_get maps i) refl
    where
      by : (o : Option Mappings) → slice_get maps i ≡ o → with_known seen i (forgotten answer.source) ≡ maps
      by None e = absurd (rw e at h.0)
      by (Some m) e =
          ap (λ l. with_known l i (forgotten answer.source)) h.1
          ∙ forgotten_again maps i answer.source answer.source_hw m e (rw e at h.0)

  pub few_then : AreFew maps → AreFew (with_learnt maps i answer)
  few_then few =
      few_left (with_known maps i (learnt answer.source answer.source_hw)) i answer.source answer.source_hw
      (few_learnt maps i answer.source answer.source_hw few)
