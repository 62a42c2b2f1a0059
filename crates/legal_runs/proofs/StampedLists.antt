-- Values by the stamps of frames.
use Rattle.std.proofs.Common.{◌≡◌, ◌≢◌, ℕ, ◌≤◌, ◌==◌, true, false, cond, List, [], ◌∷◌, ◌++◌, Some, None, refl, ap, arith}
use Rattle.std.proofs.Common.{eq-eqb, ne_eqb}
use Rattle.cable_model.specs.Transcript.{above}
use Rattle.cable_model.proofs.Stamps.{above_more, above_this}
use Rattle.legal_runs.specs.Carriage.{Stamped, of_stamp}

-- Further values leave that of a stamp which has one.
pub of_front : {X : Type 0} (xs ys : List (Stamped X)) (k : ℕ) (x : X) → of_stamp k xs ≡ Some x → of_stamp k (xs ++ ys) ≡ Some x
of_front [] ys k x e = cc
of_front (s ∷ xs) ys k x e =
    (elim (s.stamp == k) as (λ b. cond b (Some s.value) (of_stamp k xs) ≡ Some x → cond b (Some s.value) (of_stamp k (xs ++ ys)) ≡ Some x) [
      | true ↦ λ h. h
      | false ↦ λ h. of_front xs ys k x h
    ]) e

-- A stamp that has no value gets one.
pub of_end : {X : Type 0} (xs : List (Stamped X)) (k : ℕ) (x : X) → of_stamp k xs ≡ None
    → of_stamp k (xs ++ record { stamp = k; value = x } ∷ []) ≡ Some x
of_end {X} [] k x e = ap (λ b. cond b (Some x) (of_stamp {X = X} k [])) (eq-eqb k k refl)
of_end {X} (s ∷ xs) k x e =
    (elim (s.stamp == k) as (λ b. cond b (Some s.value) (of_stamp k xs) ≡ None
    → cond b (Some s.value) (of_stamp k (xs ++ record { stamp = k; value = x } ∷ [])) ≡ Some x) [
      | true ↦ λ h. absurd (apart s.value h)
      | false ↦ λ h. of_end xs k x h
    ]) e
  where
    apart : (v : X) → Some v ≡ None → ⊥
    apart v h = cc

-- A value of another stamp.
of_other : {X : Type 0} (xs : List (Stamped X)) (j k : ℕ) (x : X) → j ≢ k → of_stamp k xs ≡ None
    → of_stamp k (xs ++ record { stamp = j; value = x } ∷ []) ≡ None
of_other {X} [] j k x apart e = ap (λ b. cond b (Some x) (of_stamp {X = X} k [])) (ne_eqb j k apart)
of_other (s ∷ xs) j k x apart e =
    (elim (s.stamp == k) as (λ b. cond b (Some s.value) (of_stamp k xs) ≡ None
    → cond b (Some s.value) (of_stamp k (xs ++ record { stamp = j; value = x } ∷ [])) ≡ None) [
      | true ↦ λ h. h
      | false ↦ λ h. of_other xs j k x apart h
    ]) e

-- Stamps from n on have no value yet.
abbrev pub FreshFrom : {X : Type 0} → ℕ → List (Stamped X) → Type 0
FreshFrom n xs = (k : ℕ) → n ≤ k → of_stamp k xs ≡ None

pub fresh_less : {X : Type 0} (n m : ℕ) (xs : List (Stamped X)) → n ≤ m → FreshFrom n xs → FreshFrom m xs
fresh_less n m xs le fresh = λ k more. fresh k (omega (arith, le, more))

-- After a value was added for a stamp, those above it have none yet.
pub fresh_more : {X : Type 0} (n j : ℕ) (xs : List (Stamped X)) (x : X) → FreshFrom n xs
    → FreshFrom (above n j) (xs ++ record { stamp = j; value = x } ∷ [])
fresh_more n j xs x fresh = λ k le.
    let more = above_more n j in
    let this = above_this n j in
    of_other xs j k x (λ e. absurd (omega (arith, e, this, le))) (fresh k (omega (arith, more, le)))
