-- The datagrams that wait for an address, as they are taken out one by one.
use Rattle.std.proofs.Common.{◌≡◌, ℕ, zero, suc, ◌+◌, ◌<◌, ◌≤◌, Bool, true, false, List, [], ◌∷◌, length, filter, Option}
use Rattle.std.proofs.Common.{Some, None, ◌⊎◌, inl, inr, get_or, refl, sym, ap, ◌∙◌, arith}
use Rattle.std.specs.Prelude.{cond, nat_lt, not, option_and_then, slice_get}
use Rattle.std.specs.List.{position, position_or_len, remove}
use Rattle.std.specs.Option.{option_map_or}
use Rattle.std.proofs.lemmas.Bool.{ltb-true, ltb-false}
use Rattle.std.proofs.lemmas.Option.{slice_get_cases}
use Rattle.aarp.specs.Mapping.{is_for, released, without_oldest}
use Rattle.aarp.specs.declared.held.Held.{Held}
use Rattle.at_base.specs.declared.address.Addr.{Addr}

-- No element passes.
none_pass : {X : Type 0} (p : X → Bool) (xs : List X) → length xs ≤ position_or_len p xs → filter p xs ≡ []
none_pass p [] h = refl
none_pass p (x ∷ xs) h =
    (elim (p x) as (λ b. p x ≡ b → length (x ∷ xs) ≤ cond (not b) (1 + position_or_len p xs) 0
    → cond b (x ∷ filter p xs) (filter p xs) ≡ []) [
      | true ↦ λ e n. absurd (omega arith)
      | false ↦ λ e n. none_pass p xs (omega arith)
    ]) refl h

all_fail : {X : Type 0} (p : X → Bool) (xs : List X) → length xs ≤ position_or_len p xs → filter (λ x. not (p x)) xs ≡ xs
all_fail p [] h = refl
all_fail p (x ∷ xs) h =
    (elim (p x) as (λ b. p x ≡ b → length (x ∷ xs) ≤ cond (not b) (1 + position_or_len p xs) 0
    → cond (not b) (x ∷ filter (λ x. not (p x)) xs) (filter (λ x. not (p x)) xs) ≡ x ∷ xs) [
      | true ↦ λ e n. absurd (omega arith)
      | false ↦ λ e n. ap (λ l. x ∷ l) (all_fail p xs (omega arith))
    ]) refl h

-- The first element that passes.
first_passes : {X : Type 0} (p : X → Bool) (xs : List X) (h : X) → slice_get xs (position_or_len p xs) ≡ Some h
    → filter p xs ≡ h ∷ filter p (remove xs (position_or_len p xs))
first_passes p [] h e = absurd cc
first_passes p (x ∷ xs) h e =
    (elim (p x) as (λ b. p x ≡ b → slice_get (x ∷ xs) (cond (not b) (1 + position_or_len p xs) 0) ≡ Some h
    → cond b (x ∷ filter p xs) (filter p xs) ≡ h ∷ filter p (remove (x ∷ xs) (cond (not b) (1 + position_or_len p xs) 0))) [
      | true ↦ λ t n. let same : x ≡ h = cc in ap (λ y. y ∷ filter p xs) same
      | false ↦ λ t n.
          let s : 1 + position_or_len p xs ≡ suc (position_or_len p xs) = omega arith in
          let n2 : slice_get xs (position_or_len p xs) ≡ Some h = sym (ap (slice_get (x ∷ xs)) s) ∙ n in
          rw s (rw t (first_passes p xs h n2))
    ]) refl e

others_stay : {X : Type 0} (p : X → Bool) (xs : List X) (h : X) → slice_get xs (position_or_len p xs) ≡ Some h
    → filter (λ x. not (p x)) (remove xs (position_or_len p xs)) ≡ filter (λ x. not (p x)) xs
others_stay p [] h e = absurd cc
others_stay p (x ∷ xs) h e =
    (elim (p x) as (λ b. p x ≡ b → slice_get (x ∷ xs) (cond (not b) (1 + position_or_len p xs) 0) ≡ Some h
    → filter (λ x. not (p x)) (remove (x ∷ xs) (cond (not b) (1 + position_or_len p xs) 0))
    ≡ cond (not b) (x ∷ filter (λ x. not (p x)) xs) (filter (λ x. not (p x)) xs)) [
      | true ↦ λ t n. refl
      | false ↦ λ t n.
          let s : 1 + position_or_len p xs ≡ suc (position_or_len p xs) = omega arith in
          let n2 : slice_get xs (position_or_len p xs) ≡ Some h = sym (ap (slice_get (x ∷ xs)) s) ∙ n in
          rw s (rw t (ap (λ l. x ∷ l) (others_stay p xs h n2)))
    ]) refl e

-- ---- The position of the first element that passes

-- No element passes, or the position is that of the first that does.
found_at : {X : Type 0} (p : X → Bool) (xs : List X) (G : Option ℕ → Type 0) → (length xs ≤ position_or_len p xs → G None)
    → ((x : X) → slice_get xs (position_or_len p xs) ≡ Some x → G (Some (position_or_len p xs))) → G (position p xs)
found_at p xs G none some = by (nat_lt (position_or_len p xs) (length xs)) refl
  where
    in_cases : (((x : _) × (position_or_len p xs < length xs) × (slice_get xs (position_or_len p xs) ≡ Some x)
        × (get_or xs (position_or_len p xs) x ≡ x)) ⊎ ((length xs ≤ position_or_len p xs) × (slice_get xs (position_or_len p xs) ≡ None)))
        → position_or_len p xs < length xs → G (Some (position_or_len p xs))
    in_cases (inl (x, lt, e, r)) u = some x e
    in_cases (inr (le, e)) u = absurd (omega arith)

    at : position_or_len p xs < length xs → G (Some (position_or_len p xs))
    at lt = in_cases (slice_get_cases xs (position_or_len p xs)).1 lt

    by : (b : Bool) → nat_lt (position_or_len p xs) (length xs) ≡ b → G (cond b (Some (position_or_len p xs)) None)
    by true t = at (ltb-true (position_or_len p xs) (length xs) t)
    by false t = none (ltb-false (position_or_len p xs) (length xs) t)

-- No datagram is held for an address.
pub none_for : (a : Addr) (xs : List Held) → released a xs ≡ None → filter (is_for a) xs ≡ []
none_for a xs e = found_at (is_for a) xs (λ o. option_and_then (slice_get xs) o ≡ None → filter (is_for a) xs ≡ [])
    (λ n u. none_pass (is_for a) xs n) (λ x t n. absurd cc) e

pub none_left : (a : Addr) (xs : List Held) → released a xs ≡ None → filter (λ h. not (is_for a h)) xs ≡ xs
none_left a xs e = found_at (is_for a) xs (λ o. option_and_then (slice_get xs) o ≡ None → filter (λ h. not (is_for a h)) xs ≡ xs)
    (λ n u. all_fail (is_for a) xs n) (λ x t n. absurd cc) e

pub none_gone : (a : Addr) (xs : List Held) → released a xs ≡ None → without_oldest a xs ≡ xs
none_gone a xs e = found_at (is_for a) xs (λ o. option_and_then (slice_get xs) o ≡ None → option_map_or (remove xs) o xs ≡ xs)
    (λ n u. refl) (λ x t n. absurd cc) e

-- The oldest datagram is released.
pub first_for : (a : Addr) (xs : List Held) (h : Held) → released a xs ≡ Some h
    → filter (is_for a) xs ≡ h ∷ filter (is_for a) (without_oldest a xs)
first_for a xs h e = found_at (is_for a) xs
    (λ o. option_and_then (slice_get xs) o ≡ Some h → filter (is_for a) xs ≡ h ∷ filter (is_for a) (option_map_or (remove xs) o xs))
    (λ n u. absurd cc) (λ x t n. first_passes (is_for a) xs h n) e

pub others_left : (a : Addr) (xs : List Held) (h : Held) → released a xs ≡ Some h
    → filter (λ h. not (is_for a h)) (without_oldest a xs) ≡ filter (λ h. not (is_for a h)) xs
others_left a xs h e = found_at (is_for a) xs
    (λ o. option_and_then (slice_get xs) o ≡ Some h
    → filter (λ h. not (is_for a h)) (option_map_or (remove xs) o xs) ≡ filter (λ h. not (is_for a h)) xs)
    (λ n u. absurd cc) (λ x t n. others_stay (is_for a) xs h n) e

pub fewer_left : (a : Addr) (xs : List Held) (h : Held) → released a xs ≡ Some h
    → length (without_oldest a xs) < length xs
fewer_left a xs h e = found_at (is_for a) xs
    (λ o. option_and_then (slice_get xs) o ≡ Some h → length (option_map_or (remove xs) o xs) < length xs)
    (λ n u. absurd cc) (λ x t n. removed_fewer xs (position_or_len (is_for a) xs) h n) e
  where
    removed_fewer : {X : Type 0} (xs : List X) (i : ℕ) (x : X) → slice_get xs i ≡ Some x → length (remove xs i) < length xs
    removed_fewer [] i x e = absurd cc
    removed_fewer (y ∷ ys) zero x e = omega arith
    removed_fewer (y ∷ ys) (suc i) x e = let less = removed_fewer ys i x e in omega (arith, less)
