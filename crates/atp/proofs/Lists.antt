-- Lists that a loop changes item by item, or at one index.
use Rattle.std.proofs.Common.{◌≡◌, ℕ, zero, suc, ◌+◌, ◌<◌, ◌≤◌, Bool, true, false, ltb, List, [], ◌∷◌, ◌++◌, length, map, take, drop}
use Rattle.std.proofs.Common.{get_or, set, Some, None, cond, refl, sym, ap, subst, arith}
use Rattle.std.proofs.lemmas.Bool.{ltb-true, ltb-false}
use Rattle.std.specs.List.{find, position, position_or_len}
use Rattle.at_base.proofs.Cases.{by_test}
use Rattle.atp.specs.Places.{IsPlace}

one_more : {X : Type 0} (f : X → X) (all : List X) (i : ℕ) (d : X) → i < length all
    → set (map f (take i all) ++ drop i all) i (f (get_or (map f (take i all) ++ drop i all) i d))
    ≡ map f (take (suc i) all) ++ drop (suc i) all
one_more f [] i d lt = absurd (omega arith)
one_more f (a ∷ all) zero d lt = refl
one_more {X} f (a ∷ all) (suc i) d lt = ap (λ (l : List X). f a ∷ l) (one_more f all i d (omega arith))

-- one more item is changed
pub map_more : {X : Type 0} (f : X → X) (all xs : List X) (i : ℕ) (r d : X) → i < length all → xs ≡ map f (take i all) ++ drop i all
    → r ≡ f (get_or xs i d)
    → set xs i r ≡ map f (take (i + 1) all) ++ drop (i + 1) all
map_more f all xs i r d lt so_far new =
    let n : i + 1 ≡ suc i = omega arith in
    rw (new, so_far, n) (one_more f all i d lt)

-- ---- the first item that passes

one_on : {X : Type 0} (p : X → Bool) (i : ℕ) (xs : List X) (a x : X) → p a ≡ false → IsPlace p i xs x → IsPlace p (suc i) (a ∷ xs) x
one_on {X} p i xs a x other h = record {
  within = let lt = h.within in omega arith;
  is = λ d. h.is d;
  found = rw other h.found;
  first = λ f. rw other (ap (λ (l : List X). a ∷ l) (h.first f));
}

one_here : {X : Type 0} (p : X → Bool) (xs : List X) (a : X) → p a ≡ true → IsPlace p 0 (a ∷ xs) a
one_here p xs a here = record { within = omega arith; is = λ d. refl; found = rw here refl; first = λ f. rw here refl }

place : {X : Type 0} (p : X → Bool) (xs : List X) (i : ℕ) → i ≡ position_or_len p xs → i < length xs → (x : X) × IsPlace p i xs x
place p [] i e lt = absurd (omega arith)
place {X} p (a ∷ xs) i e lt =
    by_test (p a)
    (λ t.
    let none : i ≡ 0 = (rw t at e) in
    (a, subst (λ (k : ℕ). IsPlace p k (a ∷ xs) a) (sym none) (one_here p xs a t)))
    (λ t.
    let n : i ≡ 1 + position_or_len p xs = (rw t at e) in
    let on = place p xs (position_or_len p xs) refl (omega arith) in
    let m : suc (position_or_len p xs) ≡ i = omega arith in
    (on.0, subst (λ (k : ℕ). IsPlace p k (a ∷ xs) on.0) m (one_on p (position_or_len p xs) xs a on.0 t on.1)))

pub at_place : {X : Type 0} (p : X → Bool) (xs : List X) (i : ℕ) → position p xs ≡ Some i → (x : X) × IsPlace p i xs x
at_place {X} p xs i e = found (ltb (position_or_len p xs) (length xs)) refl e
  where
    found : (b : Bool) → ltb (position_or_len p xs) (length xs) ≡ b → cond b (Some (position_or_len p xs)) None ≡ Some i
        → (x : X) × IsPlace p i xs x
    found true t h = let same : i ≡ position_or_len p xs = cc in let lt = ltb-true _ _ t in place p xs i same (omega (arith, same, lt))
    found false t h = absurd cc

none_found : {X : Type 0} (p : X → Bool) (xs : List X) → length xs ≤ position_or_len p xs → find p xs ≡ None
none_found p [] le = refl
none_found {X} p (a ∷ xs) le =
    by_test (p a)
    (λ t. absurd (let bad = (rw t at le) in omega (arith, bad)))
    (λ t. let less = (rw t at le) in rw t (none_found p xs (omega (arith, less))))

pub not_at : {X : Type 0} (p : X → Bool) (xs : List X) → position p xs ≡ None → find p xs ≡ None
not_at {X} p xs e = missing (ltb (position_or_len p xs) (length xs)) refl e
  where
    missing : (b : Bool) → ltb (position_or_len p xs) (length xs) ≡ b → cond b (Some (position_or_len p xs)) None ≡ None → find p xs ≡ None
    missing true t h = absurd cc
    missing false t h = none_found p xs (ltb-false _ _ t)

-- a list of eight, item by item
pub eight : {X : Type 0} (xs : List X) (a0 a1 a2 a3 a4 a5 a6 a7 d0 d1 d2 d3 d4 d5 d6 d7 : X) → length xs ≡ 8
    → a0 ≡ get_or xs 0 d0 → a1 ≡ get_or xs 1 d1 → a2 ≡ get_or xs 2 d2 → a3 ≡ get_or xs 3 d3 → a4 ≡ get_or xs 4 d4 → a5 ≡ get_or xs 5 d5
    → a6 ≡ get_or xs 6 d6 → a7 ≡ get_or xs 7 d7
    → (a0 ∷ a1 ∷ a2 ∷ a3 ∷ a4 ∷ a5 ∷ a6 ∷ a7 ∷ []) ≡ xs
eight [] a0 a1 a2 a3 a4 a5 a6 a7 d0 d1 d2 d3 d4 d5 d6 d7 e p0 p1 p2 p3 p4 p5 p6 p7 = absurd (omega (arith, e))
eight (x0 ∷ []) a0 a1 a2 a3 a4 a5 a6 a7 d0 d1 d2 d3 d4 d5 d6 d7 e p0 p1 p2 p3 p4 p5 p6 p7 = absurd (omega (arith, e))
eight (x0 ∷ x1 ∷ []) a0 a1 a2 a3 a4 a5 a6 a7 d0 d1 d2 d3 d4 d5 d6 d7 e p0 p1 p2 p3 p4 p5 p6 p7 = absurd (omega (arith, e))
eight (x0 ∷ x1 ∷ x2 ∷ []) a0 a1 a2 a3 a4 a5 a6 a7 d0 d1 d2 d3 d4 d5 d6 d7 e p0 p1 p2 p3 p4 p5 p6 p7 = absurd (omega (arith, e))
eight (x0 ∷ x1 ∷ x2 ∷ x3 ∷ []) a0 a1 a2 a3 a4 a5 a6 a7 d0 d1 d2 d3 d4 d5 d6 d7 e p0 p1 p2 p3 p4 p5 p6 p7 = absurd (omega (arith, e))
eight (x0 ∷ x1 ∷ x2 ∷ x3 ∷ x4 ∷ []) a0 a1 a2 a3 a4 a5 a6 a7 d0 d1 d2 d3 d4 d5 d6 d7 e p0 p1 p2 p3 p4 p5 p6 p7 = absurd (omega (arith, e))
eight (x0 ∷ x1 ∷ x2 ∷ x3 ∷ x4 ∷ x5 ∷ []) a0 a1 a2 a3 a4 a5 a6 a7 d0 d1 d2 d3 d4 d5 d6 d7 e p0 p1 p2 p3 p4 p5 p6 p7 = absurd
    (omega (arith, e))
eight (x0 ∷ x1 ∷ x2 ∷ x3 ∷ x4 ∷ x5 ∷ x6 ∷ []) a0 a1 a2 a3 a4 a5 a6 a7 d0 d1 d2 d3 d4 d5 d6 d7 e p0 p1 p2 p3 p4 p5 p6 p7 = absurd
    (omega (arith, e))
eight (x0 ∷ x1 ∷ x2 ∷ x3 ∷ x4 ∷ x5 ∷ x6 ∷ x7 ∷ []) a0 a1 a2 a3 a4 a5 a6 a7 d0 d1 d2 d3 d4 d5 d6 d7 e p0 p1 p2 p3 p4 p5 p6 p7 = rw
    (p0, p1, p2, p3, p4, p5, p6, p7) refl
eight (x0 ∷ x1 ∷ x2 ∷ x3 ∷ x4 ∷ x5 ∷ x6 ∷ x7 ∷ x ∷ xs) a0 a1 a2 a3 a4 a5 a6 a7 d0 d1 d2 d3 d4 d5 d6 d7 e p0 p1 p2 p3 p4 p5 p6 p7 = absurd
    (omega (arith, e))
