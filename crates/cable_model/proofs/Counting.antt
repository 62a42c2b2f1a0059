-- Counts over lists.
use Rattle.std.proofs.Common.{◌≡◌, ℕ, zero, suc, ◌+◌, ◌≤◌, Bool, true, false, cond, ◌||◌, ◌&&◌, not, List, [], ◌∷◌, ◌++◌, Some, refl}
use Rattle.std.proofs.Common.{Contains, ap, arith, filter, inl, inr, map, slice_get, subst, sym, ◌∙◌}
use Rattle.std.specs.List.{list_any, AllByRecursion as Each}
use Rattle.std.proofs.lemmas.Bool.{false_from_ne_true, or_cases, or_parts}
use Rattle.std.proofs.lemmas.Option.{slice_get-get_or}
use Rattle.cable_model.specs.Transcript.{one, count}

-- x is the element with index k
abbrev pub At : {X : Type 0} → List X → ℕ → X → Type 0
At xs k x = slice_get xs k ≡ Some x

-- ---- counts of lists made of others

pub count-append : {X : Type 0} (t : X → Bool) (xs ys : List X) → count t (xs ++ ys) ≡ count t xs + count t ys
count-append t [] ys = omega arith
count-append t (x ∷ xs) ys = let h = count-append t xs ys in omega (arith, h)

pub count-map : {X Y : Type 0} (t : Y → Bool) (f : X → Y) (xs : List X) → count t (map f xs) ≡ count (λ x. t (f x)) xs
count-map t f [] = refl
count-map t f (x ∷ xs) = ap (λ n. one (t (f x)) + n) (count-map t f xs)

pub count-filter : {X : Type 0} (t u : X → Bool) (xs : List X) → count t (filter u xs) ≡ count (λ x. u x && t x) xs
count-filter t u [] = refl
count-filter t u (x ∷ xs) =
    elim (u x) as (λ b. count t (cond b (x ∷ filter u xs) (filter u xs)) ≡ one (b && t x) + count (λ x. u x && t x) xs) [
      | true ↦ ap (λ n. one (t x) + n) (count-filter t u xs)
      | false ↦ let h = count-filter t u xs in omega (arith, h)
    ]

-- ---- facts about each element

pub each_all : {X : Type 0} (P : X → Type 0) (xs : List X) → ((x : X) → P x) → Each P xs
each_all P [] f = tt
each_all P (x ∷ xs) f = (f x, each_all P xs f)

pub each-append : {X : Type 0} (P : X → Type 0) (xs ys : List X) → Each P xs → Each P ys → Each P (xs ++ ys)
each-append P [] ys h g = g
each-append P (x ∷ xs) ys h g = (h.0, each-append P xs ys h.1 g)

pub each_more : {X : Type 0} (P Q : X → Type 0) (xs : List X) → ((x : X) → P x → Q x) → Each P xs → Each Q xs
each_more P Q [] f h = tt
each_more P Q (x ∷ xs) f h = (f x h.0, each_more P Q xs f h.1)

pub each_map : {X Y : Type 0} (P : Y → Type 0) (f : X → Y) (xs : List X) → Each (λ x. P (f x)) xs → Each P (map f xs)
each_map P f [] h = tt
each_map P f (x ∷ xs) h = (h.0, each_map P f xs h.1)

pub each_at : {X : Type 0} (P : X → Type 0) (xs : List X) (k : ℕ) (x : X) → At xs k x → Each P xs → P x
each_at P [] k x e h = cc
each_at P (y ∷ xs) zero x e h = let s : y ≡ x = cc in subst P s h.0
each_at P (y ∷ xs) (suc k) x e h = each_at P xs k x e h.1

-- ---- counts of tests that agree, or that few elements pass

pub count_agree : {X : Type 0} (t u : X → Bool) (xs : List X) → Each (λ x. t x ≡ u x) xs → count t xs ≡ count u xs
count_agree t u [] h = refl
count_agree t u (x ∷ xs) h =
    let f = count_agree t u xs h.1 in
    let e = ap one h.0 in
    omega (arith, e, f)

pub count_none : {X : Type 0} (t : X → Bool) (xs : List X) → Each (λ x. t x ≡ false) xs → count t xs ≡ 0
count_none t [] h = refl
count_none t (x ∷ xs) h =
    let f = count_none t xs h.1 in
    let e = ap one h.0 in
    omega (arith, e, f)

pub count_at : {X : Type 0} (t : X → Bool) (xs : List X) (k : ℕ) (x : X) → At xs k x → t x ≡ true → 1 ≤ count t xs
count_at t [] k x e h = cc
count_at t (y ∷ xs) zero x e h =
    let s : y ≡ x = cc in
    let f = ap one (ap t s ∙ h) in
    omega (arith, f)
count_at t (y ∷ xs) (suc k) x e h = let f = count_at t xs k x e h in omega (arith, f)

pub count_le : {X : Type 0} (t u : X → Bool) (xs : List X) → ((x : X) → t x ≡ true → u x ≡ true) → count t xs ≤ count u xs
count_le t u [] f = omega arith
count_le t u (x ∷ xs) f =
    let rest = count_le t u xs f in
    (elim (t x) as (λ b. t x ≡ b → one b + count t xs ≤ one (u x) + count u xs) [
      | true ↦ λ e. let h = ap one (f x e) in omega (arith, h, rest)
      | false ↦ λ e. omega (arith, rest)
    ]) refl

-- the count without an element, where at most one has the key
pub count_without : {X : Type 0} (key f : X → Bool) (xs : List X) (k : ℕ) (x : X) → count key xs ≤ 1 → At xs k x → key x ≡ true
    → count (λ p. not (key p) && f p) xs + one (f x) ≡ count f xs
count_without key f [] k x few e p = cc
count_without key f (y ∷ xs) zero x few e p =
    let s : y ≡ x = cc in
    let q : key y ≡ true = ap key s ∙ p in
    let n = ap one q in
    let none : count key xs ≡ 0 = omega (arith, n, few) in
    let gone = ap (λ b. one (not b && f y)) q in
    let rest = count_agree (λ p. not (key p) && f p) f xs (each_none key f xs none) in
    let same = ap (λ x. one (f x)) s in
    omega (arith, gone, rest, same)
  where
    each_none : {X : Type 0} (key f : X → Bool) (xs : List X) → count key xs ≡ 0 → Each (λ p. (not (key p) && f p) ≡ f p) xs
    each_none key f [] h = tt
    each_none key f (x ∷ xs) h = (
      (elim (key x) as (λ b. one b + count key xs ≡ 0 → (not b && f x) ≡ f x) [
        | true ↦ λ e. absurd (omega (arith, e))
        | false ↦ λ e. refl
      ]) h,
      each_none key f xs (omega (arith, h)),
    )
count_without key f (y ∷ xs) (suc k) x few e p =
    let here = count_at key xs k x e p in
    (elim (key y) as (λ b. one b + count key xs ≤ 1
    → (one (not b && f y) + count (λ p. not (key p) && f p) xs) + one (f x) ≡ one (f y) + count f xs) [
      | true ↦ λ le. absurd (omega (arith, le, here))
      | false ↦ λ le. let h = count_without key f xs k x (omega (arith, le)) e p in omega (arith, h)
    ]) few

-- ---- filters

filter_none : {X : Type 0} (t : X → Bool) (xs : List X) → count t xs ≡ 0 → filter t xs ≡ []
filter_none t [] h = refl
filter_none t (x ∷ xs) h =
    (elim (t x) as (λ b. one b + count t xs ≡ 0 → cond b (x ∷ filter t xs) (filter t xs) ≡ []) [
      | true ↦ λ e. absurd (omega (arith, e))
      | false ↦ λ e. filter_none t xs (omega (arith, e))
    ]) h

-- if only one element passes, the filter keeps just that one
pub filter_one : {X : Type 0} (t : X → Bool) (xs : List X) (k : ℕ) (x : X) → count t xs ≤ 1 → At xs k x → t x ≡ true
    → filter t xs ≡ x ∷ []
filter_one t [] k x few e p = cc
filter_one t (y ∷ xs) zero x few e p =
    let s : y ≡ x = cc in
    let q : t y ≡ true = ap t s ∙ p in
    let f = ap one q in
    let none : count t xs ≡ 0 = omega (arith, f, few) in
    ap (λ b. cond b (y ∷ filter t xs) (filter t xs)) q ∙ (ap (λ l. y ∷ l) (filter_none t xs none) ∙ ap (λ z. z ∷ []) s)
filter_one t (y ∷ xs) (suc k) x few e p =
    let here = count_at t xs k x e p in
    (elim (t y) as (λ b. one b + count t xs ≤ 1 → cond b (y ∷ filter t xs) (filter t xs) ≡ x ∷ []) [
      | true ↦ λ le. absurd (omega (arith, le, here))
      | false ↦ λ le. filter_one t xs k x (omega (arith, le)) e p
    ]) few

-- an element that a filter keeps is in the list, and passes
pub filter_at : {X : Type 0} (u : X → Bool) (xs : List X) (k : ℕ) (x : X) → At (filter u xs) k x → (j : ℕ) × At xs j x × (u x ≡ true)
filter_at u [] k x e = cc
filter_at u (y ∷ xs) k x e =
    (elim (u y) as (λ b. u y ≡ b → At (cond b (y ∷ filter u xs) (filter u xs)) k x → (j : ℕ) × At (y ∷ xs) j x × (u x ≡ true)) [
      | true ↦ λ p q. front u y xs k x (λ m h. filter_at u xs m x h) p q
      | false ↦ λ p q. let h = filter_at u xs k x q in (suc h.0, h.1, h.2)
    ]) refl e
  where
    front : {X : Type 0} (u : X → Bool) (y : X) (xs : List X) (k : ℕ) (x : X)
        → ((k : ℕ) → At (filter u xs) k x → (j : ℕ) × At xs j x × (u x ≡ true)) → u y ≡ true → At (y ∷ filter u xs) k x
        → (j : ℕ) × At (y ∷ xs) j x × (u x ≡ true)
    front u y xs zero x ih p q = let s : y ≡ x = cc in (zero, q, ap u (sym s) ∙ p)
    front u y xs (suc k) x ih p q = let h = ih k q in (suc h.0, h.1, h.2)

-- ---- tests of some element

pub any-append : {X : Type 0} (t : X → Bool) (xs ys : List X) → list_any t (xs ++ ys) ≡ (list_any t xs || list_any t ys)
any-append t [] ys = refl
any-append t (x ∷ xs) ys =
    elim (t x) as (λ b. (b || list_any t (xs ++ ys)) ≡ ((b || list_any t xs) || list_any t ys)) [
      | true ↦ refl
      | false ↦ any-append t xs ys
    ]

-- an element of a list has an index
pub contained_at : {X : Type 0} (xs : List X) (x : X) → Contains xs x → (k : ℕ) × At xs k x
contained_at xs x h = (h.0, slice_get-get_or xs h.0 x h.1 ∙ ap Some h.2)

-- if all elements that pass have the same index, at most one passes
pub count_one : {X : Type 0} (t : X → Bool) (xs : List X)
    → ((j k : ℕ) (x y : X) → At xs j x → At xs k y → t x ≡ true → t y ≡ true → j ≡ k) → count t xs ≤ 1
count_one t [] one_index = omega arith
count_one t (x ∷ xs) one_index =
    (elim (t x) as (λ b. t x ≡ b → one b + count t xs ≤ 1) [
      | true ↦ λ e. let none = count_none t xs (no_more e) in omega (arith, none)
      | false ↦ λ e. let rest = count_one t xs (λ j k a b ea eb pa pb. let s = one_index (suc j) (suc k) a b ea eb pa pb in omega
          (arith, s)) in omega (arith, rest)
    ]) refl
  where
    each_false : {X : Type 0} (t : X → Bool) (xs : List X) → ((k : ℕ) (y : X) → At xs k y → t y ≡ false) → Each (λ y. t y ≡ false) xs
    each_false t [] h = tt
    each_false t (y ∷ ys) h = (h zero y refl, each_false t ys (λ k z e. h (suc k) z e))

    no_more : t x ≡ true → Each (λ y. t y ≡ false) xs
    no_more e = each_false t xs (λ k y ek. false_from_ne_true (t y) (λ p. let s : zero ≡ suc k = one_index zero
        (suc k) x y refl ek e p in absurd (omega (arith, s))))

-- an element of a mapped list
pub map_at : {X Y : Type 0} (f : X → Y) (xs : List X) (k : ℕ) (x : X) → At xs k x → At (map f xs) k (f x)
map_at f [] k x e = cc
map_at f (y ∷ xs) zero x e = let s : y ≡ x = cc in ap (λ z. Some (f z)) s
map_at f (y ∷ xs) (suc k) x e = map_at f xs k x e

-- if no element passes the test, none is counted
pub count_any_none : {X : Type 0} (t : X → Bool) (xs : List X) → list_any t xs ≡ false → count t xs ≡ 0
count_any_none t [] h = refl
count_any_none t (x ∷ xs) h =
    let p = or_parts (t x) (list_any t xs) h in
    let e = ap one p.0 in
    let f = count_any_none t xs p.1 in
    omega (arith, e, f)

-- if an element passes the test, it is counted
pub count_any : {X : Type 0} (t : X → Bool) (xs : List X) → list_any t xs ≡ true → 1 ≤ count t xs
count_any t [] h = cc
count_any t (x ∷ xs) h =
    elim (or_cases (t x) (list_any t xs) h) as (λ _. 1 ≤ count t (x ∷ xs)) [
      | inl this ↦ let e = ap one this in omega (arith, e)
      | inr later ↦ let f = count_any t xs later in omega (arith, f)
    ]
