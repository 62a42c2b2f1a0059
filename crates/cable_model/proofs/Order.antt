-- Lists in order: elements that are placed, left out and looked up.
use Rattle.std.proofs.Common.{◌≡◌, ◌⊎◌, inl, inr, ℕ, zero, suc, ◌+◌, Bool, true, false, cond, ◌||◌}
use Rattle.std.proofs.Common.{List, [], ◌∷◌, ◌++◌, Some, refl, sym, ap, ◌∙◌, subst, arith, filter, map, length, slice_get}
use Rattle.std.specs.List.{list_any, AllByRecursion as Each}
use Rattle.cable_model.proofs.Counting.{At, each_more}
use Rattle.cable_model.specs.Order.{Rises, all_placed, in_order, is_before, placed}

-- ---- the order of two numbers

not_both : (a b : ℕ × ℕ) → is_before a b ≡ true → is_before b a ≡ false
not_both a b h = grind arith

-- a before b, and c not before b
after_both : (a b c : ℕ × ℕ) → is_before a b ≡ true → is_before c b ≡ false → is_before a c ≡ true
after_both a b c h g = grind arith

-- a not after b, and b before c
pub before_more : (a b c : ℕ × ℕ) → is_before b a ≡ false → is_before b c ≡ true → is_before a c ≡ true
before_more a b c h g = grind arith

module _ {X : Type 0} (key : X → ℕ × ℕ) where
  -- ---- one more element

  pub each_placed : (P : X → Type 0) (x : X) (ys : List X) → P x → Each P ys → Each P (placed key x ys)
  each_placed P x [] h g = (h, tt)
  each_placed P x (y ∷ ys) h g = by (is_before (key x) (key y)) (each_placed P x ys h g.1)
    where
      by : (b : Bool) → Each P (placed key x ys) → Each P (cond b (x ∷ y ∷ ys) (y ∷ placed key x ys))
      by true rest = (h, g)
      by false rest = (g.0, rest)

  pub placed_rises : (x : X) (ys : List X) → Rises key ys → Rises key (placed key x ys)
  placed_rises x [] h = (tt, tt)
  placed_rises x (y ∷ ys) h = by (is_before (key x) (key y)) refl (placed_rises x ys h.1)
    where
      by : (b : Bool) → is_before (key x) (key y) ≡ b → Rises key (placed key x ys)
          → Rises key (cond b (x ∷ y ∷ ys) (y ∷ placed key x ys))
      by true e rest = (
        (
          not_both (key x) (key y) e,
          each_more _ _ ys (λ z g. not_both (key x) (key z) (after_both (key x) (key y) (key z) e g)) h.0,
        ),
        h,
      )
      by false e rest = (each_placed (λ z. is_before (key z) (key y) ≡ false) x ys e h.0, rest)

  pub all_placed_rises : (ys xs : List X) → Rises key ys → Rises key (all_placed key ys xs)
  all_placed_rises ys [] h = h
  all_placed_rises ys (x ∷ xs) h = all_placed_rises (placed key x ys) xs (placed_rises x ys h)

  pub each_all_placed : (P : X → Type 0) (ys xs : List X) → Each P ys → Each P xs → Each P (all_placed key ys xs)
  each_all_placed P ys [] h g = h
  each_all_placed P ys (x ∷ xs) h g = each_all_placed P (placed key x ys) xs (each_placed P x ys g.0 h) g.1

  pub all_placed-append : (ys xs zs : List X) → all_placed key ys (xs ++ zs) ≡ all_placed key (all_placed key ys xs) zs
  all_placed-append ys [] zs = refl
  all_placed-append ys (x ∷ xs) zs = all_placed-append (placed key x ys) xs zs

  -- ---- elements that are left out

  placed_first : (x : X) (ys : List X) → Each (λ y. is_before (key x) (key y) ≡ true) ys → placed key x ys ≡ x ∷ ys
  placed_first x [] h = refl
  placed_first x (y ∷ ys) h = ap (λ b. cond b (x ∷ y ∷ ys) (y ∷ placed key x ys)) h.0

  each_kept : (P : X → Type 0) (f : X → Bool) (ys : List X) → Each P ys → Each P (filter f ys)
  each_kept P f [] h = tt
  each_kept P f (y ∷ ys) h = by (f y) (each_kept P f ys h.1)
    where
      by : (b : Bool) → Each P (filter f ys) → Each P (cond b (y ∷ filter f ys) (filter f ys))
      by true rest = (h.0, rest)
      by false rest = rest

  filter_placed : (f : X → Bool) (x : X) (ys : List X) → Rises key ys
      → filter f (placed key x ys) ≡ cond (f x) (placed key x (filter f ys)) (filter f ys)
  filter_placed f x [] h = refl
  filter_placed f x (y ∷ ys) h = by (is_before (key x) (key y)) refl (filter_placed f x ys h.1)
    where
      front : (e : is_before (key x) (key y) ≡ true) → placed key x (filter f (y ∷ ys)) ≡ x ∷ filter f (y ∷ ys)
      front e = placed_first x (filter f (y ∷ ys)) (each_kept (λ z. is_before (key x) (key z) ≡ true) f (y ∷ ys)
          (e, each_more _ _ ys (λ z g. after_both (key x) (key y) (key z) e g) h.0))

      behind : (e : is_before (key x) (key y) ≡ false) (fx fy : Bool)
          → cond fy (y ∷ cond fx (placed key x (filter f ys)) (filter f ys)) (cond fx (placed key x (filter f ys)) (filter f ys))
          ≡ cond fx (placed key x (cond fy (y ∷ filter f ys) (filter f ys))) (cond fy (y ∷ filter f ys) (filter f ys))
      behind e true true = sym (ap (λ b. cond b (x ∷ y ∷ filter f ys) (y ∷ placed key x (filter f ys))) e)
      behind e false true = refl
      behind e true false = refl
      behind e false false = refl

      by : (b : Bool) → is_before (key x) (key y) ≡ b
          → filter f (placed key x ys) ≡ cond (f x) (placed key x (filter f ys)) (filter f ys)
          → filter f (cond b (x ∷ y ∷ ys) (y ∷ placed key x ys))
          ≡ cond (f x) (placed key x (filter f (y ∷ ys))) (filter f (y ∷ ys))
      by true e rest = ap (λ l. cond (f x) l (filter f (y ∷ ys))) (sym (front e))
      by false e rest = ap (λ l. cond (f y) (y ∷ l) l) rest ∙ behind e (f x) (f y)

  pub all_placed-filter : (f : X → Bool) (ys xs : List X) → Rises key ys
      → filter f (all_placed key ys xs) ≡ all_placed key (filter f ys) (filter f xs)
  all_placed-filter f ys [] h = refl
  all_placed-filter f ys (x ∷ xs) h =
      all_placed-filter f (placed key x ys) xs (placed_rises x ys h)
      ∙ (ap (λ l. all_placed key l (filter f xs)) (filter_placed f x ys h) ∙ by (f x))
    where
      by : (b : Bool) → all_placed key (cond b (placed key x (filter f ys)) (filter f ys)) (filter f xs)
          ≡ all_placed key (filter f ys) (cond b (x ∷ filter f xs) (filter f xs))
      by true = refl
      by false = refl

  pub in_order-filter : (f : X → Bool) (xs : List X) → filter f (in_order key xs) ≡ in_order key (filter f xs)
  in_order-filter f xs = all_placed-filter f [] xs tt

  -- ---- tests, lengths and elements

  any_placed : (f : X → Bool) (x : X) (ys : List X) → list_any f (placed key x ys) ≡ (f x || list_any f ys)
  any_placed f x [] = refl
  any_placed f x (y ∷ ys) = by (is_before (key x) (key y)) (any_placed f x ys)
    where
      turn : (a b c : Bool) → (b || (a || c)) ≡ (a || (b || c))
      turn true true c = refl
      turn true false c = refl
      turn false true c = refl
      turn false false c = refl

      by : (b : Bool) → list_any f (placed key x ys) ≡ (f x || list_any f ys)
          → list_any f (cond b (x ∷ y ∷ ys) (y ∷ placed key x ys)) ≡ (f x || (f y || list_any f ys))
      by true rest = refl
      by false rest = ap (λ b. f y || b) rest ∙ turn (f x) (f y) (list_any f ys)

  any_all_placed : (f : X → Bool) (ys xs : List X) → list_any f (all_placed key ys xs) ≡ (list_any f ys || list_any f xs)
  any_all_placed f ys [] = sym (none (list_any f ys))
    where
      none : (b : Bool) → (b || false) ≡ b
      none true = refl
      none false = refl
  any_all_placed f ys (x ∷ xs) =
      any_all_placed f (placed key x ys) xs
      ∙ (ap (λ b. b || list_any f xs) (any_placed f x ys) ∙ turn (f x) (list_any f ys) (list_any f xs))
    where
      turn : (a b c : Bool) → ((a || b) || c) ≡ (b || (a || c))
      turn true true c = refl
      turn true false c = refl
      turn false true c = refl
      turn false false c = refl

  pub any_in_order : (f : X → Bool) (xs : List X) → list_any f (in_order key xs) ≡ list_any f xs
  any_in_order f xs = any_all_placed f [] xs

  pub length_placed : (x : X) (ys : List X) → length (placed key x ys) ≡ suc (length ys)
  length_placed x [] = refl
  length_placed x (y ∷ ys) = by (is_before (key x) (key y)) (length_placed x ys)
    where
      by : (b : Bool) → length (placed key x ys) ≡ suc (length ys)
          → length (cond b (x ∷ y ∷ ys) (y ∷ placed key x ys)) ≡ suc (suc (length ys))
      by true rest = refl
      by false rest = ap suc rest

  pub length_all_placed : (ys xs : List X) → length (all_placed key ys xs) ≡ length ys + length xs
  length_all_placed ys [] = omega arith
  length_all_placed ys (x ∷ xs) =
      let rest = length_all_placed (placed key x ys) xs in
      let one = length_placed x ys in
      omega (arith, rest, one)

  -- x is in the list
  abbrev pub Has : List X → X → Type 0
  Has xs x = (k : ℕ) × At xs k x

  placed_has : (x : X) (ys : List X) (z : X) → Has (placed key x ys) z → (x ≡ z) ⊎ Has ys z
  placed_has x [] z (zero, e) = inl (let s : x ≡ z = cc in s)
  placed_has x [] z (suc k, e) = cc
  placed_has x (y ∷ ys) z h = by (λ k e. placed_has x ys z (k, e)) (is_before (key x) (key y)) h
    where
      by : ((k : ℕ) → At (placed key x ys) k z → (x ≡ z) ⊎ Has ys z) → (b : Bool)
          → Has (cond b (x ∷ y ∷ ys) (y ∷ placed key x ys)) z → (x ≡ z) ⊎ Has (y ∷ ys) z
      by rest true (zero, e) = inl (let s : x ≡ z = cc in s)
      by rest true (suc k, e) = inr (k, e)
      by rest false (zero, e) = inr (zero, e)
      by rest false (suc k, e) = elim (rest k e) [
        | inl s ↦ inl s
        | inr g ↦ inr (suc g.0, g.1)
      ]

  has_placed : (x : X) (ys : List X) (z : X) → (x ≡ z) ⊎ Has ys z → Has (placed key x ys) z
  has_placed x [] z (inl s) = (zero, ap Some s)
  has_placed x [] z (inr g) = cc
  has_placed x (y ∷ ys) z h = by (λ g. has_placed x ys z g) (is_before (key x) (key y)) h
    where
      by : ((x ≡ z) ⊎ Has ys z → Has (placed key x ys) z) → (b : Bool) → (x ≡ z) ⊎ Has (y ∷ ys) z
          → Has (cond b (x ∷ y ∷ ys) (y ∷ placed key x ys)) z
      by rest true (inl s) = (zero, ap Some s)
      by rest true (inr (k, e)) = (suc k, e)
      by rest false (inl s) = let g = rest (inl s) in (suc g.0, g.1)
      by rest false (inr (zero, e)) = (zero, e)
      by rest false (inr (suc k, e)) = let g = rest (inr (k, e)) in (suc g.0, g.1)

  all_placed_has : (ys xs : List X) (z : X) → Has (all_placed key ys xs) z → Has ys z ⊎ Has xs z
  all_placed_has ys [] z h = inl h
  all_placed_has ys (x ∷ xs) z h = elim (all_placed_has (placed key x ys) xs z h) [
    | inl g ↦ elim (placed_has x ys z g) [
      | inl s ↦ inr (zero, ap Some s)
      | inr f ↦ inl f
    ]
    | inr g ↦ inr (suc g.0, g.1)
  ]

  has_all_placed : (ys xs : List X) (z : X) → Has ys z ⊎ Has xs z → Has (all_placed key ys xs) z
  has_all_placed ys [] z (inl h) = h
  has_all_placed ys [] z (inr g) = cc
  has_all_placed ys (x ∷ xs) z (inl h) = has_all_placed (placed key x ys) xs z (inl (has_placed x ys z (inr h)))
  has_all_placed ys (x ∷ xs) z (inr (zero, e)) =
      let s : x ≡ z = cc in has_all_placed (placed key x ys) xs z (inl (has_placed x ys z (inl s)))
  has_all_placed ys (x ∷ xs) z (inr (suc k, e)) = has_all_placed (placed key x ys) xs z (inr (k, e))

  pub in_order_has : (xs : List X) (z : X) → Has (in_order key xs) z → Has xs z
  in_order_has xs z h = elim (all_placed_has [] xs z h) [
    | inl g ↦ cc
    | inr g ↦ g
  ]

  pub has_in_order : (xs : List X) (z : X) → Has xs z → Has (in_order key xs) z
  has_in_order xs z h = has_all_placed [] xs z (inr h)

  -- no element comes before the first
  pub first_least : (ys : List X) (x z : X) → Rises key ys → slice_get ys 0 ≡ Some x → Has ys z → is_before (key z) (key x) ≡ false
  first_least [] x z h e g = cc
  first_least (y ∷ ys) x z h e (zero, g) =
      let s : y ≡ x = cc in
      let r : y ≡ z = cc in
      grind arith
  first_least (y ∷ ys) x z h e (suc k, g) =
      let s : y ≡ x = cc in
      subst (λ x. is_before (key z) (key x) ≡ false) s (each_here ys k z g h.0)
    where
      each_here : (ys : List X) (k : ℕ) (z : X) → At ys k z → Each (λ v. is_before (key v) (key y) ≡ false) ys
          → is_before (key z) (key y) ≡ false
      each_here [] k z e h = cc
      each_here (v ∷ ys) zero z e h = let s : v ≡ z = cc in subst (λ v. is_before (key v) (key y) ≡ false) s h.0
      each_here (v ∷ ys) (suc k) z e h = each_here ys k z e h.1

-- ---- elements that another function reads

module _ {X Y : Type 0} (key : X → ℕ × ℕ) (key_of : Y → ℕ × ℕ) (g : X → Y) where
  pub map_placed : (x : X) (ys : List X) → key_of (g x) ≡ key x → Each (λ y. key_of (g y) ≡ key y) ys
      → map g (placed key x ys) ≡ placed key_of (g x) (map g ys)
  map_placed x [] s h = refl
  map_placed x (y ∷ ys) s h =
      by (is_before (key x) (key y)) (map_placed x ys s h.1)
      ∙ ap (λ b. cond b (g x ∷ g y ∷ map g ys) (g y ∷ placed key_of (g x) (map g ys))) same
    where
      same : is_before (key x) (key y) ≡ is_before (key_of (g x)) (key_of (g y))
      same = ap (λ k. is_before k (key y)) (sym s) ∙ ap (λ k. is_before (key_of (g x)) k) (sym h.0)

      by : (b : Bool) → map g (placed key x ys) ≡ placed key_of (g x) (map g ys)
          → map g (cond b (x ∷ y ∷ ys) (y ∷ placed key x ys)) ≡ cond b (g x ∷ g y ∷ map g ys) (g y ∷ placed key_of (g x) (map g ys))
      by true rest = refl
      by false rest = ap (λ l. g y ∷ l) rest

  pub map_all_placed : (ys xs : List X) → Each (λ y. key_of (g y) ≡ key y) ys → Each (λ y. key_of (g y) ≡ key y) xs
      → map g (all_placed key ys xs) ≡ all_placed key_of (map g ys) (map g xs)
  map_all_placed ys [] h e = refl
  map_all_placed ys (x ∷ xs) h e =
      map_all_placed (placed key x ys) xs (each_placed key (λ y. key_of (g y) ≡ key y) x ys e.0 h) e.1
      ∙ ap (λ l. all_placed key_of l (map g xs)) (map_placed x ys e.0 h)
