-- Lists in order, by two numbers: the first number decides, and the second where the first are equal.
use Rattle.std.specs.Prelude.{◌≡◌, ℕ, suc, Bool, false, ◌&&◌, ◌||◌, ◌==◌, cond, List, [], ◌∷◌, nat_lt}
use Rattle.std.specs.List.{AllByRecursion as Each}

-- the first two numbers come before the others
abbrev pub is_before : ℕ × ℕ → ℕ × ℕ → Bool
is_before a b = nat_lt a.0 b.0 || (a.0 == b.0 && nat_lt a.1 b.1)

-- no element comes before one that stands before it
abbrev pub Rises : {X : Type 0} → (X → ℕ × ℕ) → List X → Type 0
Rises key [] = Unit {0}
Rises key (x ∷ xs) = Each (λ y. is_before (key y) (key x) ≡ false) xs × Rises key xs

-- a list in order with one more element, which stands after all that don't come after it
abbrev pub placed : {X : Type 0} → (X → ℕ × ℕ) → X → List X → List X
placed key x [] = x ∷ []
placed key x (y ∷ ys) = cond (is_before (key x) (key y)) (x ∷ y ∷ ys) (y ∷ placed key x ys)

-- a list in order with further elements, one after another
abbrev pub all_placed : {X : Type 0} → (X → ℕ × ℕ) → List X → List X → List X
all_placed key ys [] = ys
all_placed key ys (x ∷ xs) = all_placed key (placed key x ys) xs

-- the elements of a list in order
abbrev pub in_order : {X : Type 0} → (X → ℕ × ℕ) → List X → List X
in_order key xs = all_placed key [] xs

-- the number of elements at the front that come before these two numbers
abbrev pub ahead : {X : Type 0} → (X → ℕ × ℕ) → ℕ × ℕ → List X → ℕ
ahead key k [] = 0
ahead key k (x ∷ xs) = cond (is_before (key x) k) (suc (ahead key k xs)) 0
