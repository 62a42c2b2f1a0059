-- Two rising lists with the same numbers, side by side.
use Rattle.std.proofs.Common.{◌≡◌, ℕ, zero, suc, ◌<◌, ◌≤◌, List, [], ◌∷◌, refl, ap, arith, subst}
use Rattle.table_image.specs.Bounds.{Rises}
use Rattle.audit.proofs.WalkLists.{At}

-- the lists have the same length, and R holds of the elements at each index
abbrev pub AreSideBySide : {X Y : Type 0} → (X → Y → Type 0) → List X → List Y → Type 0
AreSideBySide R [] [] = Unit {0}
AreSideBySide R [] (y ∷ ys) = ⊥
AreSideBySide R (x ∷ xs) [] = ⊥
AreSideBySide R (x ∷ xs) (y ∷ ys) = R x y × AreSideBySide R xs ys

-- a fact about the elements at each index
pub and_so : {X Y : Type 0} (R S : X → Y → Type 0) (xs : List X) (ys : List Y) → AreSideBySide R xs ys
    → ((j : ℕ) (x : X) (y : Y) → At xs j x → At ys j y → R x y → S x y) → AreSideBySide S xs ys
and_so R S [] [] zs each = tt
and_so R S [] (y ∷ ys) zs each = absurd zs
and_so R S (x ∷ xs) [] zs each = absurd zs
and_so R S (x ∷ xs) (y ∷ ys) zs each =
    (each zero x y refl refl zs.0, and_so R S xs ys zs.1 (λ j a b ea eb e. each (suc j) a b ea eb e))

-- the element beside another one
pub beside : {X Y : Type 0} (R : X → Y → Type 0) (xs : List X) (ys : List Y) → AreSideBySide R xs ys → (k : ℕ) (x : X) → At xs k x
    → (y : Y) × At ys k y × R x y
beside R [] ys zs k x at = cc
beside R (x ∷ xs) [] zs k a at = absurd zs
beside R (x ∷ xs) (y ∷ ys) zs zero a at = let same : x ≡ a = cc in (y, refl, subst (λ x. R x y) same zs.0)
beside R (x ∷ xs) (y ∷ ys) zs (suc k) a at = beside R xs ys zs.1 k a at

module _ {Z : Type 0} (h : Z → ℕ) where
  -- the first element of a rising list is the least
  least : (z : Z) (zs : List Z) (k : ℕ) (b : Z) → Rises h (z ∷ zs) → At (z ∷ zs) k b → h z ≤ h b
  least z zs zero b up at =
      let same : z ≡ b = cc in
      let e : h z ≡ h b = ap h same in
      omega arith
  least z zs (suc k) b up at = let lt = up zero (suc k) z b refl at (omega arith) in omega arith

  -- an element above the first one comes after it
  later : (z : Z) (zs : List Z) (k : ℕ) (b : Z) → At (z ∷ zs) k b → h z < h b → (m : ℕ) × At zs m b
  later z zs zero b at lt =
      let same : z ≡ b = cc in
      let e : h z ≡ h b = ap h same in
      absurd (omega arith)
  later z zs (suc m) b at lt = (m, at)

  rest_rises : (z : Z) (zs : List Z) → Rises h (z ∷ zs) → Rises h zs
  rest_rises z zs up j k a b ea eb lt = up (suc j) (suc k) a b ea eb (omega arith)

-- rising lists, each with the numbers of the other, have the same numbers at the same indices
pub same_numbers : {X Y : Type 0} (f : X → ℕ) (g : Y → ℕ) (xs : List X) (ys : List Y) → Rises f xs → Rises g ys
    → ((j : ℕ) (x : X) → At xs j x → (k : ℕ) × (y : Y) × At ys k y × (f x ≡ g y))
    → ((k : ℕ) (y : Y) → At ys k y → (j : ℕ) × (x : X) × At xs j x × (f x ≡ g y)) → AreSideBySide (λ x y. f x ≡ g y) xs ys
same_numbers f g [] [] up_x up_y there back = tt
same_numbers f g [] (y ∷ ys) up_x up_y there back = let w = back zero y refl in let none = w.2 in cc
same_numbers f g (x ∷ xs) [] up_x up_y there back = let w = there zero x refl in let none = w.2 in cc
same_numbers f g (x ∷ xs) (y ∷ ys) up_x up_y there back =
    let w = there zero x refl in
    let v = back zero y refl in
    let low_y : g y ≤ g w.1 = least g y ys w.0 w.1 up_y w.2 in
    let low_x : f x ≤ f v.1 = least f x xs v.0 v.1 up_x v.2 in
    let one : f x ≡ g w.1 = w.3 in
    let other : f v.1 ≡ g y = v.3 in
    let head : f x ≡ g y = omega arith in (
      head,
      same_numbers f g xs ys (rest_rises f x xs up_x) (rest_rises g y ys up_y)
          (λ j a at.
          let lt : f x < f a = up_x zero (suc j) x a refl at (omega arith) in
          let t = there (suc j) a at in
          let e : f a ≡ g t.1 = t.3 in
          let m = later g y ys t.0 t.1 t.2 (omega arith) in
          (m.0, t.1, m.1, t.3))
          (λ k b at.
          let lt : g y < g b = up_y zero (suc k) y b refl at (omega arith) in
          let t = back (suc k) b at in
          let e : f t.1 ≡ g b = t.3 in
          let m = later f x xs t.0 t.1 t.2 (omega arith) in
          (m.0, t.1, m.1, t.3)),
    )
