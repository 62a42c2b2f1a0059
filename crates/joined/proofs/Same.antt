-- Cables are the same ones exactly if they are equal.
use Rattle.std.proofs.Common.{◌≡◌, ◌↔◌, ℕ, true, ◌&&◌, eqb, List, [], ◌∷◌, refl, ap, ◌∙◌, subst, eqb-true, eq-eqb}
use Rattle.std.proofs.lemmas.Bool.{and_parts}
use Rattle.at_base.proofs.Texts.{same_bytes_is, same_bytes_self}
use Rattle.at_base.specs.Text.{same_bytes}
use Rattle.joined.specs.Joining.{have_same_cables, same_cable, same_cables, same_names}
use Rattle.table_image.specs.Internet.{Internet}
use Rattle.table_image.specs.declared.cable.Cable.{Cable}

names_are : (a b : List (List ℕ)) → same_names a b ≡ true → a ≡ b
names_are [] [] e = refl
names_are [] (y ∷ ys) e = cc
names_are (x ∷ xs) [] e = cc
names_are (x ∷ xs) (y ∷ ys) e =
    let h = and_parts (same_bytes x y) (same_names xs ys) e in
    let head : x ≡ y = same_bytes_is x y h.0 in
    let others : xs ≡ ys = names_are xs ys h.1 in
    cc

names_self : (a : List (List ℕ)) → same_names a a ≡ true
names_self [] = refl
names_self (x ∷ xs) = ap (λ b. b && same_names xs xs) (same_bytes_self x) ∙ names_self xs

cable_is : (a b : Cable) → same_cable a b ≡ true → a ≡ b
cable_is a b e =
    let h = and_parts (eqb a.start b.start && eqb a.end b.end) (same_names a.zones b.zones) e in
    let k = and_parts (eqb a.start b.start) (eqb a.end b.end) h.0 in
    let start : a.start ≡ b.start = eqb-true _ _ k.0 in
    let end : a.end ≡ b.end = eqb-true _ _ k.1 in
    let zones : a.zones ≡ b.zones = names_are a.zones b.zones h.1 in
    let made : ℕ → ℕ → List (List ℕ) → Cable = λ s e z. record { start = s; end = e; zones = z } in
    ap (λ (s : ℕ). made s a.end a.zones) start ∙ ap (λ (e : ℕ). made b.start e a.zones) end ∙ ap (made b.start b.end) zones

cable_self : (a : Cable) → same_cable a a ≡ true
cable_self a =
    let start : eqb a.start a.start ≡ true = eq-eqb a.start a.start refl in
    let end : eqb a.end a.end ≡ true = eq-eqb a.end a.end refl in
    rw (start, end) (names_self a.zones)

cables_are : (a b : List Cable) → same_cables a b ≡ true → a ≡ b
cables_are [] [] e = refl
cables_are [] (y ∷ ys) e = cc
cables_are (x ∷ xs) [] e = cc
cables_are (x ∷ xs) (y ∷ ys) e =
    let h = and_parts (same_cable x y) (same_cables xs ys) e in
    let head : x ≡ y = cable_is x y h.0 in
    let others : xs ≡ ys = cables_are xs ys h.1 in
    cc

cables_self : (a : List Cable) → same_cables a a ≡ true
cables_self [] = refl
cables_self (x ∷ xs) = ap (λ b. b && same_cables xs xs) (cable_self x) ∙ cables_self xs

-- Internets have the same cables exactly if their lists of cables are equal.
pub same_is_equal : (one other : Internet) → (have_same_cables one other ≡ true) ↔ (one.cables ≡ other.cables)
same_is_equal one other = (
  cables_are one.cables other.cables,
  λ e. subst (λ (cables : List Cable). same_cables one.cables cables ≡ true) e (cables_self one.cables),
)
