-- Comparison of texts as a test, and as a fact.
use Rattle.std.proofs.Common.{◌≡◌, ℕ, Bool, true, false, ◌&&◌, eqb, List, [], ◌∷◌, map, refl, sym, ap, ◌∙◌, eqb-true, eq-eqb}
use Rattle.std.specs.Prelude.{IsTrue, ◌↔◌, fold, length, replicate, take, ◌++◌, ◌-◌}
use Rattle.std.proofs.lemmas.List.{length-map, map-append, take-map}
use Rattle.std.specs.List.{list_all}
use Rattle.std.proofs.lemmas.Bool.{and_parts}
use Rattle.std.specs.Char.{to_ascii_lowercase}
use Rattle.std.specs.Cmp.{IsEquivalence, IsPartialEquivalence, partial_equiv_from_equiv}
use Rattle.at_base.specs.Text.{same_bytes, same_name, SameName, padded}

pub same_bytes_is : (a b : List ℕ) → same_bytes a b ≡ true → a ≡ b
same_bytes_is [] [] e = refl
same_bytes_is [] (y ∷ ys) e = cc
same_bytes_is (x ∷ xs) [] e = cc
same_bytes_is (x ∷ xs) (y ∷ ys) e =
    let h = and_parts (eqb x y) (same_bytes xs ys) e in
    let head : x ≡ y = eqb-true _ _ h.0 in
    let others : xs ≡ ys = same_bytes_is xs ys h.1 in
    cc

pub same_bytes_self : (a : List ℕ) → same_bytes a a ≡ true
same_bytes_self [] = refl
same_bytes_self (x ∷ xs) = ap (λ b. b && same_bytes xs xs) (eq-eqb x x refl) ∙ same_bytes_self xs

pub same_name_is : (a b : List ℕ) → same_name a b ≡ true → SameName a b
same_name_is a b e = same_bytes_is _ _ e

pub is_same_name : (a b : List ℕ) → SameName a b → same_name a b ≡ true
is_same_name a b e = ap (same_bytes (map to_ascii_lowercase a)) (sym e) ∙ same_bytes_self (map to_ascii_lowercase a)

-- a flag that is true for equal names, ignoring case, is the test
pub test_is : (b : Bool) (x y : List ℕ) → (IsTrue b ↔ SameName x y) → b ≡ same_name x y
test_is true x y h = sym (is_same_name x y (h.0 refl))
test_is false x y h =
    elim (same_name x y) as (λ (t : Bool). same_name x y ≡ t → false ≡ t) [
      | true ↦ λ e. h.1 (same_name_is x y e)
      | false ↦ λ e. refl
    ] refl

-- ---- texts padded to one length

-- texts that are equal, ignoring case, have one length
pub same_lengths : (a b : List ℕ) → SameName a b → length a ≡ length b
same_lengths a b e = sym (length-map a to_ascii_lowercase) ∙ (ap length e ∙ length-map b to_ascii_lowercase)

padded_alike : (a b : List ℕ) → SameName a b → map to_ascii_lowercase (padded a) ≡ map to_ascii_lowercase (padded b)
padded_alike a b e =
    let rest : ℕ → List ℕ = λ n. replicate (32 - n) 0 in
    map-append to_ascii_lowercase a (rest (length a))
    ∙ (ap (λ l. l ++ map to_ascii_lowercase (rest (length a))) e
    ∙ (ap (λ n. map to_ascii_lowercase b ++ map to_ascii_lowercase (rest n)) (same_lengths a b e)
    ∙ sym (map-append to_ascii_lowercase b (rest (length b)))))

-- two texts of one length in padded arrays are equal, ignoring case, if the arrays are
pub same_in_place : (n m : ℕ) (xs ys a b : List ℕ) → take n xs ≡ a → take m ys ≡ b → n ≡ m → xs ≡ padded (take n xs)
    → ys ≡ padded (take m ys) → (map to_ascii_lowercase xs ≡ map to_ascii_lowercase ys) ↔ SameName a b
same_in_place n m xs ys a b is_a is_b same padded_xs padded_ys = (
  (λ e. ap (map to_ascii_lowercase) (sym is_a) ∙ (sym (take-map to_ascii_lowercase n xs) ∙ (ap (take n) e
      ∙ (take-map to_ascii_lowercase n ys ∙ (ap (λ k. map to_ascii_lowercase (take k ys)) same ∙ ap (map to_ascii_lowercase) is_b))))),
  (λ e.
      let front = ap (map to_ascii_lowercase) is_a ∙ (e ∙ ap (map to_ascii_lowercase) (sym is_b)) in
      ap (map to_ascii_lowercase) padded_xs
      ∙ (padded_alike (take n xs) (take m ys) front ∙ ap (map to_ascii_lowercase) (sym padded_ys))),
)

and_assoc : (a b c : Bool) → ((a && b) && c) ≡ (a && (b && c))
and_assoc true b c = refl
and_assoc false b c = refl

and_true : (a : Bool) → a ≡ (a && true)
and_true true = refl
and_true false = refl

-- a test of all bytes that doesn't stop early
pub fold_and : (p : ℕ → Bool) (good : Bool) (bytes : List ℕ) → fold (λ g b. g && p b) good bytes ≡ (good && list_all p bytes)
fold_and p good [] = and_true good
fold_and p good (b ∷ bytes) = fold_and p (good && p b) bytes ∙ and_assoc good (p b) (list_all p bytes)

-- ---- names that differ only in case are one key

pub same_name_symm : (x y : List ℕ) → same_name x y ≡ same_name y x
same_name_symm x y = test_is (same_name x y) y x (λ t. sym (same_name_is x y t), λ e. is_same_name x y (sym e))

pub same_name_congr : (x y z : List ℕ) → same_name x y ≡ true → same_name x z ≡ same_name y z
same_name_congr x y z same =
    let one = same_name_is x y same in
    test_is (same_name x z) y z (λ t. sym one ∙ same_name_is x z t, λ e. is_same_name x z (one ∙ e))

pub names_alike : IsEquivalence same_name
names_alike = record { refl = λ x. is_same_name x x refl; symm = same_name_symm; congr = same_name_congr }

pub names_alike_in_part : IsPartialEquivalence same_name
names_alike_in_part = partial_equiv_from_equiv names_alike
