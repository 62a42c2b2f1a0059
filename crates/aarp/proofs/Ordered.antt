-- The mappings by rising address are those that are known, in the one order in which their addresses rise.
use Rattle.std.proofs.Common.{◌≡◌, ◌⊎◌, inl, inr, ℕ, zero, suc, ◌+◌, ◌<◌, ◌≤◌, Bool, true, false, List, [], ◌∷◌, length, map, Some, refl, sym, ap}
use Rattle.std.proofs.Common.{◌∙◌, arith, All, Contains, IsPermutation, slice_index_or, nat_lt, eq-eqb, ltb-false, ltb-true, if◌then◌else◌}
use Rattle.std.specs.List.{AllByRecursion, IsDistinct}
use Rattle.std.specs.List.Sorted.{IsNonDecreasingBy}
use Rattle.std.proofs.lemmas.List.Elements.{All-from_recursion, recursion_from_All}
use Rattle.std.proofs.lemmas.List.Sorted.{All-permutation, Contains-permutation, IsPermutation-cons, IsPermutation-map, IsPermutation-middle}
use Rattle.std.proofs.lemmas.List.Sorted.{IsPermutation-refl, IsPermutation-sym, IsPermutation-trans, length_permutation}
use Rattle.std.proofs.lemmas.Map.Keys.{IsDistinct-head, IsDistinct-IsPermutation, IsDistinct-tail}
use Rattle.at_base.proofs.Cases.{by_test}
use Rattle.at_base.specs.declared.address.Addr.{Addr}
use Rattle.at_base.specs.declared.address.Hw.{Hw}
use Rattle.at_base.specs.Address.{same_address}
use Rattle.aarp.specs.Mapping.{AddressesRise, FitsMapping, address_number, by_address, mapping_of, placed}
use Rattle.aarp.proofs.Known.{same_is}

-- ---- the same mappings

placed_moves : (m : Addr × Hw) (known : List (Addr × Hw)) → IsPermutation (m ∷ known) (placed m known)
placed_moves m [] = IsPermutation-refl (m ∷ [])
placed_moves m (n ∷ known) = by (nat_lt (address_number n.0) (address_number m.0)) (placed_moves m known)
  where
    by : (b : Bool) → IsPermutation (m ∷ known) (placed m known)
        → IsPermutation (m ∷ n ∷ known) (if b then n ∷ placed m known else m ∷ n ∷ known)
    by true rest =
        IsPermutation-trans (m ∷ n ∷ known) (n ∷ m ∷ known) (n ∷ placed m known) (IsPermutation-middle (m ∷ []) n known)
        (IsPermutation-cons n (m ∷ known) (placed m known) rest)
    by false rest = IsPermutation-refl (m ∷ n ∷ known)

-- the mappings by rising address are those that are known, in another order
pub order_moves : (known : List (Addr × Hw)) → IsPermutation known (by_address known)
order_moves [] = IsPermutation-refl []
order_moves (m ∷ known) =
    IsPermutation-trans (m ∷ known) (m ∷ by_address known) (placed m (by_address known))
    (IsPermutation-cons m known (by_address known) (order_moves known)) (placed_moves m (by_address known))

pub as_many : (known : List (Addr × Hw)) → length (by_address known) ≡ length known
as_many known = length_permutation known (by_address known) (order_moves known)

not_both : (a n m : Addr) → same_address a n ≡ true → address_number n < address_number m → same_address a m ≡ false
not_both a n m s lt =
    by_test (same_address a m)
    (λ t. let same : address_number n ≡ address_number m = ap address_number (sym (same_is a n s) ∙ same_is a m t) in
    absurd (omega (arith, same, lt)))
    (λ f. f)

placed_same : (a : Addr) (m : Addr × Hw) (known : List (Addr × Hw)) → mapping_of a (placed m known) ≡ mapping_of a (m ∷ known)
placed_same a m [] = refl
placed_same a m (n ∷ known) = by (nat_lt (address_number n.0) (address_number m.0)) refl (placed_same a m known)
  where
    by : (b : Bool) → nat_lt (address_number n.0) (address_number m.0) ≡ b → mapping_of a (placed m known) ≡ mapping_of a (m ∷ known)
        → mapping_of a (if b then n ∷ placed m known else m ∷ n ∷ known) ≡ mapping_of a (m ∷ n ∷ known)
    by true lower rest =
        by_test (same_address a n.0)
        (λ t. let other = not_both a n.0 m.0 t (ltb-true _ _ lower) in rw (t, other) refl)
        (λ f. rw f rest)
    by false lower rest = refl

-- each address has the mapping that it had
pub same_mapping : (a : Addr) (known : List (Addr × Hw)) → mapping_of a (by_address known) ≡ mapping_of a known
same_mapping a [] = refl
same_mapping a (m ∷ known) =
    placed_same a m (by_address known) ∙ ap (λ o. if same_address a m.0 then Some m.1 else o) (same_mapping a known)

-- ---- numbers that differ

-- the mapping has another number than n
abbrev HasOther : ℕ → Addr × Hw → Type 0
HasOther n m = address_number m.0 ≡ n → ⊥

one_address : (a b : Addr) → a.node < 256 → b.node < 256 → address_number a ≡ address_number b → same_address a b ≡ true
one_address a b low high e =
    let net : a.net ≡ b.net = omega (arith, low, high, e) in
    let node : a.node ≡ b.node = omega (arith, low, high, e) in
    rw (eq-eqb a.net b.net net, eq-eqb a.node b.node node) refl

numbers_differ : (m : Addr × Hw) (known : List (Addr × Hw)) → FitsMapping m → AllByRecursion FitsMapping known
    → AllByRecursion (λ a. same_address m.0 a ≡ false) (map (λ p. p.0) known) → AllByRecursion (HasOther (address_number m.0)) known
numbers_differ m [] fit fits other = tt
numbers_differ m (n ∷ known) fit fits other = (
  λ e. let same = one_address m.0 n.0 fit.node fits.0.node (sym e) in let never : true ≡ false = sym same ∙ other.0 in absurd cc,
  numbers_differ m known fit fits.1 other.1,
)

-- ---- rising addresses

placed_rises : (low : ℕ) (m : Addr × Hw) (known : List (Addr × Hw)) → low ≤ address_number m.0 → AddressesRise low known
    → AllByRecursion (HasOther (address_number m.0)) known → AddressesRise low (placed m known)
placed_rises low m [] le rise other = (le, tt)
placed_rises low m (n ∷ known) le rise other =
    by (nat_lt (address_number n.0) (address_number m.0)) refl
    (λ lt. placed_rises (address_number n.0 + 1) m known (omega (arith, lt)) rise.1 other.1)
  where
    by : (b : Bool) → nat_lt (address_number n.0) (address_number m.0) ≡ b
        → (address_number n.0 < address_number m.0 → AddressesRise (address_number n.0 + 1) (placed m known))
        → AddressesRise low (if b then n ∷ placed m known else m ∷ n ∷ known)
    by true t rest = (rise.0, rest (ltb-true _ _ t))
    by false f rest =
        let least = ltb-false (address_number n.0) (address_number m.0) f in
        let apart = other.0 in
        (le, (omega (arith, least, apart), rise.1))

-- the addresses rise, if no two are the same
pub order_rises : (known : List (Addr × Hw)) → AllByRecursion FitsMapping known → IsDistinct same_address (map (λ p. p.0) known)
    → AddressesRise 0 (by_address known)
order_rises [] fits distinct = tt
order_rises (m ∷ known) fits distinct =
    let other = numbers_differ m known fits.0 fits.1 (IsDistinct-head same_address m.0 (map (λ p. p.0) known) distinct) in
    let rest = order_rises known fits.1 (IsDistinct-tail same_address m.0 (map (λ p. p.0) known) distinct) in
    placed_rises 0 m (by_address known) (omega arith) rest
    (recursion_from_All (HasOther (address_number m.0)) (by_address known)
    (All-permutation (HasOther (address_number m.0)) known (by_address known) (order_moves known)
    (All-from_recursion (HasOther (address_number m.0)) known other)))

-- numbers that don't fall and differ rise
sorted_rises : (low : ℕ) (known : List (Addr × Hw)) → AllByRecursion FitsMapping known → IsDistinct same_address (map (λ p. p.0) known)
    → IsNonDecreasingBy (λ p. address_number p.0) known
    → ((d : Addr × Hw) → 0 < length known → low ≤ address_number (slice_index_or known 0 d).0) → AddressesRise low known
sorted_rises low [] fits distinct up first = tt
sorted_rises low (m ∷ known) fits distinct up first =
    let other = numbers_differ m known fits.0 fits.1 (IsDistinct-head same_address m.0 (map (λ p. p.0) known) distinct) in
    let others = All-from_recursion (HasOther (address_number m.0)) known other in (
      first m (omega arith),
      sorted_rises (address_number m.0 + 1) known fits.1 (IsDistinct-tail same_address m.0 (map (λ p. p.0) known) distinct)
          (λ i j d le lt. up (suc i) (suc j) d (omega (arith, le)) (omega (arith, lt)))
          (λ d some.
          let least = up zero (suc zero) d (omega arith) (omega (arith, some)) in
          let apart = others zero d some in
          omega (arith, least, apart)),
    )

-- ---- one order

-- a mapping of a list is its first one, or one of the others
first_or_other : (n : Addr × Hw) (known : List (Addr × Hw)) (m : Addr × Hw) → Contains (n ∷ known) m → (n ≡ m) ⊎ Contains known m
first_or_other n known m (zero, lt, is) = inl is
first_or_other n known m (suc k, lt, is) = inr (k, omega (arith, lt), is)

further : (n : Addr × Hw) (known : List (Addr × Hw)) (m : Addr × Hw) → Contains known m → Contains (n ∷ known) m
further n known m (k, lt, is) = (suc k, omega (arith, lt), is)

above : (low : ℕ) (known : List (Addr × Hw)) (m : Addr × Hw) → AddressesRise low known → Contains known m → low ≤ address_number m.0
above low [] m rise (k, lt, is) = absurd (omega (arith, lt))
above low (n ∷ known) m rise there =
    elim (first_or_other n known m there) [
      | inl is ↦ (let same = ap (λ (p : Addr × Hw). address_number p.0) is in omega (arith, rise.0, same))
      | inr later ↦ (let least = above (address_number n.0 + 1) known m rise.1 later in omega (arith, rise.0, least))
    ]

-- what is in a list with the first mapping of another one, and not that one, is in the other one's rest
in_rest : (x y : Addr × Hw) (xs ys : List (Addr × Hw)) (m : Addr × Hw) → x ≡ y → AddressesRise (address_number x.0 + 1) xs
    → Contains xs m → Contains (y ∷ ys) m → Contains ys m
in_rest x y xs ys m same rise there found =
    elim (first_or_other y ys m found) [
      | inl is ↦
          (let one = ap (λ (p : Addr × Hw). address_number p.0) (same ∙ is) in
          let least = above (address_number x.0 + 1) xs m rise there in
          absurd (omega (arith, one, least)))
      | inr later ↦ later
    ]

-- two lists with the same mappings whose addresses rise are one
one_order : (low high : ℕ) (xs ys : List (Addr × Hw)) → AddressesRise low xs → AddressesRise high ys
    → ((m : Addr × Hw) → Contains xs m → Contains ys m) → ((m : Addr × Hw) → Contains ys m → Contains xs m) → xs ≡ ys
one_order low high [] [] p q f g = refl
one_order low high [] (y ∷ ys) p q f g = let none = g y (zero, omega arith, refl) in absurd (omega (arith, none.1))
one_order low high (x ∷ xs) [] p q f g = let none = f x (zero, omega arith, refl) in absurd (omega (arith, none.1))
one_order low high (x ∷ xs) (y ∷ ys) p q f g =
    ap (λ (m : Addr × Hw). m ∷ xs) first
    ∙ ap (λ (l : List (Addr × Hw)). y ∷ l)
    (one_order (address_number x.0 + 1) (address_number y.0 + 1) xs ys p.1 q.1
    (λ m there. in_rest x y xs ys m first p.1 there (f m (further x xs m there)))
    (λ m there. in_rest y x ys xs m (sym first) q.1 there (g m (further y ys m there))))
  where
    first : x ≡ y
    first = elim (first_or_other y ys x (f x (zero, omega arith, refl))) [
      | inl is ↦ sym is
      | inr later ↦
          elim (first_or_other x xs y (g y (zero, omega arith, refl))) [
            | inl is ↦ is
            | inr sooner ↦
                (let one = above (address_number y.0 + 1) ys x q.1 later in
                let other = above (address_number x.0 + 1) xs y p.1 sooner in
                absurd (omega (arith, one, other)))
          ]
    ]

-- ---- sorted mappings

-- What sorting gives.
pub record Sorted (known sorted : List (Addr × Hw)) : Type 0 where
  pub is : sorted ≡ by_address known
  pub rises : AddressesRise 0 sorted
  pub fits : All FitsMapping sorted
  pub number : length sorted ≡ length known

turned : (x y : Addr) → same_address x y ≡ true → same_address y x ≡ true
turned x y t = grind arith

not_turned : (x y : Addr) → same_address x y ≡ false → same_address y x ≡ false
not_turned x y f = grind arith

pub sorted_is : (known sorted : List (Addr × Hw)) → All FitsMapping known → IsDistinct same_address (map (λ p. p.0) known)
    → IsPermutation known sorted → IsNonDecreasingBy (λ p. address_number p.0) sorted → Sorted known sorted
sorted_is known sorted fit distinct moved up =
    let fits = All-permutation FitsMapping known sorted moved fit in
    let apart = IsDistinct-IsPermutation same_address
    (λ x y. by_test (same_address x y) (λ t. t ∙ sym (turned x y t)) (λ f. f ∙ sym (not_turned x y f)))
    (map (λ p. p.0) known) (map (λ p. p.0) sorted) (IsPermutation-map (λ p. p.0) known sorted moved) distinct in
    let rises = sorted_rises 0 sorted (recursion_from_All FitsMapping sorted fits) apart up (λ d some. omega arith) in
    let order = order_rises known (recursion_from_All FitsMapping known fit) distinct in
    let from = IsPermutation-trans sorted known (by_address known) (IsPermutation-sym known sorted moved) (order_moves known) in
    record {
      is = one_order 0 0 sorted (by_address known) rises order (λ m there. Contains-permutation sorted (by_address known) m from there)
          (λ m there. Contains-permutation (by_address known) sorted m (IsPermutation-sym sorted (by_address known) from) there);
      rises = rises;
      fits = fits;
      number = length_permutation known sorted moved;
    }
