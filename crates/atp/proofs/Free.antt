-- Of more consecutive IDs than there are transactions, at least one isn't open.
use Rattle.std.proofs.Common.{◌≡◌, ℕ, zero, suc, ◌+◌, ◌-◌, ◌%◌, ◌<◌, ◌≤◌, Bool, true, false, cond, eqb, ltb, List, [], ◌∷◌, Option, Some}
use Rattle.std.proofs.Common.{None, is_some, count_by, ap, ◌∙◌, arith}
use Rattle.std.proofs.lemmas.Bool.{eqb-true}
use Rattle.std.proofs.lemmas.List.Sums.{sum_by-cons}
use Rattle.at_base.proofs.Cases.{by_test}
use Rattle.atp.specs.declared.transaction.Transaction.{Transaction}
use Rattle.atp.specs.Requesting.{known}

abbrev Slots : Type 0
Slots = List (Option Transaction)

-- the distance of a number from the first one, going upwards modulo 65,536
abbrev after : ℕ → ℕ → ℕ
after first id = (id + 65536 - first) % 65536

abbrev bit : Bool → ℕ
bit b = cond b 1 0

-- the number of transactions with one of the consecutive IDs
abbrev hits : ℕ → ℕ → Slots → ℕ
hits first m [] = 0
hits first m (None ∷ slots) = hits first m slots
hits first m (Some t ∷ slots) = bit (ltb (after first t.id) m) + hits first m slots

one_at_most : (b : Bool) → bit b ≤ 1
one_at_most true = omega arith
one_at_most false = omega arith

few : (first m : ℕ) (slots : Slots) → hits first m slots ≤ count_by is_some slots
few first m [] = omega arith
few first m (None ∷ slots) = omega (arith, few first m slots, sum_by-cons (λ (o : Option Transaction). cond (is_some o) 1 0) None slots)
few first m (Some t ∷ slots) =
    omega (
      arith,
      few first m slots,
      one_at_most (ltb (after first t.id) m),
      sum_by-cons (λ (o : Option Transaction). cond (is_some o) 1 0) (Some t) slots,
    )

wider : (n m : ℕ) → bit (ltb n m) ≤ bit (ltb n (suc m))
wider n m = grind arith

more : (first m : ℕ) (slots : Slots) → hits first m slots ≤ hits first (suc m) slots
more first m [] = omega arith
more first m (None ∷ slots) = more first m slots
more first m (Some t ∷ slots) = omega (arith, more first m slots, wider (after first t.id) m)

its_place : (first m : ℕ) → first < 65536 → m < 65536 → after first ((first + m) % 65536) ≡ m
its_place first m a b = omega arith

not_below : (n m : ℕ) → n ≡ m → bit (ltb n m) ≡ 0
not_below n m e = grind arith

just_below : (n m : ℕ) → n ≡ m → bit (ltb n (suc m)) ≡ 1
just_below n m e = grind arith

one_more : (first m : ℕ) (slots : Slots) (t : Transaction) → first < 65536 → m < 65536 → known ((first + m) % 65536) slots ≡ Some t
    → suc (hits first m slots) ≤ hits first (suc m) slots
one_more first m [] t a b e = absurd cc
one_more first m (None ∷ slots) t a b e = one_more first m slots t a b e
one_more first m (Some u ∷ slots) t a b e =
    by_test (eqb u.id ((first + m) % 65536))
    (λ c.
    let same : after first u.id ≡ m = ap (after first) (eqb-true _ _ c) ∙ its_place first m a b in
    let x = not_below (after first u.id) m same in
    let y = just_below (after first u.id) m same in
    omega (arith, more first m slots, x, y))
    (λ c. omega (arith, one_more first m slots t a b (rw c at e), wider (after first u.id) m))

all_hit : (first m : ℕ) (slots : Slots) → first < 65536 → m ≤ 65536
    → ((k : ℕ) → k < m → (t : Transaction) × (known ((first + k) % 65536) slots ≡ Some t)) → m ≤ hits first m slots
all_hit first zero slots a b h = omega arith
all_hit first (suc m) slots a b h =
    let last = h m (omega arith) in
    let before = all_hit first m slots a (omega arith) (λ k lt. h k (omega arith)) in
    omega (arith, before, one_more first m slots last.0 a (omega arith) last.1)

pub not_all : (first : ℕ) (slots : Slots) → first < 65536 → count_by is_some slots ≤ 32
    → ((k : ℕ) → k < 33 → (t : Transaction) × (known ((first + k) % 65536) slots ≡ Some t)) → ⊥
not_all first slots a few_open h =
    let n = all_hit first 33 slots a (omega arith) h in
    omega (arith, n, few first 33 slots, few_open)
