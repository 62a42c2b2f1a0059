-- Numbers in rising order: the place of a number, and what adding and taking out give.
use Rattle.std.proofs.Common.{◌≡◌, ℕ, suc, ◌<◌, ◌≤◌, Bool, true, false, ◌&&◌, ◌==◌, List, [], ◌∷◌, ◌++◌, length, filter}
use Rattle.std.proofs.Common.{refl, ap, sym, subst, ◌∙◌, ◌-◌, zero, get_or, arith, nat_lt, nat_le, take, drop, if◌then◌else◌}
use Rattle.std.specs.Prelude.{insert}
use Rattle.std.specs.List.{remove}
use Rattle.at_base.specs.Starts.{before_start}
use Rattle.std.proofs.lemmas.Bool.Decides.{nat_tests}
use Rattle.std.proofs.lemmas.Bool.{ltb-true, ltb-false, lt-ltb, le-ltb, ne_eqb}
use Rattle.at_base.specs.Numbers.{AreRising, below, between, in_order, with_number, without_number}
use Rattle.at_base.proofs.Cases.{by_test}

-- ---- a number more

-- the two cases of adding a number to others
pub with_cases : (P : List ℕ → Type 0) (n a : ℕ) (numbers : List ℕ) → (a < n → P (a ∷ with_number n numbers))
    → (n ≤ a → P (n ∷ a ∷ numbers)) → P (with_number n (a ∷ numbers))
with_cases P n a numbers later first = by (nat_lt a n) refl
  where
    by : (b : Bool) → nat_lt a n ≡ b → P (if b then a ∷ with_number n numbers else n ∷ a ∷ numbers)
    by true t = later (ltb-true _ _ t)
    by false t = first (ltb-false _ _ t)

pub put_after : (n a : ℕ) (numbers : List ℕ) → a < n → with_number n (a ∷ numbers) ≡ a ∷ with_number n numbers
put_after n a numbers lt = rw (lt-ltb _ _ lt) refl

pub put_first : (n a : ℕ) (numbers : List ℕ) → n ≤ a → with_number n (a ∷ numbers) ≡ n ∷ a ∷ numbers
put_first n a numbers le = rw (le-ltb _ _ le) refl

pub length_with : (n : ℕ) (numbers : List ℕ) → length (with_number n numbers) ≡ suc (length numbers)
length_with n [] = refl
length_with n (a ∷ numbers) =
    with_cases (λ l. length l ≡ suc (suc (length numbers))) n a numbers (λ t. ap suc (length_with n numbers)) (λ t. refl)

pub length_in_order : (numbers : List ℕ) → length (in_order numbers) ≡ length numbers
length_in_order [] = refl
length_in_order (a ∷ numbers) = length_with a (in_order numbers) ∙ ap suc (length_in_order numbers)

-- two numbers are added in either order
pub with_twice : (a b : ℕ) (numbers : List ℕ) → with_number a (with_number b numbers) ≡ with_number b (with_number a numbers)
with_twice a b [] =
    by_test (nat_lt a b) (λ t. put_first a b [] (omega (arith, ltb-true _ _ t)) ∙ sym (put_after b a [] (ltb-true _ _ t)))
    (λ f. by_test (nat_lt b a) (λ t. put_after a b [] (ltb-true _ _ t) ∙ sym (put_first b a [] (omega (arith, ltb-true _ _ t))))
    (λ g. let same : a ≡ b = omega (arith, ltb-false _ _ f, ltb-false _ _ g) in rw same refl))
with_twice a b (x ∷ numbers) =
    by_test (nat_lt x a) (λ xa. by_test (nat_lt x b)
    (λ xb. both (ltb-true _ _ xa) (ltb-true _ _ xb) (with_twice a b numbers))
    (λ xb. ahead b a (ltb-false _ _ xb) (ltb-true _ _ xa))) (λ xa. by_test (nat_lt x b)
    (λ xb. sym (ahead a b (ltb-false _ _ xa) (ltb-true _ _ xb))) (λ xb. neither (ltb-false _ _ xa) (ltb-false _ _ xb)))
  where
    both : x < a → x < b → with_number a (with_number b numbers) ≡ with_number b (with_number a numbers)
        → with_number a (with_number b (x ∷ numbers)) ≡ with_number b (with_number a (x ∷ numbers))
    both xa xb rest =
        ap (with_number a) (put_after b x numbers xb) ∙ put_after a x (with_number b numbers) xa
        ∙ ap (λ (l : List ℕ). x ∷ l) rest
        ∙ sym (ap (with_number b) (put_after a x numbers xa) ∙ put_after b x (with_number a numbers) xb)

    -- m goes before x, and n after it
    ahead : (m n : ℕ) → m ≤ x → x < n → with_number n (with_number m (x ∷ numbers)) ≡ with_number m (with_number n (x ∷ numbers))
    ahead m n mx xn =
        ap (with_number n) (put_first m x numbers mx) ∙ put_after n m (x ∷ numbers) (omega (arith, mx, xn))
        ∙ ap (λ (l : List ℕ). m ∷ l) (put_after n x numbers xn)
        ∙ sym (ap (with_number m) (put_after n x numbers xn) ∙ put_first m x (with_number n numbers) mx)

    neither : a ≤ x → b ≤ x → with_number a (with_number b (x ∷ numbers)) ≡ with_number b (with_number a (x ∷ numbers))
    neither ax bx =
        by_test (nat_lt a b) (λ t. below_it a b (ltb-true _ _ t) ax bx)
        (λ f. by_test (nat_lt b a) (λ t. sym (below_it b a (ltb-true _ _ t) bx ax))
        (λ g. subst (λ m. with_number a (with_number m (x ∷ numbers)) ≡ with_number m (with_number a (x ∷ numbers)))
        (omega (arith, ltb-false _ _ f, ltb-false _ _ g)) refl))
      where
        below_it : (m n : ℕ) → m < n → m ≤ x → n ≤ x
            → with_number m (with_number n (x ∷ numbers)) ≡ with_number n (with_number m (x ∷ numbers))
        below_it m n mn mx nx =
            ap (with_number m) (put_first n x numbers nx) ∙ put_first m n (x ∷ numbers) (omega (arith, mn))
            ∙ sym (ap (with_number n) (put_first m x numbers mx) ∙ put_after n m (x ∷ numbers) mn
            ∙ ap (λ (l : List ℕ). m ∷ l) (put_first n x numbers nx))

-- a number among others is added at its place
pub in_order_among : (front : List ℕ) (a : ℕ) (after : List ℕ)
    → in_order (front ++ a ∷ after) ≡ with_number a (in_order (front ++ after))
in_order_among [] a after = refl
in_order_among (x ∷ front) a after =
    ap (with_number x) (in_order_among front a after) ∙ with_twice x a (in_order (front ++ after))

-- what was added is taken out again
pub without_with : (a : ℕ) (numbers : List ℕ) → without_number a (with_number a numbers) ≡ numbers
without_with a [] = rw (same a) refl
  where
    same : (n : ℕ) → (n == n) ≡ true
    same n = grind (arith, nat_tests)
without_with a (x ∷ numbers) =
    with_cases (λ l. without_number a l ≡ x ∷ numbers) a x numbers (λ lt. rw (other x a lt) (ap (λ (l : List ℕ). x ∷ l) (without_with a numbers)))
    (λ le. rw (same a) refl)
  where
    same : (n : ℕ) → (n == n) ≡ true
    same n = grind (arith, nat_tests)

    other : (m n : ℕ) → m < n → (m == n) ≡ false
    other m n lt = grind (arith, nat_tests)

-- ---- numbers that rise

pub rising_lower : (low high : ℕ) (numbers : List ℕ) → low ≤ high → AreRising high numbers → AreRising low numbers
rising_lower low high [] le h = tt
rising_lower low high (a ∷ numbers) le h = (omega (arith, le, h.0), h.1)

pub rising_with : (n low : ℕ) (numbers : List ℕ) → low ≤ n → AreRising low numbers → AreRising low (with_number n numbers)
rising_with n low [] le h = (le, tt)
rising_with n low (a ∷ numbers) le h =
    with_cases (AreRising low) n a numbers (λ lt. (h.0, rising_with n a numbers (omega (arith, lt)) h.1)) (λ na. (le, (na, h.1)))

pub rises : (numbers : List ℕ) → AreRising 0 (in_order numbers)
rises [] = tt
rises (a ∷ numbers) = rising_with a 0 (in_order numbers) (omega arith) (rises numbers)

-- a number that isn't above the others comes first
pub with_least : (n low : ℕ) (numbers : List ℕ) → n ≤ low → AreRising low numbers → with_number n numbers ≡ n ∷ numbers
with_least n low [] le h = refl
with_least n low (a ∷ numbers) le h = put_first n a numbers (omega (arith, le, h.0))

-- numbers that rise are in order
pub in_order_of : (low : ℕ) (numbers : List ℕ) → AreRising low numbers → in_order numbers ≡ numbers
in_order_of low [] h = refl
in_order_of low (a ∷ numbers) h = ap (with_number a) (in_order_of a numbers h.1) ∙ with_least a a numbers (omega arith) h.1

pub rising_filter : (p : ℕ → Bool) (low : ℕ) (numbers : List ℕ) → AreRising low numbers → AreRising low (filter p numbers)
rising_filter p low [] h = tt
rising_filter p low (a ∷ numbers) h =
    let rest = rising_filter p a numbers h.1 in
    elim (p a) as (λ b. AreRising low (if b then a ∷ filter p numbers else filter p numbers)) [
      | true ↦ (h.0, rest)
      | false ↦ rising_lower low a (filter p numbers) h.0 rest
    ]

-- a filter before or after a number is added
filter_with : (p : ℕ → Bool) (n low : ℕ) (numbers : List ℕ) → AreRising low numbers
    → filter p (with_number n numbers) ≡ (if p n then with_number n (filter p numbers) else filter p numbers)
filter_with p n low [] h = refl
filter_with p n low (a ∷ numbers) h =
    with_cases (λ l. filter p l ≡ (if p n then with_number n (filter p (a ∷ numbers)) else filter p (a ∷ numbers))) n a numbers
    (λ lt. after lt (p a) (p n) (filter_with p n a numbers h.1))
    (λ le. first le (p a) (p n) (rising_filter p a numbers h.1))
  where
    after : a < n → (x y : Bool) → filter p (with_number n numbers) ≡ (if y then with_number n (filter p numbers) else filter p numbers)
        → (if x then a ∷ filter p (with_number n numbers) else filter p (with_number n numbers))
        ≡ (if y then with_number n (if x then a ∷ filter p numbers else filter p numbers) else if x then a ∷ filter p numbers else filter p numbers)
    after lt true true e = ap (λ (l : List ℕ). a ∷ l) e ∙ sym (put_after n a (filter p numbers) lt)
    after lt true false e = ap (λ (l : List ℕ). a ∷ l) e
    after lt false true e = e
    after lt false false e = e

    first : n ≤ a → (x y : Bool) → AreRising a (filter p numbers)
        → (if y then n ∷ (if x then a ∷ filter p numbers else filter p numbers) else if x then a ∷ filter p numbers else filter p numbers)
        ≡ (if y then with_number n (if x then a ∷ filter p numbers else filter p numbers) else if x then a ∷ filter p numbers else filter p numbers)
    first le true true r = sym (put_first n a (filter p numbers) le)
    first le false true r = sym (with_least n a (filter p numbers) le r)
    first le true false r = refl
    first le false false r = refl

-- the numbers that pass a test are in order if all are
pub filter_in_order : (p : ℕ → Bool) (numbers : List ℕ) → filter p (in_order numbers) ≡ in_order (filter p numbers)
filter_in_order p [] = refl
filter_in_order p (a ∷ numbers) =
    filter_with p a 0 (in_order numbers) (rises numbers) ∙ by (p a) (filter_in_order p numbers)
  where
    by : (b : Bool) → filter p (in_order numbers) ≡ in_order (filter p numbers)
        → (if b then with_number a (filter p (in_order numbers)) else filter p (in_order numbers))
        ≡ in_order (if b then a ∷ filter p numbers else filter p numbers)
    by true rest = ap (with_number a) rest
    by false rest = rest

-- ---- places

-- the numbers below n are as many as come before the first that isn't
pub before_is : {A : Type 0} (start_of : A → ℕ) (n : ℕ) (items : List A) (i : ℕ) → i ≤ length items
    → ((k : ℕ) (e : A) → k < i → start_of (get_or items k e) < n)
    → ((k : ℕ) (e : A) → i ≤ k → k < length items → n ≤ start_of (get_or items k e)) → i ≡ before_start start_of n items
before_is start_of n [] zero le under over = refl
before_is start_of n [] (suc i) le under over = absurd (omega (arith, le))
before_is start_of n (a ∷ items) zero le under over = rw (le-ltb _ _ (over 0 a (omega arith) (omega arith))) refl
before_is start_of n (a ∷ items) (suc i) le under over =
    rw (lt-ltb _ _ (under 0 a (omega arith))) (ap suc (before_is start_of n items i (omega (arith, le)) (λ k e l. under (suc k) e (omega (arith, l)))
    (λ k e l m. over (suc k) e (omega (arith, l)) (omega (arith, m)))))

low_at : (low : ℕ) (numbers : List ℕ) → AreRising low numbers → (i d : ℕ) → i < length numbers → low ≤ get_or numbers i d
low_at low [] h i d l = absurd (omega (arith, l))
low_at low (a ∷ numbers) h zero d l = h.0
low_at low (a ∷ numbers) h (suc i) d l = omega (arith, h.0, low_at a numbers h.1 i d (omega (arith, l)))

pub rising_at : (low : ℕ) (numbers : List ℕ) → AreRising low numbers → (i j d : ℕ) → i ≤ j → j < length numbers
    → get_or numbers i d ≤ get_or numbers j d
rising_at low [] h i j d le l = absurd (omega (arith, l))
rising_at low (a ∷ numbers) h zero zero d le l = omega arith
rising_at low (a ∷ numbers) h zero (suc j) d le l = low_at a numbers h.1 j d (omega (arith, l))
rising_at low (a ∷ numbers) h (suc i) zero d le l = absurd (omega (arith, le))
rising_at low (a ∷ numbers) h (suc i) (suc j) d le l = rising_at a numbers h.1 i j d (omega (arith, le)) (omega (arith, l))

-- where no number is below n, none comes before it
pub below_none : (n low : ℕ) (numbers : List ℕ) → n ≤ low → AreRising low numbers → below n numbers ≡ 0
below_none n low [] le h = refl
below_none n low (a ∷ numbers) le h = rw (le-ltb a n (omega (arith, le, h.0))) refl

none_between : (low high least : ℕ) (numbers : List ℕ) → high ≤ least → AreRising least numbers → between low high numbers ≡ []
none_between low high least [] le h = refl
none_between low high least (a ∷ numbers) le h =
    rw (out low a (omega (arith, le, h.0))) (none_between low high a numbers (omega (arith, le, h.0)) h.1)
  where
    out : (l b : ℕ) → high ≤ b → nat_le l b && nat_lt b high ≡ false
    out l b over = grind (arith, nat_tests)

-- the numbers from the place of low up to that of high
pub between_is : (low high least : ℕ) (numbers : List ℕ) → low ≤ high → AreRising least numbers
    → (below low numbers ≤ below high numbers)
    × (take (below high numbers - below low numbers) (drop (below low numbers) numbers) ≡ between low high numbers)
between_is low high least [] le h = (omega arith, refl)
between_is low high least (a ∷ numbers) le h =
    by_test (nat_lt a low) (λ t. under (ltb-true _ _ t) (between_is low high a numbers le h.1))
    (λ f. by_test (nat_lt a high) (λ t. inside (ltb-false _ _ f) (ltb-true _ _ t) (between_is low high a numbers le h.1))
    (λ g. over (ltb-false _ _ f) (ltb-false _ _ g)))
  where
    all : List ℕ
    all = a ∷ numbers

    Is : Type 0
    Is = (below low all ≤ below high all) × (take (below high all - below low all) (drop (below low all) all) ≡ between low high all)

    rest_is : Type 0
    rest_is = (below low numbers ≤ below high numbers)
        × (take (below high numbers - below low numbers) (drop (below low numbers) numbers) ≡ between low high numbers)

    less : (m n : ℕ) → suc m - suc n ≡ m - n
    less m n = omega arith

    under : a < low → rest_is → Is
    under lt rest =
        let out : nat_le low a && nat_lt a high ≡ false = grind (arith, nat_tests) in
        rw (out, lt-ltb _ _ lt, lt-ltb a high (omega (arith, lt, le)))
        (omega (arith, rest.0), ap (λ n. take n (drop (below low numbers) numbers)) (less (below high numbers) (below low numbers)) ∙ rest.1)

    whole : (m : ℕ) → suc m - 0 ≡ suc m
    whole m = omega arith

    none_less : (m : ℕ) → m - 0 ≡ m
    none_less m = omega arith

    inside : low ≤ a → a < high → rest_is → Is
    inside from to rest =
        let kept : nat_le low a && nat_lt a high ≡ true = grind (arith, nat_tests) in
        let none = below_none low a numbers from h.1 in
        rw (kept, le-ltb _ _ from, lt-ltb _ _ to) (
          omega arith,
          ap (λ n. take n all) (whole (below high numbers)) ∙ ap (λ (l : List ℕ). a ∷ l)
              (ap (λ n. take n numbers) (sym (none_less (below high numbers))) ∙ (rw none at rest.1)),
        )

    over : low ≤ a → high ≤ a → Is
    over from past =
        let out : nat_le low a && nat_lt a high ≡ false = grind (arith, nat_tests) in
        rw (out, le-ltb _ _ from, le-ltb _ _ past) (omega arith, sym (none_between low high a numbers past h.1))

pub insert_at : (n : ℕ) (numbers : List ℕ) → insert numbers (below n numbers) n ≡ with_number n numbers
insert_at n [] = refl
insert_at n (a ∷ numbers) = by (nat_lt a n) (insert_at n numbers)
  where
    by : (b : Bool) → insert numbers (below n numbers) n ≡ with_number n numbers
        → insert (a ∷ numbers) (if b then suc (below n numbers) else 0) n
        ≡ (if b then a ∷ with_number n numbers else n ∷ a ∷ numbers)
    by true rest = ap (λ (l : List ℕ). a ∷ l) rest
    by false rest = refl

-- a number that is there is at its place
pub remove_at : (n d : ℕ) (numbers : List ℕ) → below n numbers < length numbers → get_or numbers (below n numbers) d ≡ n
    → remove numbers (below n numbers) ≡ without_number n numbers
remove_at n d [] lt is = absurd (omega (arith, lt))
remove_at n d (a ∷ numbers) lt is = by (nat_lt a n) refl lt is (remove_at n d numbers)
  where
    by : (b : Bool) → nat_lt a n ≡ b → (if b then suc (below n numbers) else 0) < suc (length numbers)
        → get_or (a ∷ numbers) (if b then suc (below n numbers) else 0) d ≡ n
        → (below n numbers < length numbers → get_or numbers (below n numbers) d ≡ n
        → remove numbers (below n numbers) ≡ without_number n numbers)
        → remove (a ∷ numbers) (if b then suc (below n numbers) else 0) ≡ (if a == n then numbers else a ∷ without_number n numbers)
    by true t l i rest =
        let other : (a == n) ≡ false = grind (arith, nat_tests, ltb-true _ _ t) in
        rw other (ap (λ (l : List ℕ). a ∷ l) (rest (omega (arith, l)) i))
    by false t l i rest =
        let same : (a == n) ≡ true = grind (arith, nat_tests, i) in
        rw same refl

-- numbers above n don't include it
gone : (n low : ℕ) (numbers : List ℕ) → n < low → AreRising low numbers → without_number n numbers ≡ numbers
gone n low [] lt h = refl
gone n low (a ∷ numbers) lt h =
    let other : (a == n) ≡ false = ne_eqb a n (λ e. omega (arith, e, lt, h.0)) in
    rw other (ap (λ (l : List ℕ). a ∷ l) (gone n a numbers (omega (arith, lt, h.0)) h.1))

-- and a number that isn't there leaves what is there
pub not_there : (n low : ℕ) (numbers : List ℕ) → AreRising low numbers
    → ((d : ℕ) → below n numbers < length numbers → get_or numbers (below n numbers) d ≡ n → ⊥) → without_number n numbers ≡ numbers
not_there n low [] h other = refl
not_there n low (a ∷ numbers) h other = by (nat_lt a n) refl other (not_there n a numbers h.1)
  where
    by : (b : Bool) → nat_lt a n ≡ b
        → ((d : ℕ) → (if b then suc (below n numbers) else 0) < suc (length numbers)
        → get_or (a ∷ numbers) (if b then suc (below n numbers) else 0) d ≡ n → ⊥)
        → (((d : ℕ) → below n numbers < length numbers → get_or numbers (below n numbers) d ≡ n → ⊥) → without_number n numbers ≡ numbers)
        → (if a == n then numbers else a ∷ without_number n numbers) ≡ a ∷ numbers
    by true t o rest =
        let differs : (a == n) ≡ false = grind (arith, nat_tests, ltb-true _ _ t) in
        rw differs (ap (λ (l : List ℕ). a ∷ l) (rest (λ d l i. o d (omega (arith, l)) i)))
    by false t o rest =
        let differs : (a == n) ≡ false = apart (λ e. o a (omega arith) e) in
        rw differs (ap (λ (l : List ℕ). a ∷ l) (gone n a numbers (above (ltb-false _ _ t) (λ e. o a (omega arith) e)) h.1))
      where
        apart : (a ≡ n → ⊥) → (a == n) ≡ false
        apart e = ne_eqb a n e

        above : n ≤ a → (a ≡ n → ⊥) → n < a
        above le e = by_test (nat_lt n a) (λ u. ltb-true _ _ u) (λ u. absurd (e (omega (arith, le, ltb-false _ _ u))))
