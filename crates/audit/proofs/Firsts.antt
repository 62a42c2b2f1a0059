-- The first element of a list that passes, found by a scan.
use Rattle.std.proofs.Common.{◌≡◌, ℕ, ◌<◌, ◌≤◌, inl, inr, Bool, true, false, List, Some, length, get_or, sym, ap, ◌∙◌, subst}
use Rattle.std.proofs.Common.{slice_get}
use Rattle.std.proofs.lemmas.Option.{slice_get_past, slice_get-get_or}
use Rattle.std.proofs.lemmas.Bool.{cases_lt}
use Rattle.audit.specs.Places.{on}

-- the test of an element that exists
pub on_some : {X : Type 0} (xs : List X) (k : ℕ) (x : X) (test : X → Bool) (b : Bool) → slice_get xs k ≡ Some x → test x ≡ b
    → on (slice_get xs k) test ≡ b
on_some xs k x test b at t = ap (λ o. on o test) at ∙ t

-- past the end, no test passes
pub on_past : {X : Type 0} (xs : List X) (k : ℕ) (test : X → Bool) → length xs ≤ k → on (slice_get xs k) test ≡ false
on_past xs k test past = ap (λ o. on o test) (slice_get_past xs k past)

-- the test of a part of a router, or of a similar element
pub part_at : {X Y : Type 0} (xs : List X) (r : ℕ) (x : X) (parts : X → List Y) (k : ℕ) (y : Y) (test : X → Y → Bool) (b : Bool)
    → slice_get xs r ≡ Some x → slice_get (parts x) k ≡ Some y → test x y ≡ b
    → on (slice_get xs r) (λ x. on (slice_get (parts x) k) (test x)) ≡ b
part_at xs r x parts k y test b at there t =
    on_some xs r x (λ x. on (slice_get (parts x) k) (test x)) b at (on_some (parts x) k y (test x) b there t)

-- the element of a loop over ys, which is xs, is the one with its index
pub item_at : {X : Type 0} (xs ys : List X) (k : ℕ) (x : X) → ys ≡ xs → k < length ys → x ≡ get_or ys k x → slice_get xs k ≡ Some x
item_at xs ys k x same lt e = ap (λ l. slice_get l k) (sym same) ∙ (slice_get-get_or ys k x lt ∙ ap Some (sym e))

-- an element passes, if the one that a loop took from its place does
pub passes_at : {X : Type 0} (test : X → Bool) (xs : List X) (k : ℕ) (otherwise : X) → k < length xs
    → test (get_or xs k otherwise) ≡ true → (x : X) → slice_get xs k ≡ Some x → test x ≡ true
passes_at test xs k otherwise lt t x at =
    let there = slice_get-get_or xs k otherwise lt in
    let is : x ≡ get_or xs k otherwise = cc in
    ap test is ∙ t

-- the end of a loop over ys, which is xs
pub end_of : {X : Type 0} (xs ys : List X) (k : ℕ) → ys ≡ xs → length ys ≤ k → length xs ≤ k
end_of xs ys k same past = subst (λ l. length l ≤ k) same past

-- if no number below n passes and none from n on, none passes
pub none_at_all : (test : ℕ → Bool) (n : ℕ) → ((k : ℕ) → n ≤ k → test k ≡ false) → ((j : ℕ) → j < n → test j ≡ false) → (k : ℕ)
    → test k ≡ false
none_at_all test n past before k = elim (cases_lt k n) [ inl lt ↦ before k lt | inr ge ↦ past k ge ]
