-- The requests that the next tick makes due, ID by ID.
use Rattle.std.proofs.Common.{◌≡◌, ℕ, zero, suc, ◌+◌, ◌-◌, ◌<◌, ◌≤◌, Bool, true, false, cond, eqb}
use Rattle.std.proofs.Common.{List, [], ◌∷◌, ◌++◌}
use Rattle.std.proofs.Common.{Option, Some, None, length, length-append, append_assoc, append-nil, is_some, count_by}
use Rattle.std.proofs.Common.{refl, sym, ap, ◌∙◌, inl, inr, arith}
use Rattle.std.specs.Option.{option_map}
use Rattle.std.specs.Prelude.{option_to_list}
use Rattle.std.proofs.lemmas.Bool.{cases_lt, eqb-true}
use Rattle.std.proofs.lemmas.List.Sums.{sum_by-cons}
use Rattle.at_base.proofs.Cases.{by_test}
use Rattle.atp.specs.Repeating.{AreShort, is_due_by, repeat_in, repeat_of, repeats, repeats_from}
use Rattle.atp.specs.Requesting.{IsLeast, known, passes}
use Rattle.atp.specs.declared.repeats.Repeat.{Repeat}
use Rattle.atp.specs.declared.repeats.When.TheVariants as when
use Rattle.atp.specs.declared.transaction.Transaction.{Transaction}

abbrev Slots : Type 0
Slots = List (Option Transaction)

-- a transaction whose request isn't due by the next tick repeats nothing
none_in : (o : Option Transaction) → passes (is_due_by when.NextTick) o ≡ false → repeat_in o ≡ None
none_in None h = refl
none_in (Some t) h = rw h refl

-- ---- Those from an ID on

-- none of these IDs repeats anything
pub none_from : (more first : ℕ) (slots : Slots) → ((id : ℕ) → first ≤ id → passes (is_due_by when.NextTick) (known id slots) ≡ false)
    → repeats_from first more slots ≡ []
none_from zero first slots h = refl
none_from (suc more) first slots h =
    rw (none_in (known first slots) (h first (omega arith))) (none_from more (suc first) slots (λ id le. h id (omega (arith, le))))

-- the first IDs repeat nothing, so it is as if the others were all
passed_over : (gap first more : ℕ) (slots : Slots)
    → ((id : ℕ) → first ≤ id → id < first + gap → passes (is_due_by when.NextTick) (known id slots) ≡ false)
    → repeats_from first (more + gap) slots ≡ repeats_from (first + gap) more slots
passed_over zero first more slots h =
    let all : more + 0 ≡ more = omega arith in
    let here : first ≡ first + 0 = omega arith in
    ap (λ n. repeats_from first n slots) all ∙ ap (λ n. repeats_from n more slots) here
passed_over (suc gap) first more slots h =
    let rest = passed_over gap (suc first) more slots (λ id le lt. h id (omega (arith, le)) (omega (arith, lt))) in
    let all : more + suc gap ≡ suc (more + gap) = omega arith in
    let there : suc first + gap ≡ first + suc gap = omega arith in
    ap (λ n. repeats_from first n slots) all
    ∙ ap (λ l. l ++ repeats_from (suc first) (more + gap) slots)
    (ap option_to_list (none_in (known first slots) (h first (omega arith) (omega arith))))
    ∙ rest ∙ ap (λ n. repeats_from n more slots) there

below : (first id : ℕ) (slots : Slots) → IsLeast (is_due_by when.NextTick) first slots id
    → (other : ℕ) → first ≤ other → other < id → passes (is_due_by when.NextTick) (known other slots) ≡ false
below first id slots x other le lt = by (passes (is_due_by when.NextTick) (known other slots)) refl
  where
    by : (b : Bool) → passes (is_due_by when.NextTick) (known other slots) ≡ b → b ≡ false
    by true e = let high = x.least other le e in absurd (omega (arith, high, lt))
    by false e = refl

due_in : (o : Option Transaction) (t : Transaction) → o ≡ Some t → passes (is_due_by when.NextTick) o ≡ true
    → option_to_list (repeat_in o) ≡ repeat_of t ∷ []
due_in o t e h = rw e (rw (rw e at h) refl)

-- the least ID whose request is due comes first, and then those after it
pub least_first : (first id : ℕ) (slots : Slots) (t : Transaction) → IsLeast (is_due_by when.NextTick) first slots id → id < 65536
    → known id slots ≡ Some t
    → repeats_from first (65536 - first) slots ≡ repeat_of t ∷ repeats_from (suc id) (65536 - suc id) slots
least_first first id slots t x lt e =
    let low = x.from in
    let count : 65536 - first ≡ suc (65536 - suc id) + (id - first) = omega (arith, low, lt) in
    let there : first + (id - first) ≡ id = omega (arith, low) in
    ap (λ n. repeats_from first n slots) count
    ∙ passed_over (id - first) first (suc (65536 - suc id)) slots
    (λ other le less. below first id slots x other le (omega (arith, less, there)))
    ∙ ap (λ n. repeats_from n (suc (65536 - suc id)) slots) there
    ∙ ap (λ l. l ++ repeats_from (suc id) (65536 - suc id) slots) (due_in (known id slots) t e x.due)

-- those from an ID on were added: the request of the least ID that is due, and then those after it
pub added : (first id : ℕ) (slots : Slots) (old new : List Repeat) → IsLeast (is_due_by when.NextTick) first slots id → id < 65536
    → ((t : Transaction) → known id slots ≡ Some t → new ≡ old ++ repeat_of t ∷ [])
    → new ++ repeats_from (suc id) (65536 - suc id) slots ≡ old ++ repeats_from first (65536 - first) slots
added first id slots old new x lt put = by (known id slots) refl
  where
    by : (o : Option Transaction) → known id slots ≡ o
        → new ++ repeats_from (suc id) (65536 - suc id) slots ≡ old ++ repeats_from first (65536 - first) slots
    by None e = absurd (let r = (rw e at x.due) in cc)
    by (Some t) e =
        ap (λ l. l ++ repeats_from (suc id) (65536 - suc id) slots) (put t e)
        ∙ append_assoc old (repeat_of t ∷ []) (repeats_from (suc id) (65536 - suc id) slots)
        ∙ ap (λ l. old ++ l) (sym (least_first first id slots t x lt e))

-- after the greatest ID there is none
pub last_added : (first id : ℕ) (slots : Slots) (old new : List Repeat) → IsLeast (is_due_by when.NextTick) first slots id → id < 65536
    → (id + 1 < 65536 → ⊥) → ((t : Transaction) → known id slots ≡ Some t → new ≡ old ++ repeat_of t ∷ [])
    → new ≡ old ++ repeats_from first (65536 - first) slots
last_added first id slots old new x lt last put =
    let none : 65536 - suc id ≡ 0 = omega (arith, ends, lt) in
    sym (append-nil new) ∙ ap (λ n. new ++ repeats_from (suc id) n slots) (sym none) ∙ added first id slots old new x lt put
  where
    ends : 65536 ≤ id + 1
    ends = elim (cases_lt (id + 1) 65536) [
      | inl less ↦ absurd (last less)
      | inr le ↦ le
    ]

-- where no ID is due, nothing is added
pub none_added : (first : ℕ) (slots : Slots) (old : List Repeat)
    → ((id : ℕ) → first ≤ id → passes (is_due_by when.NextTick) (known id slots) ≡ false)
    → old ≡ old ++ repeats_from first (65536 - first) slots
none_added first slots old h = sym (append-nil old) ∙ ap (λ l. old ++ l) (sym (none_from (65536 - first) first slots h))

-- if a request is due, there is something to repeat
pub not_none : (first id : ℕ) (slots : Slots) → IsLeast (is_due_by when.NextTick) first slots id → id < 65536
    → repeats_from first (65536 - first) slots ≡ [] → ⊥
not_none first id slots x lt e = by (known id slots) refl
  where
    by : (o : Option Transaction) → known id slots ≡ o → ⊥
    by None g = absurd (let r = (rw g at x.due) in cc)
    by (Some t) g = absurd (let r = sym (least_first first id slots t x lt g) ∙ e in cc)

-- ---- How many there are

at_most_one : (o : Option Repeat) → length (option_to_list o) ≤ 1
at_most_one None = omega arith
at_most_one (Some r) = omega arith

-- a vacant slot repeats nothing
vacant : (more first : ℕ) (slots : Slots) → repeats_from first more (None ∷ slots) ≡ repeats_from first more slots
vacant zero first slots = refl
vacant (suc more) first slots = ap (λ l. option_to_list (repeat_in (known first slots)) ++ l) (vacant more (suc first) slots)

-- a slot whose ID was passed repeats nothing more
passed_by : (more first : ℕ) (t : Transaction) (slots : Slots) → t.id < first
    → repeats_from first more (Some t ∷ slots) ≡ repeats_from first more slots
passed_by zero first t slots lt = refl
passed_by (suc more) first t slots lt =
    let other : eqb t.id first ≡ false = grind arith in
    rw other (ap (λ l. option_to_list (repeat_in (known first slots)) ++ l) (passed_by more (suc first) t slots (omega (arith, lt))))

-- a slot repeats at most one request
one_more : (more first : ℕ) (t : Transaction) (slots : Slots)
    → length (repeats_from first more (Some t ∷ slots)) ≤ suc (length (repeats_from first more slots))
one_more zero first t slots = omega arith
one_more (suc more) first t slots =
    by_test (eqb t.id first)
    (λ e.
    let is : t.id ≡ first = eqb-true _ _ e in
    let rest = passed_by more (suc first) t slots (omega (arith, is)) in
    rw (e, rest)
    (omega (
      arith,
      at_most_one (repeat_in (Some t)),
      length-append (option_to_list (repeat_in (Some t))) (repeats_from (suc first) more slots),
      length-append (option_to_list (repeat_in (known first slots))) (repeats_from (suc first) more slots),
    )))
    (λ e.
    rw e
    (omega (
      arith,
      one_more more (suc first) t slots,
      length-append (option_to_list (repeat_in (known first slots))) (repeats_from (suc first) more (Some t ∷ slots)),
      length-append (option_to_list (repeat_in (known first slots))) (repeats_from (suc first) more slots),
    )))

none_known : (more first : ℕ) → repeats_from first more [] ≡ []
none_known zero first = refl
none_known (suc more) first = none_known more (suc first)

-- each request is that of an open transaction
pub few : (first more : ℕ) (slots : Slots) → length (repeats_from first more slots) ≤ count_by is_some slots
few first more [] = rw (none_known more first) (omega arith)
few first more (None ∷ slots) =
    rw (vacant more first slots)
    (omega (arith, few first more slots, sum_by-cons (λ (o : Option Transaction). cond (is_some o) 1 0) None slots))
few first more (Some t ∷ slots) =
    omega (
      arith,
      one_more more first t slots,
      few first more slots,
      sum_by-cons (λ (o : Option Transaction). cond (is_some o) 1 0) (Some t) slots,
    )

pub whole : (slots : Slots) → repeats slots ≡ repeats_from 0 65536 slots
unfolding repeats
whole slots = refl

pub few_repeats : (slots : Slots) → length (repeats slots) ≤ count_by is_some slots
few_repeats slots = rw (whole slots) (few 0 65536 slots)

no_more : (rs : List Repeat) → length rs ≤ 0 → rs ≡ []
no_more [] h = refl
no_more (r ∷ rs) h = absurd (omega (arith, h))

-- where no transaction is open, there is nothing to repeat
pub none_repeats : (slots : Slots) → count_by is_some slots ≡ 0 → repeats slots ≡ []
none_repeats slots h = no_more (repeats slots) (omega (arith, few_repeats slots, h))

-- ---- Where none is open

none_open : (id : ℕ) (slots : Slots) → count_by is_some slots ≡ 0 → known id slots ≡ None
none_open id [] h = refl
none_open id (None ∷ slots) h =
    none_open id slots (omega (arith, h, sum_by-cons (λ (o : Option Transaction). cond (is_some o) 1 0) None slots))
none_open id (Some t ∷ slots) h =
    absurd (omega (arith, h, sum_by-cons (λ (o : Option Transaction). cond (is_some o) 1 0) (Some t) slots))

-- where no transaction is open, a tick changes nothing
pub none_change : (f : Transaction → Transaction) (id : ℕ) (slots : Slots) → count_by is_some slots ≡ 0
    → known id slots ≡ option_map f (known id slots)
none_change f id slots h = rw (none_open id slots h) refl

-- no requests are short
pub none_short : (rs : List Repeat) → rs ≡ [] → AreShort rs
none_short [] e = λ k d lt. absurd (omega (arith, lt))
none_short (r ∷ rs) e = absurd cc
