-- The rows after a router was lost, where only rows that the index names are looked at.
use Rattle.std.proofs.Common.{◌≡◌, ℕ, ◌+◌, ◌*◌, ◌%◌, ◌<◌, ◌≤◌, Bool, true, false, cond, not, ◌&&◌, ◌||◌, ◌==◌, List, [], ◌∷◌, map}
use Rattle.std.proofs.Common.{zero, suc, slice_get, slice_set, filter, Some, None, refl, ap, sym, subst, ◌∙◌, arith, nat_le, nat_lt}
use Rattle.std.specs.List.{list_all, list_any}
use Rattle.std.proofs.Math.Bool.{and-false}
use Rattle.std.proofs.lemmas.Bool.{and_parts, eqb-true, le-leb, lt-leb, lt-ltb}
use Rattle.std.proofs.lemmas.Bool.Decides.{nat_tests}
use Rattle.std.proofs.lemmas.Nat.{mod-mul-add}
use Rattle.at_base.specs.Address.{is_none, same_address}
use Rattle.at_base.specs.declared.address.Addr.{Addr}
use Rattle.at_base.specs.Numbers.{between, in_order, with_number}
use Rattle.at_base.specs.Range.{is_between, is_range}
use Rattle.at_base.specs.Spans.{AreApart, item_for}
use Rattle.at_base.proofs.Cases.{by_test}
use Rattle.at_base.proofs.Numbers.{with_cases}
use Rattle.at_base.proofs.Ranges.{between_when, ends_of, when_between}
use Rattle.rtmp.specs.declared.row.Row.{Row}
use Rattle.rtmp.specs.declared.state.State.TheVariants.{Bad}
use Rattle.rtmp.specs.Indexing.{first_number, number_of, numbers_of, spoiled, spoiled_row}
use Rattle.rtmp.specs.Routes.{is_direct, is_row, poisoned, poisoned_row}
use Rattle.rtmp.proofs.Maps.{poisoned_range}

-- ---- one row

pub spoiled_range : (next : Addr) (net : ℕ) (r : Row) → (spoiled_row next net r).range ≡ r.range
spoiled_range next net r =
    elim (is_between r.range.start r.range.end net) as (λ b. (cond b (poisoned_row next r) r).range ≡ r.range)
    [ true ↦ poisoned_range next r | false ↦ refl ]

-- an update that keeps ranges keeps rows apart
pub apart_map : (f : Row → Row) → ((r : Row) → (f r).range ≡ r.range) → (low : ℕ) (rows : List Row)
    → AreApart (λ r. r.range) low rows → AreApart (λ r. r.range) low (map f rows)
apart_map f same low [] h = tt
apart_map f same low (a ∷ rows) h = rw (same a) (h.0, h.1, apart_map f same a.range.end rows h.2)

-- rows above a network stay
spoiled_above : (next : Addr) (net low : ℕ) (rows : List Row) → AreApart (λ r. r.range) low rows → net ≤ low
    → map (spoiled_row next net) rows ≡ rows
spoiled_above next net low [] h le = refl
spoiled_above next net low (a ∷ rows) h le =
    rw (lt-leb a.range.start net (omega (arith, h.0, le)), spoiled_above next net a.range.end rows h.2 (omega (arith, h.0, h.1, le))) refl

-- where no row is for the network, all stay
pub spoiled_none : (next : Addr) (net : ℕ) (rows : List Row) → item_for (λ r. r.range) net rows ≡ None
    → rows ≡ map (spoiled_row next net) rows
spoiled_none next net [] none = refl
spoiled_none next net (a ∷ rows) none = by (is_between a.range.start a.range.end net) none (spoiled_none next net rows)
  where
    by : (b : Bool) → cond b (Some a) (item_for (λ r. r.range) net rows) ≡ None
        → (item_for (λ r. r.range) net rows ≡ None → rows ≡ map (spoiled_row next net) rows)
        → (a ∷ rows) ≡ cond b (poisoned_row next a) a ∷ map (spoiled_row next net) rows
    by true f rest = cc
    by false f rest = ap (λ (l : List Row). a ∷ l) (rest f)

-- the row for a network starts above what all rows are above
found_over : (net low : ℕ) (rows : List Row) (x : Row) → AreApart (λ r. r.range) low rows
    → item_for (λ r. r.range) net rows ≡ Some x → low < x.range.start
found_over net low [] x h found = cc
found_over net low (a ∷ rows) x h found =
    by (is_between a.range.start a.range.end net) found (found_over net a.range.end rows x h.2)
  where
    by : (b : Bool) → cond b (Some a) (item_for (λ r. r.range) net rows) ≡ Some x
        → (item_for (λ r. r.range) net rows ≡ Some x → a.range.end < x.range.start) → low < x.range.start
    by true f rest = let same : a ≡ x = cc in rw (← same) h.0
    by false f rest = let over = rest f in omega (arith, h.0, h.1, over)

same_self : (n : ℕ) → (n == n) ≡ true
same_self n = grind (arith, nat_tests)

-- a row starts above what all rows are above
at_over : (low i : ℕ) (rows : List Row) (x : Row) → AreApart (λ r. r.range) low rows → slice_get rows i ≡ Some x → low < x.range.start
at_over low i [] x h at = cc
at_over low zero (a ∷ rows) x h at = let same : a ≡ x = cc in rw (← same) h.0
at_over low (suc i) (a ∷ rows) x h at =
    let over = at_over a.range.end i rows x h.2 at in
    omega (arith, h.0, h.1, over)

-- the row for a network, poisoned in its place
pub spoiled_at : (next : Addr) (net low i : ℕ) (rows : List Row) (x : Row) → AreApart (λ r. r.range) low rows
    → slice_get rows i ≡ Some x → item_for (λ r. r.range) net rows ≡ Some x
    → slice_set rows i (poisoned_row next x) ≡ map (spoiled_row next net) rows
spoiled_at next net low i [] x h at found = cc
spoiled_at next net low zero (a ∷ rows) x h at found = by (is_between a.range.start a.range.end net) refl found
  where
    same : a ≡ x
    same = cc

    by : (b : Bool) → is_between a.range.start a.range.end net ≡ b → cond b (Some a) (item_for (λ r. r.range) net rows) ≡ Some x
        → (poisoned_row next x ∷ rows) ≡ cond b (poisoned_row next a) a ∷ map (spoiled_row next net) rows
    by true t f =
        let end = (when_between a.range.start a.range.end net t).1 in
        rw (same, spoiled_above next net a.range.end rows h.2 end) refl
    by false t f =
        let over : a.range.end < a.range.start = subst (λ r. a.range.end < r.range.start) (sym same) (found_over net a.range.end rows x h.2 f) in
        absurd (omega (arith, over, h.1))
spoiled_at next net low (suc i) (a ∷ rows) x h at found =
    by (is_between a.range.start a.range.end net) found (spoiled_at next net a.range.end i rows x h.2 at)
  where
    by : (b : Bool) → cond b (Some a) (item_for (λ r. r.range) net rows) ≡ Some x
        → (item_for (λ r. r.range) net rows ≡ Some x → slice_set rows i (poisoned_row next x) ≡ map (spoiled_row next net) rows)
        → (a ∷ slice_set rows i (poisoned_row next x)) ≡ cond b (poisoned_row next a) a ∷ map (spoiled_row next net) rows
    by true f rest =
        let same : a ≡ x = cc in
        let over : a.range.end < a.range.start = subst (λ r. a.range.end < r.range.start) (sym same) (at_over a.range.end i rows x h.2 at) in
        absurd (omega (arith, over, h.1))
    by false f rest = ap (λ (l : List Row). a ∷ l) (rest f)

pub poisoned_number : (next : Addr) (r : Row) → number_of (poisoned_row next r) ≡ number_of r
poisoned_number next r =
    elim (not (is_direct r) && same_address r.next next) as (λ b. number_of (cond b (record r { state = Bad }) r) ≡ number_of r)
    [ true ↦ refl | false ↦ refl ]

-- ---- rows with numbers

-- a number of these names the row
abbrev hit : List ℕ → Row → Bool
hit numbers r = list_any (λ n. is_between r.range.start r.range.end (n % 65536)) numbers

-- the row after those with these numbers were looked at
abbrev after : Addr → List ℕ → Row → Row
after next numbers r = cond (hit numbers r) (poisoned_row next r) r

twice : (next : Addr) (r : Row) → poisoned_row next (poisoned_row next r) ≡ poisoned_row next r
twice next r = by_test (not (is_direct r) && same_address r.next next) (λ t. rw (t, t) refl) (λ f. rw (f, f) refl)

one_more : (next : Addr) (n : ℕ) (numbers : List ℕ) (r : Row)
    → after next numbers (spoiled_row next (n % 65536) r) ≡ after next (n ∷ numbers) r
one_more next n numbers r = by (is_between r.range.start r.range.end (n % 65536))
  where
    poisoned_again : (b : Bool) → cond b (poisoned_row next (poisoned_row next r)) (poisoned_row next r) ≡ poisoned_row next r
    poisoned_again true = twice next r
    poisoned_again false = refl

    by : (b : Bool) → after next numbers (cond b (poisoned_row next r) r) ≡ cond (b || hit numbers r) (poisoned_row next r) r
    by true = poisoned_again (hit numbers (poisoned_row next r))
    by false = refl

map_two : (f g h : Row → Row) → ((r : Row) → f (g r) ≡ h r) → (rows : List Row) → map f (map g rows) ≡ map h rows
map_two f g h same [] = refl
map_two f g h same (a ∷ rows) = rw (same a, map_two f g h same rows) refl

map_all : (rows : List Row) → rows ≡ map (λ r. r) rows
map_all [] = refl
map_all (a ∷ rows) = ap (λ (l : List Row). a ∷ l) (map_all rows)

-- looking at rows one by one
by_number : (next : Addr) (numbers : List ℕ) (rows : List Row) → spoiled next numbers rows ≡ map (after next numbers) rows
by_number next [] rows = map_all rows
by_number next (n ∷ numbers) rows =
    by_number next numbers (map (spoiled_row next (n % 65536)) rows)
    ∙ map_two (after next numbers) (spoiled_row next (n % 65536)) (after next (n ∷ numbers)) (one_more next n numbers) rows

-- ---- the numbers of the router's rows

any_with : (q : ℕ → Bool) (n : ℕ) (numbers : List ℕ) → list_any q (with_number n numbers) ≡ (q n || list_any q numbers)
any_with q n [] = refl
any_with q n (a ∷ numbers) =
    with_cases (λ l. list_any q l ≡ (q n || (q a || list_any q numbers))) n a numbers
    (λ lt. ap (λ (b : Bool). q a || b) (any_with q n numbers) ∙ turned (q a) (q n) (list_any q numbers)) (λ le. refl)
  where
    turned : (a b d : Bool) → (a || (b || d)) ≡ (b || (a || d))
    turned true true d = refl
    turned true false d = refl
    turned false true d = refl
    turned false false d = refl

any_in_order : (q : ℕ → Bool) (numbers : List ℕ) → list_any q (in_order numbers) ≡ list_any q numbers
any_in_order q [] = refl
any_in_order q (a ∷ numbers) = any_with q a (in_order numbers) ∙ ap (λ (b : Bool). q a || b) (any_in_order q numbers)

any_filter : (q p : ℕ → Bool) (numbers : List ℕ) → list_any q (filter p numbers) ≡ list_any (λ n. p n && q n) numbers
any_filter q p [] = refl
any_filter q p (a ∷ numbers) =
    elim (p a) as (λ b. list_any q (cond b (a ∷ filter p numbers) (filter p numbers)) ≡ ((b && q a) || list_any (λ n. p n && q n) numbers)) [
      | true ↦ ap (λ (b : Bool). q a || b) (any_filter q p numbers)
      | false ↦ any_filter q p numbers
    ]

-- the numbers that a row through the router can have
abbrev in_block : Addr → ℕ → Bool
in_block next n = nat_le (first_number next) n && nat_lt n (first_number next + 65536)

one_address : (a b : Addr) → same_address a b ≡ true → first_number a ≡ first_number b
one_address a b h =
    let e = and_parts (a.net == b.net) (a.node == b.node) h in
    rw (eqb-true _ _ e.0, eqb-true _ _ e.1) refl

-- the number of a row through the router is one of these, and names it
block_has : (next : Addr) (r : Row) → is_row r ≡ true → same_address r.next next ≡ true
    → (in_block next (number_of r) && is_between r.range.start r.range.end (number_of r % 65536)) ≡ true
block_has next r good same =
    let valid = (and_parts (is_range r.range.start r.range.end) (nat_le r.distance 31) good).0 in
    let ends = ends_of r.range.start r.range.end valid in
    let small : r.range.start < 65536 = omega (arith, ends.1, ends.2) in
    let at : number_of r ≡ first_number next + r.range.start = ap (λ (n : ℕ). n + r.range.start) (one_address r.next next same) in
    let from : nat_le (first_number next) (first_number next + r.range.start) ≡ true = le-leb _ _ (omega arith) in
    let to : nat_lt (first_number next + r.range.start) (first_number next + 65536) ≡ true = lt-ltb _ _ (omega (arith, small)) in
    let start : (first_number next + r.range.start) % 65536 ≡ r.range.start =
    mod-mul-add (next.net * 256 + next.node) 65536 r.range.start small in
    let held = between_when r.range.start r.range.end r.range.start (omega arith) ends.1 in
    rw (at, from, to, start) held

module _ (next : Addr) (whole : List Row) where
  abbrev numbers : List ℕ
  numbers = between (first_number next) (first_number next + 65536) (numbers_of whole)

  -- a row of the table is named if it goes through the router
  named : (r : Row) → is_row r ≡ true → same_address r.next next ≡ true
      → ((q : ℕ → Bool) → q (number_of r) ≡ true → list_any q (map number_of whole) ≡ true) → hit numbers r ≡ true
  named r good same one =
      let q : ℕ → Bool = λ n. is_between r.range.start r.range.end (n % 65536) in
      any_filter q (in_block next) (numbers_of whole)
      ∙ any_in_order (λ n. in_block next n && q n) (map number_of whole)
      ∙ one (λ n. in_block next n && q n) (block_has next r good same)

  after_is : (r : Row) → is_row r ≡ true
      → ((q : ℕ → Bool) → q (number_of r) ≡ true → list_any q (map number_of whole) ≡ true)
      → after next numbers r ≡ poisoned_row next r
  after_is r good one = by_test (same_address r.next next) (λ t. rw (named r good t one) refl) (λ f. other f (hit numbers r))
    where
      other : same_address r.next next ≡ false → (b : Bool) → cond b (poisoned_row next r) r ≡ poisoned_row next r
      other f true = refl
      other f false = rw (f, and-false (not (is_direct r))) refl

  covered : (rows : List Row) → list_all is_row rows ≡ true
      → ((q : ℕ → Bool) → list_any q (map number_of rows) ≡ true → list_any q (map number_of whole) ≡ true)
      → map (after next numbers) rows ≡ map (poisoned_row next) rows
  covered [] each part = refl
  covered (a ∷ rows) each part =
      let e = and_parts (is_row a) (list_all is_row rows) each in
      let head = after_is a e.0 (λ q t. part q (rw t refl)) in
      let tail = covered rows e.1 (λ q h. part q (later (q (number_of a)) _ h)) in
      rw (head, tail) refl
    where
      later : (b d : Bool) → d ≡ true → (b || d) ≡ true
      later true d h = refl
      later false d h = h

-- looking only at the numbers of the router's block is enough
pub spoiled_is : (next : Addr) (rows : List Row) → list_all is_row rows ≡ true
    → spoiled next (between (first_number next) (first_number next + 65536) (numbers_of rows)) rows ≡ poisoned next rows
spoiled_is next rows each =
    by_number next (between (first_number next) (first_number next + 65536) (numbers_of rows)) rows
    ∙ covered next rows rows each (λ q h. h)

-- no row goes through 0.0
pub none_poisoned : (next : Addr) (rows : List Row) → is_none next ≡ true → rows ≡ poisoned next rows
none_poisoned next [] none = refl
none_poisoned next (a ∷ rows) none = rw (stays) (ap (λ (l : List Row). a ∷ l) (none_poisoned next rows none))
  where
    stays : (not (is_direct a) && same_address a.next next) ≡ false
    stays = by_test (same_address a.next next)
        (λ t.
        let e = and_parts (a.next.net == next.net) (a.next.node == next.node) t in
        let direct : is_direct a ≡ true = rw (eqb-true _ _ e.0, eqb-true _ _ e.1) none in
        rw direct refl) (λ f. rw (f, and-false (not (is_direct a))) refl)
