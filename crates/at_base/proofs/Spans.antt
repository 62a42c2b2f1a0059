-- Finite maps from disjoint ranges to items: the place of a range, and what each change keeps.
use Rattle.std.proofs.Common.{◌≡◌, ℕ, zero, suc, ◌+◌, ◌<◌, ◌≤◌, Bool, true, false, not, ◌&&◌, ◌||◌, List, [], ◌∷◌, length, map, filter}
use Rattle.std.proofs.Common.{Some, None, refl, ap, sym, subst, ◌∙◌, get_or, arith, nat_lt, nat_le, true≢false}
use Rattle.std.specs.Prelude.{is_some, slice_get, if◌then◌else◌}
use Rattle.std.specs.List.{list_all, list_any}
use Rattle.std.proofs.Math.Bool.{and-false, or-false, or-true}
use Rattle.std.proofs.lemmas.Option.{slice_get_read}
use Rattle.std.proofs.lemmas.Bool.Decides.{nat_tests}
use Rattle.std.proofs.lemmas.Bool.{and_parts, or_parts, ltb-true, ltb-false, lt-ltb, lt-leb, le-ltb}
use Rattle.at_base.specs.Range.{Span, is_between, overlaps, same_range}
use Rattle.at_base.specs.Spans.{AreApart, IsAt, IsBefore, are_above, before, item_for, item_of, overlaps_another, with_item}
use Rattle.at_base.proofs.Cases.{by_test}
use Rattle.at_base.proofs.Ranges.{not_same, one_range}

module _ {A : Type 0} (span : A → Span) where
  -- ---- items above a network

  -- items by rising range are apart, if each range ends after its start
  pub apart_of : (p : A → Bool) → ((a : A) → p a ≡ true → (span a).start ≤ (span a).end) → (low : ℕ) (items : List A)
      → list_all p items ≡ true → are_above span low items ≡ true → AreApart span low items
  apart_of p ends low [] each h = tt
  apart_of p ends low (a ∷ items) each h =
      let e = and_parts (p a) (list_all p items) each in
      let q = and_parts (nat_lt low (span a).start) (are_above span (span a).end items) h in
      (ltb-true _ _ q.0, ends a e.0, apart_of p ends (span a).end items e.1 q.1)

  pub above_of : (low : ℕ) (items : List A) → AreApart span low items → are_above span low items ≡ true
  above_of low [] h = refl
  above_of low (a ∷ items) h = rw (lt-ltb _ _ h.0, above_of (span a).end items h.2) refl

  pub apart_lower : (low high : ℕ) (items : List A) → low ≤ high → AreApart span high items → AreApart span low items
  apart_lower low high [] le h = tt
  apart_lower low high (a ∷ items) le h = (omega (arith, le, h.0), h.1, h.2)

  pub apart_filter : (p : A → Bool) (low : ℕ) (items : List A) → AreApart span low items → AreApart span low (filter p items)
  apart_filter p low [] h = tt
  apart_filter p low (a ∷ items) h =
      let rest = apart_filter p (span a).end items h.2 in
      elim (p a) as (λ b. AreApart span low (if b then a ∷ filter p items else filter p items)) [
        | true ↦ (h.0, h.1, rest)
        | false ↦ apart_lower low (span a).end (filter p items) (omega (arith, h.0, h.1)) rest
      ]

  -- updates that don't change ranges keep items above a network
  pub above_map : (f : A → A) → ((a : A) → span (f a) ≡ span a) → (low : ℕ) (items : List A)
      → are_above span low (map f items) ≡ are_above span low items
  above_map f same low [] = refl
  above_map f same low (a ∷ items) = rw (same a, above_map f same (span a).end items) refl

  -- ---- the place of a range

  starts_over : (low : ℕ) (items : List A) (i : ℕ) (d : A) → AreApart span low items → i < length items
      → low < (span (get_or items i d)).start
  starts_over low [] i d h lt = absurd (omega arith)
  starts_over low (a ∷ items) zero d h lt = h.0
  starts_over low (a ∷ items) (suc i) d h lt =
      let rest = starts_over (span a).end items i d h.2 (omega (arith, lt)) in
      omega (arith, h.0, h.1, rest)

  -- the place of a network in items with one more
  place_cases : (P : ℕ → Type 0) (y : A) (start : ℕ) (items : List A) → ((span y).start < start → P (suc (before span start items)))
      → (start ≤ (span y).start → P 0) → P (before span start (y ∷ items))
  place_cases P y start items later first = by (nat_lt (span y).start start) refl
    where
      by : (b : Bool) → nat_lt (span y).start start ≡ b → P (if b then suc (before span start items) else 0)
      by true t = later (ltb-true _ _ t)
      by false t = first (ltb-false _ _ t)

  -- an item that starts below a network is before the network's place
  pub before_over : (start low : ℕ) (items : List A) (i : ℕ) (d : A) → AreApart span low items → i < length items
      → (span (get_or items i d)).start < start → i < before span start items
  before_over start low [] i d h lt below = absurd (omega arith)
  before_over start low (a ∷ items) zero d h lt below = rw (lt-ltb _ _ below) (omega arith)
  before_over start low (a ∷ items) (suc i) d h lt below =
      let rest = starts_over (span a).end items i d h.2 (omega (arith, lt)) in
      let more = before_over start (span a).end items i d h.2 (omega (arith, lt)) below in
      place_cases (λ n. suc i < n) a start items (λ t. omega (arith, more)) (λ le. absurd (omega (arith, rest, h.1, below, le)))

  -- any other item isn't
  pub before_under : (start : ℕ) (items : List A) (i : ℕ) (d : A) → i < length items → start ≤ (span (get_or items i d)).start
      → before span start items ≤ i
  before_under start [] i d lt over = absurd (omega arith)
  before_under start (a ∷ items) zero d lt over =
      place_cases (λ n. n ≤ 0) a start items (λ t. absurd (omega (arith, t, over))) (λ le. omega arith)
  before_under start (a ∷ items) (suc i) d lt over =
      let rest = before_under start items i d (omega (arith, lt)) over in
      place_cases (λ n. n ≤ suc i) a start items (λ t. omega (arith, rest)) (λ le. omega arith)

  pub before_fits : (start : ℕ) (items : List A) → before span start items ≤ length items
  before_fits start [] = omega arith
  before_fits start (a ∷ items) =
      place_cases (λ n. n ≤ suc (length items)) a start items (λ t. omega (arith, before_fits start items)) (λ le. omega arith)

  -- items above a network don't include one whose range starts at or below it
  none_above : (range : Span) (high : ℕ) (items : List A) → range.start ≤ high → AreApart span high items
      → item_of span range items ≡ None
  none_above range high [] le h = refl
  none_above range high (a ∷ items) le h =
      rw (not_same (span a) range (λ s. omega (arith, s, le, h.0)))
      (none_above range (span a).end items (omega (arith, le, h.0, h.1)) h.2)

  -- an item that starts below another goes before it
  put_later : (a y : A) (items : List A) → (span y).start < (span a).start → with_item span a (y ∷ items) ≡ y ∷ with_item span a items
  put_later a y items lt = rw (lt-ltb _ _ lt) refl

  -- the item at the range's place, if it has that range
  pub at_place : (range : Span) (items : List A) (x : A) → slice_get items (before span range.start items) ≡ Some x
      → same_range (span x) range ≡ true → IsAt span range items (before span range.start items)
  at_place range [] x e same = cc
  at_place range (y ∷ items) x e same =
      place_cases (λ n. slice_get (y ∷ items) n ≡ Some x → IsAt span range (y ∷ items) n) y range.start items (λ lt e.
      let r = at_place range items x e same in
      record {
        within = omega (arith, r.within);
        item = r.item;
        is = r.is;
        own = r.own;
        found = rw (not_same (span y) range (λ s. omega (arith, s, lt))) r.found;
        put = λ a own. put_later a y items (rw own lt) ∙ ap (λ (l : List A). y ∷ l) (r.put a own);
      }) (λ le e.
      let first : y ≡ x = cc in
      let alike : same_range (span y) range ≡ true = rw first same in
      record {
        within = omega arith;
        item = y;
        is = refl;
        own = one_range (span y) range alike;
        found = rw alike refl;
        put = λ a own.
            let below : nat_lt (span y).start (span a).start ≡ false = le-ltb (span y).start (span a).start (rw own le) in
            let this : same_range (span y) (span a) ≡ true = rw own alike in
            rw (below, this) refl;
      }) e

  -- what is read at the place is the item
  pub item_read : (range : Span) (items : List A) (i : ℕ) (at : IsAt span range items i) (x : A) → x ≡ get_or items i x → at.item ≡ x
  item_read range items i at x is =
      let read : slice_get items i ≡ Some x = slice_get_read items _ i x refl at.within is in
      let item : slice_get items i ≡ Some at.item = at.is in
      cc

  -- the range's place, if the item there has another range
  pub before_place : (range : Span) (low : ℕ) (items : List A) → AreApart span low items
      → ((x : A) → slice_get items (before span range.start items) ≡ Some x → same_range (span x) range ≡ false)
      → IsBefore span range items (before span range.start items)
  before_place range low [] h other = record { within = omega arith; none = refl; put = λ a own. refl }
  before_place range low (y ∷ items) h other =
      place_cases (λ n. ((x : A) → slice_get (y ∷ items) n ≡ Some x → same_range (span x) range ≡ false)
      → IsBefore span range (y ∷ items) n) y range.start items (λ lt other.
      let r = before_place range (span y).end items h.2 other in
      record {
        within = omega (arith, r.within);
        none = rw (not_same (span y) range (λ s. omega (arith, s, lt))) r.none;
        put = λ a own. put_later a y items (rw own lt) ∙ ap (λ (l : List A). y ∷ l) (r.put a own);
      }) (λ le other. record {
        within = omega arith;
        none = rw (other y refl) (none_above range (span y).end items (omega (arith, le, h.1)) h.2);
        put = λ a own.
            let below : nat_lt (span y).start (span a).start ≡ false = le-ltb (span y).start (span a).start (rw own le) in
            let differs : same_range (span y) (span a) ≡ false = rw own (other y refl) in
            rw (below, differs) refl;
      }) other

  -- ---- an item that is put

  -- the three cases of putting an item
  pub put_cases : (P : List A → Type 0) (a x : A) (items : List A)
      → ((span x).start < (span a).start → P (x ∷ with_item span a items))
      → (same_range (span x) (span a) ≡ true → P (a ∷ items))
      → ((span a).start ≤ (span x).start → same_range (span x) (span a) ≡ false → P (a ∷ x ∷ items))
      → P (with_item span a (x ∷ items))
  put_cases P a x items later own next =
      by (nat_lt (span x).start (span a).start) (same_range (span x) (span a)) refl refl
    where
      by : (b s : Bool) → nat_lt (span x).start (span a).start ≡ b → same_range (span x) (span a) ≡ s
          → P (if b then x ∷ with_item span a items else if s then a ∷ items else a ∷ x ∷ items)
      by true s t u = later (ltb-true _ _ t)
      by false true t u = own u
      by false false t u = next (ltb-false _ _ t) u

  -- of two ranges that don't overlap, the one that starts first ends first
  sides : (a b : Span) → overlaps a b && not (same_range a b) ≡ false → a.start ≤ a.end → b.start ≤ b.end
      → (a.start < b.start → a.end < b.start) × (same_range a b ≡ false → b.start ≤ a.start → b.end < a.start)
  sides a b none p q = (λ lt. grind (arith, nat_tests), λ other le. grind (arith, nat_tests))

  pub apart_with : (a : A) (low : ℕ) (items : List A) → (span a).start ≤ (span a).end
      → overlaps_another span (span a) items ≡ false → low < (span a).start → AreApart span low items
      → AreApart span low (with_item span a items)
  apart_with a low [] valid none lt h = (lt, valid, tt)
  apart_with a low (x ∷ items) valid none lt h =
      let o = or_parts (overlaps (span x) (span a) && not (same_range (span x) (span a)))
      (overlaps_another span (span a) items) none in
      let free = sides (span x) (span a) o.0 h.1 valid in
      put_cases (AreApart span low) a x items (λ t. (h.0, h.1, apart_with a (span x).end items valid o.1 (free.0 t) h.2))
      (λ s. (lt, valid, subst (λ (r : Span). AreApart span r.end items) (one_range (span x) (span a) s) h.2))
      (λ t s. (lt, valid, (free.1 s t, h.1, h.2)))

  pub all_with : (p : A → Bool) (a : A) (items : List A) → p a ≡ true → list_all p items ≡ true
      → list_all p (with_item span a items) ≡ true
  all_with p a [] new each = rw new refl
  all_with p a (x ∷ items) new each =
      let e = and_parts (p x) (list_all p items) each in
      put_cases (λ l. list_all p l ≡ true) a x items (λ t. rw (e.0, all_with p a items new e.1) refl) (λ s. rw (new, e.1) refl)
      (λ t s. rw (new, e.0, e.1) refl)

  pub length_with : (a : A) (items : List A) → length (with_item span a items) ≤ length items + 1
  length_with a [] = omega arith
  length_with a (x ∷ items) =
      put_cases (λ l. length l ≤ suc (length items) + 1) a x items (λ t. omega (arith, length_with a items)) (λ s. omega arith)
      (λ t s. omega arith)

  -- an item in place of another adds none
  length_over : (a : A) (low : ℕ) (items : List A) → AreApart span low items
      → is_some (item_of span (span a) items) ≡ true → length (with_item span a items) ≤ length items
  length_over a low [] h some = cc
  length_over a low (x ∷ items) h some =
      put_cases (λ l. length l ≤ suc (length items)) a x items
      (λ t. omega (
        arith,
        length_over a (span x).end items h.2 (rw (not_same (span x) (span a) (λ s. omega (arith, s, t))) at some),
      )) (λ s. omega arith)
      (λ t s. absurd (true≢false (sym (rw
      (s, none_above (span a) (span x).end items (omega (arith, t, h.1)) h.2) at some))))

  -- the items are at most n still, if there were fewer or one of the range
  pub few_with : (n : ℕ) (a : A) (low : ℕ) (items : List A) → AreApart span low items → length items ≤ n
      → (is_some (item_of span (span a) items) ≡ false → length items < n) → length (with_item span a items) ≤ n
  few_with n a low items h few room = by (is_some (item_of span (span a) items)) refl
    where
      by : (b : Bool) → is_some (item_of span (span a) items) ≡ b → length (with_item span a items) ≤ n
      by true e = omega (arith, few, length_over a low items h e)
      by false e = omega (arith, room e, length_with a items)

  -- ---- ranges that overlap

  -- a range that overlaps none overlaps no other
  pub no_other : (range : Span) (items : List A) → list_any (λ a. overlaps (span a) range) items ≡ false
      → overlaps_another span range items ≡ false
  no_other range [] none = refl
  no_other range (a ∷ items) none =
      let o = or_parts (overlaps (span a) range) (list_any (λ a. overlaps (span a) range) items) none in
      rw (o.0, no_other range items o.1) refl

  -- items above a range don't overlap it
  above_apart : (range : Span) (low : ℕ) (items : List A) → range.end ≤ low → AreApart span low items
      → overlaps_another span range items ≡ false
  above_apart range low [] le h = refl
  above_apart range low (a ∷ items) le h =
      let rest = above_apart range (span a).end items (omega (arith, le, h.0, h.1)) h.2 in
      rw (lt-leb (span a).start range.end (omega (arith, le, h.0)), rest) refl

  -- a range that has an item starts above the network that the items are above, and overlaps no other
  pub found_apart : (range : Span) (low : ℕ) (items : List A) (x : A) → AreApart span low items
      → item_of span range items ≡ Some x → (low < range.start) × (overlaps_another span range items ≡ false)
  found_apart range low [] x h found = cc
  found_apart range low (a ∷ items) x h found = by (same_range (span a) range) refl found (found_apart range (span a).end items x h.2)
    where
      by : (b : Bool) → same_range (span a) range ≡ b → (if b then Some a else item_of span range items) ≡ Some x
          → (item_of span range items ≡ Some x → ((span a).end < range.start) × (overlaps_another span range items ≡ false))
          → (low < range.start) × (((overlaps (span a) range && not b) || overlaps_another span range items) ≡ false)
      by true t f rest =
          let one = one_range (span a) range t in (
            subst (λ (r : Span). low < r.start) one h.0,
            rw (and-false (overlaps (span a) range))
                (above_apart range (span a).end items (subst (λ (r : Span). r.end ≤ (span a).end) one (omega arith)) h.2),
          )
      by false t f rest =
          let r = rest f in
          (omega (arith, h.0, h.1, r.0), rw (lt-leb _ _ r.0, and-false (nat_le (span a).start range.end)) r.1)

  -- ---- the item of a network

  -- an item doesn't end before it starts
  ends_over : (low : ℕ) (items : List A) (i : ℕ) (d : A) → AreApart span low items → i < length items
      → (span (get_or items i d)).start ≤ (span (get_or items i d)).end
  ends_over low [] i d h lt = absurd (omega (arith, lt))
  ends_over low (a ∷ items) zero d h lt = h.1
  ends_over low (a ∷ items) (suc i) d h lt = ends_over (span a).end items i d h.2 (omega (arith, lt))

  -- items apart rise by their starts
  pub starts_rise : (low : ℕ) (items : List A) → AreApart span low items → (i j : ℕ) (d : A) → i ≤ j → j < length items
      → (span (get_or items i d)).start ≤ (span (get_or items j d)).start
  starts_rise low [] h i j d le l = absurd (omega (arith, l))
  starts_rise low (a ∷ items) h zero zero d le l = omega arith
  starts_rise low (a ∷ items) h zero (suc j) d le l =
      omega (arith, h.1, starts_over (span a).end items j d h.2 (omega (arith, l)))
  starts_rise low (a ∷ items) h (suc i) zero d le l = absurd (omega (arith, le))
  starts_rise low (a ∷ items) h (suc i) (suc j) d le l = starts_rise (span a).end items h.2 i j d (omega (arith, le)) (omega (arith, l))

  -- items above a network don't hold it
  none_holds : (net low : ℕ) (items : List A) → net ≤ low → AreApart span low items → item_for span net items ≡ None
  none_holds net low [] le h = refl
  none_holds net low (a ∷ items) le h =
      let out : is_between (span a).start (span a).end net ≡ false = grind (arith, nat_tests, h.0) in
      rw out (none_holds net (span a).end items (omega (arith, le, h.0, h.1)) h.2)

  -- where the first item starts above a network, no item holds it
  pub before_all : (net low : ℕ) (items : List A) → AreApart span low items → before span (suc net) items ≡ 0
      → item_for span net items ≡ None
  before_all net low [] h first = refl
  before_all net low (a ∷ items) h first = by (nat_lt (span a).start (suc net)) refl first
    where
      by : (b : Bool) → nat_lt (span a).start (suc net) ≡ b → (if b then suc (before span (suc net) items) else 0) ≡ 0
          → item_for span net (a ∷ items) ≡ None
      by true t e = absurd (omega (arith, e))
      by false t e =
          let out : is_between (span a).start (span a).end net ≡ false = grind (arith, nat_tests, ltb-false _ _ t) in
          rw out (none_holds net (span a).end items (omega (arith, ltb-false _ _ t, h.1)) h.2)

  -- an item before a network's place starts below it
  under_before : (start : ℕ) (items : List A) (i : ℕ) (d : A) → i < before span start items → (span (get_or items i d)).start < start
  under_before start [] i d lt = absurd (omega (arith, lt))
  under_before start (a ∷ items) zero d lt = place_cases (λ n. 0 < n → (span a).start < start) a start items (λ t l. t)
      (λ le l. absurd (omega (arith, l))) lt
  under_before start (a ∷ items) (suc i) d lt =
      place_cases (λ n. suc i < n → (i < before span start items → (span (get_or items i d)).start < start) → (span (get_or items i d)).start < start)
      a start items (λ t l rest. rest (omega (arith, l))) (λ le l rest. absurd (omega (arith, l))) lt (under_before start items i d)

  -- an item ends before the last one that starts below a network starts
  ends_under : (start high i : ℕ) (items : List A) (d : A) → AreApart span high items → before span start items ≡ suc i
      → (high < (span (get_or items i d)).start) × ((span (get_or items i d)).start < start)
  ends_under start high i items d h last =
      let fits = before_fits start items in
      (starts_over high items i d h (omega (arith, last, fits)), under_before start items i d (omega (arith, last)))

  -- the place of a network in items with one more, if it isn't the first
  place_after : (start i : ℕ) (a : A) (items : List A) → before span start (a ∷ items) ≡ suc i
      → ((span a).start < start) × (before span start items ≡ i)
  place_after start i a items e =
      place_cases (λ n. n ≡ suc i → ((span a).start < start) × (before span start items ≡ i)) a start items
      (λ t e. (t, omega (arith, e))) (λ le e. absurd (omega (arith, e))) e

  from_le : (m n : ℕ) → m < suc n → nat_le m n ≡ true
  from_le m n lt = grind (arith, nat_tests)

  -- of the items that start at a network or below it, only the last may hold it
  pub last_before : (net low i : ℕ) (items : List A) (x : A) → AreApart span low items → before span (suc net) items ≡ suc i
      → x ≡ get_or items i x → item_for span net items ≡ (if nat_le net (span x).end then Some x else None)
  last_before net low i [] x h last is = absurd (omega (arith, last))
  last_before net low zero (a ∷ items) x h last is =
      let p = place_after (suc net) zero a items last in
      let none = before_all net (span a).end items h.2 p.1 in
      let from : nat_le (span a).start net ≡ true = from_le (span a).start net p.0 in
      rw (is, from, none) refl
  last_before net low (suc i) (a ∷ items) x h last is =
      let p = place_after (suc net) (suc i) a items last in
      let e = ends_under (suc net) (span a).end i items x h.2 p.1 in
      let out : is_between (span a).start (span a).end net ≡ false = ends_first (span a).start (span a).end net (omega (arith, e.0, e.1)) in
      rw out (last_before net (span a).end i items x h.2 p.1 is)
    where
      ends_first : (s e n : ℕ) → e < n → is_between s e n ≡ false
      ends_first s e n lt = grind (arith, nat_tests)

  none_over : (range : Span) (low : ℕ) (items : List A) → range.end ≤ low → AreApart span low items
      → list_any (λ a. overlaps (span a) range) items ≡ false
  none_over range low [] le h = refl
  none_over range low (a ∷ items) le h =
      rw (lt-leb (span a).start range.end (omega (arith, le, h.0)), none_over range (span a).end items (omega (arith, le, h.0, h.1)) h.2) refl

  -- where the first item starts above the end of a range, none overlaps it
  pub all_past : (range : Span) (low : ℕ) (items : List A) → AreApart span low items → before span (suc range.end) items ≡ 0
      → list_any (λ a. overlaps (span a) range) items ≡ false
  all_past range low [] h first = refl
  all_past range low (a ∷ items) h first = by (nat_lt (span a).start (suc range.end)) refl first
    where
      by : (b : Bool) → nat_lt (span a).start (suc range.end) ≡ b → (if b then suc (before span (suc range.end) items) else 0) ≡ 0
          → (overlaps (span a) range || list_any (λ x. overlaps (span x) range) items) ≡ false
      by true t e = absurd (omega (arith, e))
      by false t e =
          let past = ltb-false _ _ t in
          let out : overlaps (span a) range ≡ false = grind (arith, nat_tests, past) in
          rw (out, none_over range (span a).end items (omega (arith, past, h.1)) h.2) refl

  -- of the items that start at the end of a range or below it, one overlaps the range if the last does
  pub last_overlaps : (range : Span) (low i : ℕ) (items : List A) (x : A) → AreApart span low items
      → before span (suc range.end) items ≡ suc i → x ≡ get_or items i x
      → list_any (λ a. overlaps (span a) range) items ≡ nat_le range.start (span x).end
  last_overlaps range low i [] x h last is = absurd (omega (arith, last))
  last_overlaps range low zero (a ∷ items) x h last is =
      let p = place_after (suc range.end) zero a items last in
      let none = all_past range (span a).end items h.2 p.1 in
      let from : nat_le (span a).start range.end ≡ true = from_le (span a).start range.end p.0 in
      rw (is, from, none) (or-false (nat_le range.start (span a).end))
  last_overlaps range low (suc i) (a ∷ items) x h last is =
      let p = place_after (suc range.end) (suc i) a items last in
      let e = ends_under (suc range.end) (span a).end i items x h.2 p.1 in
      let own : (span x).start ≤ (span x).end = rw is (ends_over (span a).end items i x h.2 (omega (arith, p.1, before_fits (suc range.end) items))) in
      let later : (span a).end < (span x).start = rw is e.0 in
      earlier (span a) (span x) (list_any (λ y. overlaps (span y) range) items) (omega (arith, later, own))
      (last_overlaps range (span a).end i items x h.2 p.1 is)
    where
      earlier : (s t : Span) (any : Bool) → s.end < t.end → any ≡ nat_le range.start t.end
          → (overlaps s range || any) ≡ nat_le range.start t.end
      earlier s t any lt e = by_test (nat_le range.start s.end)
          (λ u. let v : nat_le range.start t.end ≡ true = grind (arith, nat_tests) in rw (e, v) (or-true (overlaps s range)))
          (λ u. let out : overlaps s range ≡ false = grind (arith, nat_tests) in rw out e)
