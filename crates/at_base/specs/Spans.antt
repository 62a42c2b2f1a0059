-- Finite maps from disjoint ranges to items, listed by rising range. Each definition takes the function from an item to its range.
use Rattle.std.specs.Prelude.{◌≡◌, ℕ, ◌<◌, ◌≤◌, Bool, true, not, ◌&&◌, List, [], ◌∷◌, length, filter, find, insert, slice_get, slice_set}
use Rattle.std.specs.Prelude.{Option, Some, None, nat_lt, if◌then◌else◌}
use Rattle.std.specs.List.{list_any}
use Rattle.at_base.specs.Range.{Span, is_between, overlaps, same_range}
use Rattle.at_base.specs.Starts.{before_start}

-- each range starts above the end of the one before it, and the first above low
abbrev pub are_above : {A : Type 0} → (A → Span) → ℕ → List A → Bool
are_above span low [] = true
are_above span low (a ∷ items) = nat_lt low (span a).start && are_above span (span a).end items

-- each range starts above the end of the one before it, the first above low, and none ends before it starts
abbrev pub AreApart : {A : Type 0} → (A → Span) → ℕ → List A → Type 0
AreApart span low [] = Unit {0}
AreApart span low (a ∷ items) =
    (low < (span a).start) × ((span a).start ≤ (span a).end) × AreApart span (span a).end items

-- the item of a range, if any
abbrev pub item_of : {A : Type 0} → (A → Span) → Span → List A → Option A
item_of span range items = find (λ a. same_range (span a) range) items

-- the item whose range contains the network, if any
abbrev pub item_for : {A : Type 0} → (A → Span) → ℕ → List A → Option A
item_for span net items = find (λ a. is_between (span a).start (span a).end net) items

-- another range of the items overlaps this one
abbrev pub overlaps_another : {A : Type 0} → (A → Span) → Span → List A → Bool
overlaps_another span range items = list_any (λ a. overlaps (span a) range && not (same_range (span a) range)) items

-- the items without the one of a range
abbrev pub without : {A : Type 0} → (A → Span) → Span → List A → List A
without span range items = filter (λ a. not (same_range (span a) range)) items

-- the items with this one, instead of the one of its range if there is one, else inserted by rising range
abbrev pub with_item : {A : Type 0} → (A → Span) → A → List A → List A
with_item span item [] = item ∷ []
with_item span item (a ∷ items) =
    if nat_lt (span a).start (span item).start then a ∷ with_item span item items
    else if same_range (span a) (span item) then item ∷ items
    else item ∷ a ∷ items

-- the number of items before the first one that doesn't start below a network
abbrev pub before : {A : Type 0} → (A → Span) → ℕ → List A → ℕ
before span start items = before_start (λ a. (span a).start) start items

-- The item of the range is at this index: putting another item of the range replaces it.
pub record IsAt {A : Type 0} (span : A → Span) (range : Span) (items : List A) (i : ℕ) : Type 0 where
  pub within : i < length items
  pub item : A
  pub is : slice_get items i ≡ Some item
  pub own : span item ≡ range
  pub found : item_of span range items ≡ Some item
  pub put : (a : A) → span a ≡ range → with_item span a items ≡ slice_set items i a

-- The range has no item; putting one inserts it at this index.
pub record IsBefore {A : Type 0} (span : A → Span) (range : Span) (items : List A) (i : ℕ) : Type 0 where
  pub within : i ≤ length items
  pub none : item_of span range items ≡ None
  pub put : (a : A) → span a ≡ range → with_item span a items ≡ insert items i a
