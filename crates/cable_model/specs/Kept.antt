-- The bytes that entries name, as they are stored.
use Rattle.std.specs.Prelude.{◌≡◌, ◌≤◌, ◌<◌, ◌+◌, ◌^◌, ◌++◌, ℕ, List, [], length, Option, Some, None, slice_get}
use Rattle.std.specs.List.{slice_range, AllByRecursion as Each}
use Rattle.cable_model.specs.declared.kept.Span.{Span}
use Rattle.cable_model.specs.declared.kept.Span.TheVariants.{Packed, Loose}
use Rattle.cable_model.specs.declared.kept.Stored.{Stored}
use Rattle.cable_model.specs.declared.kept.Stored.TheVariants.{Made, Packet}

-- The bytes, by their numbers, and the number of them for which there is room.
pub record Shelf : Type 0 where
  pub items : List (List ℕ)
  pub room : ℕ

-- stored bytes
abbrev pub stored : Stored → List ℕ
stored (Made bytes) = bytes
stored (Packet bytes) = bytes

-- stored bytes, or none
abbrev pub stored_or_none : Option Stored → List ℕ
stored_or_none None = []
stored_or_none (Some s) = stored s

-- the bytes that a span names, among those that are packed and those that are stored by themselves
abbrev pub spanned : List ℕ → List Stored → Span → List ℕ
spanned packed loose (Packed len start) = slice_range packed start (start + len)
spanned packed loose (Loose index) = stored_or_none (slice_get loose index)

-- the span ends within p packed bytes, or is that of one of n items
abbrev pub IsInside : ℕ → ℕ → Span → Type 0
IsInside p n (Packed len start) = start + len ≤ p
IsInside p n (Loose index) = index < n

-- Bytes were put behind those that are packed, or among the items, and the span names them.
pub record Keeps (packed now_packed : List ℕ) (loose now_loose : List Stored) (s : Span) (bytes : List ℕ) : Type 0 where
  pub names : spanned now_packed now_loose s ≡ bytes
  pub inside : IsInside (length now_packed) (length now_loose) s
  pub run : (more : List ℕ) × (now_packed ≡ packed ++ more)
  pub items : (more : List Stored) × (now_loose ≡ loose ++ more)

-- The invariant of kept bytes: each span names bytes that are there, and there is room for all items that were asked for,
-- whether they are packed or not.
pub record IsShelf (packed : List ℕ) (loose : List Stored) (spans : List Span) (room loose_most spans_most : ℕ) : Type 0 where
  pub inside : Each (IsInside (length packed) (length loose)) spans
  pub within : length spans ≤ room
  pub spans_room : room ≤ spans_most
  pub loose_room : length loose + room ≤ loose_most + length spans
  pub few : length loose ≤ length spans
  pub numbered : room ≤ 2 ^ 32
