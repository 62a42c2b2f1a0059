-- The index of a zone table: one number for each name of each list, in rising order.
use Rattle.std.specs.Prelude.{ℕ, suc, ◌+◌, ◌*◌, ◌/◌, ◌%◌, ◌^◌, ◌≡◌, Bool, false, List, [], ◌∷◌, fold, map, flat_map, Option, Some, None, slice_get}
use Rattle.std.specs.Prelude.{if◌then◌else◌}
use Rattle.std.specs.List.{list_any}
use Rattle.std.specs.Char.{to_ascii_lowercase}
use Rattle.at_base.specs.Numbers.{between, in_order, with_number, without_number}
use Rattle.at_base.specs.Range.{Span}
use Rattle.at_base.specs.Text.{same_name}
use Rattle.zip_zones.specs.Zones.{Known, IsZoneMap, known_of}

-- a number below 2^32 after one more byte
abbrev pub key_step : ℕ → ℕ → ℕ
key_step key byte = (key * 16777619 % 2 ^ 32 + byte) % 2 ^ 32

-- the number of a name: names that are equal, ignoring case, have one
unfoldable pub key_of : List ℕ → ℕ
key_of name = fold key_step 0 (map to_ascii_lowercase name)

-- the number in the index of the name at a place of the list that starts at a network
abbrev pub number_of : ℕ → ℕ → ℕ → ℕ
number_of key start nth = (key * 65536 + start) * 256 + nth

-- the numbers of names, the first of which is at a place
abbrev pub numbers_from : ℕ → ℕ → List (List ℕ) → List ℕ
numbers_from start nth [] = []
numbers_from start nth (name ∷ names) = number_of (key_of name) start nth ∷ numbers_from start (suc nth) names

-- the numbers of a list's names
abbrev pub numbers_in : Known → List ℕ
numbers_in k = numbers_from k.range.start 0 k.names

-- the index of a table
abbrev pub index_of : List Known → List ℕ
index_of table = in_order (flat_map numbers_in table)

-- The lists are a zone table, and the numbers its index.
pub record IsIndexed (table : List Known) (numbers : List ℕ) : Type 0 where
  pub map : IsZoneMap table
  pub index : numbers ≡ index_of table

-- the numbers with more
abbrev pub with_numbers : List ℕ → List ℕ → List ℕ
with_numbers [] index = index
with_numbers (n ∷ more) index = with_number n (with_numbers more index)

-- the numbers without some
abbrev pub without_numbers : List ℕ → List ℕ → List ℕ
without_numbers [] index = index
without_numbers (n ∷ some) index = without_numbers some (without_number n index)

-- the numbers of names with this key
abbrev pub with_key : ℕ → List ℕ → List ℕ
with_key key index = between (number_of key 0 0) (number_of (suc key) 0 0) index

-- the numbers of names with this key in the list that starts at a network
abbrev pub with_start : ℕ → ℕ → List ℕ → List ℕ
with_start key start index = between (number_of key start 0) (number_of key (suc start) 0) index

-- the name at a place is the zone, in any case
abbrev pub is_named : List ℕ → ℕ → List (List ℕ) → Bool
is_named zone nth names = by_name (slice_get names nth)
  where
    by_name : Option (List ℕ) → Bool
    by_name None = false
    by_name (Some name) = same_name zone name

-- the names at the places of numbers have the zone, in any case
abbrev pub any_named : List ℕ → List (List ℕ) → List ℕ → Bool
any_named zone names numbers = list_any (λ n. is_named zone (n % 256) names) numbers

-- the range of the list that a number is of, if its name is the zone
abbrev pub hit : List ℕ → List Known → ℕ → Option Span
hit zone table number = by_list (known_of (number / 256 % 65536) table)
  where
    by_list : Option Known → Option Span
    by_list None = None
    by_list (Some k) = if is_named zone (number % 256) k.names then Some k.range else None
