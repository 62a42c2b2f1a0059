-- The values in a file in TOML: numbers, texts, addresses, lists.
use Rattle.std.specs.Prelude.{ℕ, ◌&&◌, ◌==◌, cond, ℤ, pos, negsuc, List, [], ◌∷◌, Option, Some, None, length, nat_le, option_map}
use Rattle.toml.specs.Data.{Data, Items, no_items, item, as_array, as_integer, as_str}
use Rattle.at_base.specs.Range.{Span, is_between, is_range}
use Rattle.at_base.specs.Text.{is_name}
use Rattle.at_base.specs.declared.address.Addr.{Addr}
use Rattle.at_base.specs.declared.address.Hw.{Hw}
use Rattle.text.specs.Words.{address, given, pairs}

-- The integer as a natural number, if it is from `low` to `high`.
abbrev pub within : ℕ → ℕ → ℤ → Option ℕ
within low high (pos n) = cond (nat_le low n && nat_le n high) (Some n) None
within low high (negsuc n) = None

-- The number of a value, if it is an integer from `low` to `high`.
abbrev pub number : ℕ → ℕ → Data → Option ℕ
number low high d = given (as_integer d) (within low high)

-- The number of one of these entries, counted from 1, at most 200.
abbrev pub one_of : {T : Type 0} → List T → Data → Option ℕ
one_of entries d = given (number 1 200 d) (λ k. cond (nat_le k (length entries)) (Some k) None)

-- The bytes of a text, if there are at least `low` and at most 32.
abbrev pub short : ℕ → Data → Option (List ℕ)
short low d = given (as_str d) (λ s. cond (nat_le low (length s) && nat_le (length s) 32) (Some s) None)

-- The name of a zone.
abbrev pub zone : Data → Option (List ℕ)
zone d = given (as_str d) (λ s. cond (is_name s) (Some s) None)

-- An address of any network and node, as 10.7.
abbrev pub any_address : Data → Option Addr
any_address d = given (as_str d) address

-- A hardware address: twelve hexadecimal digits.
abbrev pub hardware : Data → Option Hw
hardware d =
    given (as_str d) (λ s. cond (length s == 12) (option_map (λ bytes. record { 0 = bytes }) (pairs s)) None)

-- Bytes: an even number of hexadecimal digits.
abbrev pub hex : Data → Option (List ℕ)
hex d = given (as_str d) pairs

-- The items as a list.
abbrev pub values : Items → List Data
values no_items = []
values (item d ds) = d ∷ values ds

-- The values of a list.
abbrev pub list : Data → Option (List Data)
list d = option_map values (as_array d)

-- The values of a list with at least `low` and at most `high` values.
abbrev pub list_within : ℕ → ℕ → Data → Option (List Data)
list_within low high d = given (list d) (λ ds. cond (is_between low high (length ds)) (Some ds) None)

-- The range with this first and this last network.
abbrev pub span_of : List Data → Option Span
span_of (first ∷ last ∷ []) =
    given (number 0 65535 first) (λ s. given (number 0 65535 last) (λ e.
    cond (is_range s e) (Some (record { start = s; end = e })) None))
span_of _ = None

-- A range of networks, as a list of its first and its last network.
abbrev pub range : Data → Option Span
range d = given (list d) span_of
