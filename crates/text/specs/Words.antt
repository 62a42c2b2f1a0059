-- Numbers, addresses and bytes as words spell them.
use Rattle.std.specs.Prelude.{Bool, List, None, Option, Some, [], cond, false, fold, nat_le, nat_lt, not, ℕ, ◌&&◌, ◌*◌, ◌+◌, ◌-◌, ◌==◌, ◌∷◌}
use Rattle.std.specs.Char.{digit_value, is_ascii_digit}
use Rattle.std.specs.List.{list_all, slice_split}
use Rattle.at_base.specs.declared.address.Addr.{Addr}

-- the result of make on a value, if the value and the result exist
abbrev pub given : {T U : Type 0} → Option T → (T → Option U) → Option U
given None make = None
given (Some x) make = make x

-- the word is only digits, without a leading 0 (except 0 itself)
abbrev pub is_plain : List ℕ → Bool
is_plain [] = false
is_plain (d ∷ []) = is_ascii_digit d
is_plain (d ∷ e ∷ ds) = not (d == 48) && list_all is_ascii_digit (d ∷ e ∷ ds)

-- the value of decimal digits
abbrev pub value : List ℕ → ℕ
value digits = fold (λ n d. n * 10 + (d - 48)) 0 digits

-- the number that a word spells in decimal, if it spells one of at most max
abbrev pub number : ℕ → List ℕ → Option ℕ
number max word = cond (is_plain word && nat_le (value word) max) (Some (value word)) None

-- the number that a word spells in decimal, if it fits a byte
abbrev pub byte : List ℕ → Option ℕ
byte word = number 255 word

-- the address that a word spells, if any: the network and the node, as 10.7
abbrev pub address : List ℕ → Option Addr
address word = of_parts (slice_split (λ b. b == 46) word)
  where
    of_parts : List (List ℕ) → Option Addr
    of_parts (net ∷ node ∷ []) =
        given (number 65535 net) (λ n. given (byte node) (λ k. Some (record { net = n; node = k })))
    of_parts _ = None

-- the value of a hexadecimal digit, in either case
abbrev pub nibble : ℕ → Option ℕ
nibble d = cond (nat_lt (digit_value d) 16) (Some (digit_value d)) None

-- the bytes that pairs of hexadecimal digits spell, if the list is such pairs
abbrev pub pairs : List ℕ → Option (List ℕ)
pairs [] = Some []
pairs (d ∷ []) = None
pairs (high ∷ low ∷ ds) =
    given (nibble high) (λ h. given (nibble low) (λ l. given (pairs ds) (λ bytes. Some ((h * 16 + l) ∷ bytes))))
