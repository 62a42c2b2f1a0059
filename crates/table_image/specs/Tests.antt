-- The tests of an image's fields.
use Rattle.std.specs.Prelude.{ℕ, ◌+◌, ◌*◌, List, [], ◌∷◌, Option, Some, None, nat_lt, if◌then◌else◌}
use Rattle.at_base.specs.declared.error.Cause.{Cause}
use Rattle.at_base.specs.declared.error.Cause.TheVariants.{Index, Magic, Order, Value}
use Rattle.at_base.specs.Text.{same_bytes}
use Rattle.table_image.specs.Flaws.{Wrong, Here, Before}

-- the test that any value passes
abbrev pub any : {V : Type 0} → V → Option Wrong
any n = None

-- the test that the numbers from least to most pass
abbrev pub within : ℕ → ℕ → Cause → ℕ → Option Wrong
within least most cause n = if nat_lt n least then Some (Here cause) else if nat_lt most n then Some (Here cause) else None

-- the test of a 0-based index into a list of count parts
abbrev pub below : ℕ → ℕ → Option Wrong
below count n = if nat_lt n count then None else Some (Here Index)

-- the test that a number is above the one before it, which passes low on as one more than itself
abbrev pub rising : ℕ → ℕ → Option Wrong
rising low n = if nat_lt n low then Some (Here Order) else None

-- the test, made at the node, that an address is above the one before it, which passes low on as one more than its own
-- number; what is wrong is reported at the network
abbrev pub address_rising : ℕ → ℕ → ℕ → Option Wrong
address_rising low net node = if nat_lt (net * 256 + node) low then Some (Before 2 Order) else None

-- the test that a number is at least 1, and above the one before it
abbrev pub enumerator : ℕ → ℕ → Option Wrong
enumerator low n = if nat_lt n 1 then Some (Here Value) else rising low n

-- the four bytes at the front of an image
abbrev pub magic : List ℕ
magic = 0x41 ∷ 0x54 ∷ 0x49 ∷ 0x4D ∷ []

-- the test of the four bytes at the front of an image
abbrev pub is_magic : List ℕ → Option Wrong
is_magic s = if same_bytes s magic then None else Some (Here Magic)
