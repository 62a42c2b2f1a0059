-- Packets as formats: the refusals of packet readers, and fields that several protocols have. (Inside AppleTalk, the
-- chapters on AARP, RTMP, NBP, ATP and ZIP)
use Rattle.std.specs.Prelude.{ℕ, true, ◌==◌, List, length, Option, Some, None, nat_lt, if◌then◌else◌}
use Rattle.at_base.specs.declared.address.Addr.{Addr}
use Rattle.at_base.specs.declared.error.Field.{Field}
use Rattle.at_base.specs.declared.error.Field.TheVariants.{NameLength}
use Rattle.at_base.specs.declared.error.Error.{Error}
use Rattle.at_base.specs.declared.error.Error.TheVariants.{Truncated, BadField}
use Rattle.at_base.specs.Grammar.{Grammar, done, field, number, run, one, two, Refusals}

-- an input that ends within a field is truncated; a wrong field has its own error, which doesn't depend on its place
abbrev pub packets : Refusals Error Error
packets = record { cut = Truncated; placed = λ left e. e }

-- the test that any value passes
abbrev pub any : {V : Type 0} → V → Option Error
any v = None

-- the test that the numbers from least to most pass
abbrev pub within : ℕ → ℕ → Field → ℕ → Option Error
within least most what n = if nat_lt n least then Some (BadField what) else if nat_lt most n then Some (BadField what) else None

-- the test that only one value passes
abbrev pub only : ℕ → Field → ℕ → Option Error
only value what n = if n == value then None else Some (BadField what)

-- a length-prefixed text of least to 32 bytes
unfoldable pub text : ℕ → (List ℕ → Option Error) → Grammar Error true (List ℕ)
text least wrong =
    field (number one (within least 32 NameLength)) (λ s. length s) (λ len.
    field (run len wrong) (λ s. s) (λ s.
    done s))

-- an address: a network of two bytes and a node of one
unfoldable pub address : Grammar Error true Addr
address =
    field (number two any) (λ a. a.net) (λ net.
    field (number one any) (λ a. a.node) (λ node.
    done (record { net = net; node = node })))
