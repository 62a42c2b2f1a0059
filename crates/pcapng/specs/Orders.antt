-- Numbers in the order of bytes of a section.
use Rattle.std.specs.Prelude.{ℕ, List, Result, Ok}
use Rattle.std.specs.Int.{Width, byte_len, from_be_bytes, from_le_bytes}
use Rattle.at_base.specs.Reading.{◌>>=◌, bytes_at}
use Rattle.pcapng.specs.declared.fault.Fault.{Fault}
use Rattle.pcapng.specs.declared.fault.Fault.TheVariants.{Cut}
use Rattle.pcapng.specs.declared.order.Order.{Order}
use Rattle.pcapng.specs.declared.order.Order.TheVariants.{Big, Little}

-- the number that bytes are
abbrev pub number_in : Order → Width → List ℕ → ℕ
number_in Big w bytes = from_be_bytes w bytes
number_in Little w bytes = from_le_bytes w bytes

-- the number at the front, and the bytes after it
abbrev pub number_of : Order → Width → List ℕ → Result (ℕ × List ℕ) Fault
number_of order w bytes = bytes_at Cut (byte_len w) bytes >>= λ x. Ok (number_in order w x.0, x.1)
