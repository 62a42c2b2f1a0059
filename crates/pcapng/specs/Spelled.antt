-- The bytes that a writer of classic captures writes.
use Rattle.std.specs.Prelude.{ℕ, ◌+◌, ◌*◌, ◌/◌, List, ◌++◌, length}
use Rattle.std.specs.Int.{Width, to_be_bytes, to_le_bytes, w16, w32}
use Rattle.pcapng.specs.declared.item.Fraction.{Fraction}
use Rattle.pcapng.specs.declared.item.Fraction.TheVariants.{Micros, Nanos}
use Rattle.pcapng.specs.declared.order.Order.{Order}
use Rattle.pcapng.specs.declared.order.Order.TheVariants.{Big, Little}

-- a number in an order of bytes
abbrev pub bytes_in : Order → Width → ℕ → List ℕ
bytes_in Big w n = to_be_bytes w n
bytes_in Little w n = to_le_bytes w n

-- the magic number of a capture with such fractions
abbrev pub magic_of : Fraction → ℕ
magic_of Micros = 0xA1B2C3D4
magic_of Nanos = 0xA1B23C4D

-- a header: the magic number, version 2.4, a time zone, the accuracy of times, a limit, and a link type
abbrev pub header_bytes : Order → Fraction → ℕ → ℕ → ℕ → ℕ → List ℕ
header_bytes order fraction zone accuracy limit link =
    bytes_in order w32 (magic_of fraction) ++ (bytes_in order w16 2 ++ (bytes_in order w16 4 ++ (bytes_in order w32 zone
    ++ (bytes_in order w32 accuracy ++ (bytes_in order w32 limit ++ bytes_in order w32 link)))))

-- a record of a packet that had so many bytes, of which these were captured, at a time in seconds and a fraction
abbrev pub record_bytes : Order → ℕ → ℕ → ℕ → List ℕ → List ℕ
record_bytes order seconds fraction len bytes =
    bytes_in order w32 seconds ++ (bytes_in order w32 fraction ++ (bytes_in order w32 (length bytes) ++ (bytes_in order w32 len ++ bytes)))

-- that time in microseconds, rounded down
abbrev pub micros_of : Fraction → ℕ → ℕ → ℕ
micros_of Micros seconds fraction = seconds * 1000000 + fraction
micros_of Nanos seconds fraction = (seconds * 1000000000 + fraction) / 1000
