-- What the header and the records of a classic capture say.
use Rattle.std.specs.Prelude.{ℕ, ◌+◌, ◌*◌, ◌%◌, not, ◌==◌, ◌&&◌, false, List, Result, Ok, Err, nat_lt, if◌then◌else◌}
use Rattle.std.specs.Int.{w16, w32}
use Rattle.at_base.specs.Reading.{◌>>=◌, bytes_at}
use Rattle.pcapng.specs.Orders.{number_of}
use Rattle.pcapng.specs.Packets.{Packed, time_on}
use Rattle.pcapng.specs.declared.fault.Fault.{Fault}
use Rattle.pcapng.specs.declared.fault.Fault.TheVariants.{Cut, Version}
use Rattle.pcapng.specs.declared.interface.Interface.{Interface}
use Rattle.pcapng.specs.declared.item.Fraction.{Fraction}
use Rattle.pcapng.specs.declared.item.Fraction.TheVariants.{Micros, Nanos}
use Rattle.pcapng.specs.declared.order.Order.{Order}

-- the resolution of times with such fractions
abbrev pub resolution_of : Fraction → ℕ
resolution_of Micros = 6
resolution_of Nanos = 9

-- the one interface of a capture with this link type, whose low 16 bits count
abbrev pub classic_interface : Fraction → ℕ → Interface
classic_interface fraction link = record { ethernet = link % 65536 == 1; resolution = resolution_of fraction; offset = 0 }

-- A header: the magic number; the version, which has to be 2.4; the time zone, the accuracy of times and a limit, which
-- aren't used; the link type.
abbrev pub header_in : Order → Fraction → List ℕ → Result Interface Fault
header_in order fraction bytes =
    bytes_at Cut 4 bytes >>= λ magic. number_of order w16 magic.1 >>= λ major. number_of order w16 major.1 >>= λ minor.
    bytes_at Cut 12 minor.1 >>= λ unused. number_of order w32 unused.1 >>= λ link.
    (if major.0 == 2 && minor.0 == 4 then Ok (classic_interface fraction link.0) else Err Version)

-- how many of the fractions on an interface are a second
abbrev pub per_second : Interface → ℕ
per_second i = if i.resolution == 9 then 1000000000 else 1000000

-- a record: the time in seconds and a fraction, how many bytes were captured and how many there were, and the bytes
abbrev pub record_in : Interface → Order → List ℕ → Result Packed Fault
record_in i order bytes =
    number_of order w32 bytes >>= λ seconds. number_of order w32 seconds.1 >>= λ fraction. number_of order w32 fraction.1 >>= λ captured.
    number_of order w32 captured.1 >>= λ len. bytes_at Cut captured.0 len.1 >>= λ packet.
    Ok (record {
      interface = 0;
      time = time_on i (seconds.0 * per_second i + fraction.0);
      ethernet = i.ethernet;
      whole = not (nat_lt captured.0 len.0);
      lost = false;
      bytes = packet.0;
    })
