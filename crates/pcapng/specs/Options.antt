-- The options at the end of a block. (Internet draft draft-ietf-opsawg-pcapng)
use Rattle.std.specs.Prelude.{ℕ, zero, suc, Bool, ◌==◌, ◌&&◌, List, [], ◌∷◌, Option, Some, None, Result, Ok, Err}
use Rattle.std.specs.Prelude.{codes, drop, length, slice_index, if◌then◌else◌}
use Rattle.std.specs.Int.{w16, w64}
use Rattle.at_base.specs.Reading.{◌>>=◌, bytes_at}
use Rattle.at_base.specs.Text.{same_bytes}
use Rattle.pcapng.specs.Fields.{gap}
use Rattle.pcapng.specs.Orders.{number_in, number_of}
use Rattle.pcapng.specs.declared.fault.Fault.{Fault}
use Rattle.pcapng.specs.declared.fault.Fault.TheVariants.{Cut}
use Rattle.pcapng.specs.declared.interface.Interface.{Interface}
use Rattle.pcapng.specs.declared.order.Order.{Order}

-- the most options that are looked at: more than a block of 2,048 bytes can have
abbrev pub max_options : ℕ
max_options = 512

-- the option with this code, unless the code is 0, which ends the options
abbrev pub unless_end : ℕ → List ℕ → List ℕ → Result ((ℕ × List ℕ) × List ℕ) Fault
unless_end code value rest = if code == 0 then Err Cut else Ok ((code, value), rest)

-- the code and the value of the option at the front, and what follows its padding
abbrev pub option_at : Order → List ℕ → Result ((ℕ × List ℕ) × List ℕ) Fault
option_at order bytes =
    number_of order w16 bytes >>= λ code. number_of order w16 code.1 >>= λ len. bytes_at Cut len.0 len.1 >>= λ value.
    unless_end code.0 value.0 (drop (gap len.0) value.1)

-- the option, and those after it, if there is one
abbrev pub option_then : (List ℕ → List (ℕ × List ℕ)) → Result ((ℕ × List ℕ) × List ℕ) Fault → List (ℕ × List ℕ)
option_then after (Ok x) = x.0 ∷ after x.1
option_then after (Err e) = []

-- the options up to their end, or to one that isn't whole; at most so many
abbrev pub options_within : ℕ → Order → List ℕ → List (ℕ × List ℕ)
options_within zero order bytes = []
options_within (suc most) order bytes = option_then (options_within most order) (option_at order bytes)

-- the options
abbrev pub options_of : Order → List ℕ → List (ℕ × List ℕ)
options_of order bytes = options_within max_options order bytes

-- ---- of an interface

-- an interface with its name, if it has one
pub record Described : Type 0 where
  pub interface : Interface
  pub name : Option (List ℕ)

-- an interface before its options: its times are in microseconds
abbrev pub plain : Bool → Described
plain ethernet = record { interface = record { ethernet = ethernet; resolution = 6; offset = 0 }; name = None }

-- the interface with one option more: its name (2), the resolution of its times (9), or their offset in seconds (14)
abbrev pub with_option : Order → Described → ℕ × List ℕ → Described
with_option order d o =
    if o.0 == 2 then record d { name = Some o.1 }
    else if o.0 == 9 && length o.1 == 1 then record d { interface = record d.interface { resolution = slice_index o.1 0 } }
    else if o.0 == 14 && length o.1 == 8 then record d { interface = record d.interface { offset = number_in order w64 o.1 } }
    else d

-- ---- of a packet

-- the option is the comment (1) by which a capture says that the frame was lost
abbrev pub is_lost : ℕ × List ℕ → Bool
is_lost o = o.0 == 1 && same_bytes o.1 (codes "lost")
