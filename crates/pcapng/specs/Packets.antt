-- Packets, and the interfaces that they were seen on.
use Rattle.std.specs.Prelude.{ℕ, Bool, List, Option, Some, None, Result, Ok, Err, slice_get}
use Rattle.pcapng.specs.Times.{time_of}
use Rattle.pcapng.specs.declared.fault.Fault.{Fault}
use Rattle.pcapng.specs.declared.fault.Fault.TheVariants as faults
use Rattle.pcapng.specs.declared.interface.Interface.{Interface}

-- the interface with this number
abbrev pub interface_at : List Interface → ℕ → Result Interface Fault
interface_at interfaces index = found (slice_get interfaces index)
  where
    found : Option Interface → Result Interface Fault
    found None = Err faults.Interface
    found (Some i) = Ok i

-- the time of a block of an interface
abbrev pub time_on : Interface → ℕ → ℕ
time_on i units = time_of units i.resolution i.offset

-- a packet: its interface by number, its time, whether it is an Ethernet frame, whether all of it was captured, whether
-- the frame was lost, and its bytes
pub record Packed : Type 0 where
  pub interface : ℕ
  pub time : ℕ
  pub ethernet : Bool
  pub whole : Bool
  pub lost : Bool
  pub bytes : List ℕ
