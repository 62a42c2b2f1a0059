use Rattle.std.proofs.Common.{◌≡◌, ℕ, ◌<◌, Some, slice_get}
use Rattle.table_image.specs.declared.port.Port.{Port}
use Rattle.audit.specs.Hints.{hint_at, port_slot, FirstOr}
use Rattle.audit.proofs.next.Hints.add_ports.Given as goal

abbrev pub invariant-loop-port : goal.invariant-loop-port
invariant-loop-port l =
    ((p : ℕ) → p < l.port-index → (port : Port) → slice_get l.ports p ≡ Some port → hint_at l.self (port_slot port) ≡ l.s)
    × ((slot : ℕ) → FirstOr l.self l.initial.self l.s l.ports slot)
