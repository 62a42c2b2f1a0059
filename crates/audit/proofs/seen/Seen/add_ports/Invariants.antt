use Rattle.std.proofs.Common.{◌≡◌, ℕ, ◌<◌, Some, slice_get}
use Rattle.table_image.specs.declared.port.Port.{Port}
use Rattle.audit.specs.Seen.{HasSeen, SeesMore}
use Rattle.audit.proofs.seen.Seen.add_ports.Given as goal

abbrev pub invariant-loop-port : goal.invariant-loop-port
invariant-loop-port l =
    ((p : ℕ) → p < l.port-index → (port : Port) → slice_get l.ports p ≡ Some port → HasSeen l.self port.address port.hardware)
    × SeesMore l.initial.self l.self
