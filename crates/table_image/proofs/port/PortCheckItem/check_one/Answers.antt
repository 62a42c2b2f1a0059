use Rattle.std.proofs.Common.{arith}
use Rattle.table_image.proofs.Checked.{FitsPort, port_misses}
use Rattle.table_image.proofs.CheckedParts.{port_checks}
use Rattle.table_image.proofs.port.PortCheckItem.check_one.Goals as goal

pub returns-then-self-context-clause-checked : goal.returns-then-self-context-clause-checked
returns-then-self-context-clause-checked c =
    let f : FitsPort c.args.self.now =
    record { cable = omega arith; net = omega arith; node = omega arith; hardware = c.as_slice-hardware.ensures.six } in
    port_misses c.args.context.version c.args.context.cables c.args.self.now c.args.at f c.if-self-context.true

pub returns-clause-checked : goal.returns-clause-checked
returns-clause-checked c =
    let f : FitsPort c.args.self.now =
    record { cable = omega arith; net = omega arith; node = omega arith; hardware = c.as_slice-hardware.ensures.six } in
    port_checks c.args.context.version c.args.context.cables c.args.self.now c.args.at c.check_mappings.result f c.if-self-context.false
    c.check_mappings.ensures.checked
