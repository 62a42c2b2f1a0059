use Rattle.std.proofs.Common.{arith}
use Rattle.table_image.proofs.Checked.{FitsMapping, mapping_falls, mapping_passes}
use Rattle.table_image.proofs.mapping.MappingCheckItem.check_one.Goals as goal

pub returns-then-number_of-low-clause-checked : goal.returns-then-number_of-low-clause-checked
returns-then-number_of-low-clause-checked c =
    let f : FitsMapping c.args.self.now = record { net = omega arith; node = omega arith; hardware = c.as_slice-hardware.ensures.six } in
    mapping_falls c.args.low c.args.self.now c.args.at f (omega arith)

pub returns-clause-checked : goal.returns-clause-checked
returns-clause-checked c =
    let f : FitsMapping c.args.self.now = record { net = omega arith; node = omega arith; hardware = c.as_slice-hardware.ensures.six } in
    mapping_passes c.args.low c.args.self.now c.args.at f (omega arith)
