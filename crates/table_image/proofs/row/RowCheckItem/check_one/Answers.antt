use Rattle.std.proofs.Common.{arith}
use Rattle.table_image.proofs.Checked.{FitsRow, row_passes, row_falls, row_far, row_misses}
use Rattle.table_image.proofs.row.RowCheckItem.check_one.Goals as goal

pub returns-then-from-low-clause-checked : goal.returns-then-from-low-clause-checked
returns-then-from-low-clause-checked c =
    let f : FitsRow c.args.self.now =
    record { start = omega arith; end = omega arith; distance = omega arith; port = omega arith; net = omega arith; node = omega arith } in
    row_falls c.args.context.ports c.args.low c.args.self.now c.args.at f (omega arith)

pub returns-then-self-gt-MAX_DISTANCE-clause-checked : goal.returns-then-self-gt-MAX_DISTANCE-clause-checked
returns-then-self-gt-MAX_DISTANCE-clause-checked c =
    let f : FitsRow c.args.self.now =
    record { start = omega arith; end = omega arith; distance = omega arith; port = omega arith; net = omega arith; node = omega arith } in
    row_far c.args.context.ports c.args.low c.args.self.now c.args.at f (omega arith) (omega arith)

pub returns-then-self-context-clause-checked : goal.returns-then-self-context-clause-checked
returns-then-self-context-clause-checked c =
    let f : FitsRow c.args.self.now =
    record { start = omega arith; end = omega arith; distance = omega arith; port = omega arith; net = omega arith; node = omega arith } in
    row_misses c.args.context.ports c.args.low c.args.self.now c.args.at f (omega arith) (omega arith) (omega arith)

pub returns-clause-checked : goal.returns-clause-checked
returns-clause-checked c =
    let f : FitsRow c.args.self.now =
    record { start = omega arith; end = omega arith; distance = omega arith; port = omega arith; net = omega arith; node = omega arith } in
    row_passes c.args.context.ports c.args.low c.args.self.now c.args.at f (omega arith) (omega arith) (omega arith)
