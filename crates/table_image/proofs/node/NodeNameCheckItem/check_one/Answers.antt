use Rattle.std.proofs.Common.{arith, inl, inr}
use Rattle.table_image.proofs.CheckedParts.{FitsName, name_socket, name_zero, name_falls, name_object, name_kind}
use Rattle.table_image.proofs.node.NodeNameCheckItem.check_one.Goals as goal

pub returns-then-self-lt1-2-clause-checked : goal.returns-then-self-lt1-2-clause-checked
returns-then-self-lt1-2-clause-checked c =
    let f : FitsName c.args.self.now = record { socket = omega arith; enumerator = omega arith } in
    name_zero c.args.low c.args.self.now c.args.at f (omega arith) (omega arith) (omega arith)

pub returns-then-from-low-clause-checked : goal.returns-then-from-low-clause-checked
returns-then-from-low-clause-checked c =
    let f : FitsName c.args.self.now = record { socket = omega arith; enumerator = omega arith } in
    name_falls c.args.low c.args.self.now c.args.at f (omega arith) (omega arith) (omega arith) (omega arith)

pub returns-in-Err-clause-checked : goal.returns-in-Err-clause-checked
returns-in-Err-clause-checked c =
    let f : FitsName c.args.self.now = record { socket = omega arith; enumerator = omega arith } in
    name_object c.args.low c.args.self.now c.args.at c.in-Err.flaw f (omega arith) (omega arith) (omega arith)
    (omega arith) c.in-Err.ensures.checked

pub returns-in-Ok-clause-checked : goal.returns-in-Ok-clause-checked
returns-in-Ok-clause-checked c =
    let f : FitsName c.args.self.now = record { socket = omega arith; enumerator = omega arith } in
    name_kind c.args.low c.args.self.now c.args.at c.in-Ok.end c.check_entity-in-Ok.result f (omega arith) (omega arith) (omega arith)
    (omega arith) c.in-Ok.ensures.checked c.check_entity-in-Ok.ensures.checked

pub returns-then-self-lt1-clause-checked : goal.returns-then-self-lt1-clause-checked
returns-then-self-lt1-clause-checked c = name_socket c.args.low c.args.self.now c.args.at (omega arith) (inl (omega arith))

pub returns-then-self-gt254-clause-checked : goal.returns-then-self-gt254-clause-checked
returns-then-self-gt254-clause-checked c = name_socket c.args.low c.args.self.now c.args.at (omega arith) (inr (omega arith, omega arith))
