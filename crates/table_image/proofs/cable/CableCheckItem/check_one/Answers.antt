use Rattle.std.proofs.Common.{arith}
use Rattle.table_image.proofs.CheckedParts.{cable_checks}
use Rattle.table_image.proofs.cable.CableCheckItem.check_one.Goals as goal

pub returns-clause-checked : goal.returns-clause-checked
returns-clause-checked c =
    cable_checks c.args.context.version c.args.self.now c.args.at c.check_zones.result (omega arith) (omega arith) c.check_zones.ensures.checked
