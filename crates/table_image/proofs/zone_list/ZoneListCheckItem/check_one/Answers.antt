use Rattle.std.proofs.Common.{arith}
use Rattle.table_image.proofs.CheckedParts.{list_checks, list_falls}
use Rattle.table_image.proofs.zone_list.ZoneListCheckItem.check_one.Goals as goal

pub returns-then-from-low-clause-checked : goal.returns-then-from-low-clause-checked
returns-then-from-low-clause-checked c = list_falls c.args.context.version c.args.low c.args.self.now c.args.at (omega arith) (omega arith)

pub returns-clause-checked : goal.returns-clause-checked
returns-clause-checked c =
    list_checks c.args.context.version c.args.low c.args.self.now c.args.at c.check_zones.result (omega arith) (omega arith)
    (omega arith) c.check_zones.ensures.checked
